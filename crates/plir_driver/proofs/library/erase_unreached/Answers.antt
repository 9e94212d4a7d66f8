use Rattle.std.proofs.Common.{◌≡◌, refl, sym}
use Rattle.std.proofs.lemmas.Result.{err_from_is_err_and}
use Rattle.plir_core.specs.declared.ptr.IRNode.TheVariants.{Operation}
use Rattle.plir_store.specs.FilterLaws.{not-both}
use Rattle.plir_driver.specs.declared.pass_end.PassEnd.TheVariants.{Changed}
use Rattle.plir_driver.proofs.library.erase_unreached.Goals as goal

pub eliminate_unreached_code-requires-clause-unused : goal.eliminate_unreached_code-requires-clause-unused
eliminate_unreached_code-requires-clause-unused g c =
    c.if-not-is_unused_outside.ensures.value.0 refl

pub returns-then-not-is_unused_outside-clause-refused : goal.returns-then-not-is_unused_outside-clause-refused
returns-then-not-is_unused_outside-clause-refused g c =
    λ unused. not-both _ (c.is_unused_outside.ensures.value.1 unused) c.if-not-is_unused_outside.true

pub returns-in_err-eliminate_unreached_code-clause-live : goal.returns-in_err-eliminate_unreached_code-clause-live
returns-in_err-eliminate_unreached_code-clause-live g c =
    c.lawful_changes.ensures.stays c.args.ctx.now c.eliminate_unreached_code.new.ctx (Operation c.args.root)
    c.stands.ensures.standing.forest c.eliminate_unreached_code.ensures.lawful c.requires

pub returns-in_err-eliminate_unreached_code-clause-refused :
    goal.returns-in_err-eliminate_unreached_code-clause-refused
returns-in_err-eliminate_unreached_code-clause-refused g c =
    let p = err_from_is_err_and c.from_residual.result c.from_residual.ensures.1 in rw (p.1, p.2) tt

pub returns-clause-live : goal.returns-clause-live
returns-clause-live g c =
    c.lawful_changes.ensures.stays c.args.ctx.now c.eliminate_unreached_code.new.ctx (Operation c.args.root)
    c.stands.ensures.standing.forest c.eliminate_unreached_code.ensures.lawful c.requires

pub returns-clause-end : goal.returns-clause-end
returns-clause-end g c =
    c.end_of_erasures.ensures.end c.args.ctx.now (sym c.num_live-live_before.ensures.value)
    c.in_ok-eliminate_unreached_code.ensures.left.thinned

pub returns-clause-exact : goal.returns-clause-exact
returns-clause-exact g c =
    λ told.
    (let is : c.end_of_erasures.result ≡ Changed = cc (told) in
    c.end_of_erasures.ensures.exact c.args.ctx.now (sym c.num_live-live_before.ensures.value) is)

pub returns-clause-swept : goal.returns-clause-swept
returns-clause-swept g c = record {
  left = c.in_ok-eliminate_unreached_code.ensures.left;
  clean = c.in_ok-eliminate_unreached_code.ensures.clean;
  none_dead = c.in_ok-eliminate_unreached_code.ensures.none_dead;
  lawful = c.eliminate_unreached_code.ensures.lawful;
}
