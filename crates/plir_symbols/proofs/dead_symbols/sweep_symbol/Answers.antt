use Rattle.std.proofs.Common.{inl, inr, refl, sym, ap, ◌∙◌}
use Rattle.std.specs.Prelude.{not}
use Rattle.plir_core.specs.declared.ptr.IRNode.TheVariants.{Operation}
use Rattle.plir_symbols.proofs.Going.{not-refused}
use Rattle.plir_symbols.proofs.dead_symbols.sweep_symbol.Goals as goal

pub returns-then-contains : goal.returns-then-contains
returns-then-contains g c = inr (ap not (sym c.contains.ensures ∙ c.if-contains.true), refl, refl, refl)

pub erase-requires-clause-unused : goal.erase-requires-clause-unused
erase-requires-clause-unused g c = (c.requires.may_go (sym c.contains.ensures ∙ c.if-contains.false)).unused

pub unreachable-requires : goal.unreachable-requires
unreachable-requires g c =
    let m = c.requires.may_go (sym c.contains.ensures ∙ c.if-contains.false) in
    let r = c.in-Err.ensures.refused in
    not-refused g.D.OpSet.is_symbol c.args.ctx.now c.args.table.now.op c.args.op m.name m.named c.requires.here r.0 r.2

pub returns : goal.returns
returns g c = inl (
  ap not (sym c.contains.ensures ∙ c.if-contains.false),
  refl,
  record {
    after = c.in-Ok.ensures.after;
    tree = c.in-Ok.ensures.tree;
    thinned =
        c.erasures_thin.ensures.erased c.erase.new.ctx (Operation c.args.op) c.in-Ok.ensures.tree
        c.in-Ok.ensures.after;
    kept = record {
      op = ap (λ z. z.op) c.in-Ok.ensures.forgotten.table;
      agrees = c.in-Ok.ensures.agrees;
      all_agree = c.in-Ok.ensures.all_agree;
      given = c.in-Ok.ensures.given;
    };
  },
)
