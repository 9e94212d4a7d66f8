use Rattle.std.proofs.Common.{◌∙◌, ap}
use Rattle.std.proofs.lemmas.Option.{none-some, same_Some}
use Rattle.std.specs.Prelude.{reverse}
use Rattle.plir_store.specs.Members.{head}
use Rattle.plir_core.specs.declared.ptr.IRNode.TheVariants.{Operation}
use Rattle.plir_inline.proofs.Lists.{back, op-same}
use Rattle.plir_inline.proofs.putting.last_op.Goals as goal

pub unreachable-requires : goal.unreachable-requires
unreachable-requires g c =
    let h = c.requires.ends in
    none-some (Operation h.1) (c.in-None.ensures.value ∙ c.last_child_is_back.ensures
    ∙ ap (λ xs. head (reverse xs)) h.2 ∙ back h.0 (Operation h.1))

pub returns : goal.returns
returns g c = λ body last ends.
    op-same c.in-Some.last last (same_Some _ _ (c.in-Some.ensures.value ∙ c.last_child_is_back.ensures
    ∙ ap (λ xs. head (reverse xs)) ends ∙ back body (Operation last)))
