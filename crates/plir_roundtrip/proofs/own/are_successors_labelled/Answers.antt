use Rattle.std.proofs.Common.{◌≡◌, true, refl, sym, subst, arith}
use Rattle.std.proofs.lemmas.Bool.{false≢true}
use Rattle.plir_core.specs.ContextView.{label_of, successors_of}
use Rattle.plir_attr_text.specs.Writable.{IsNameOrMark}
use Rattle.plir_roundtrip.proofs.Climbs.{all_from_each, each_from_all, one_more_at}
use Rattle.plir_roundtrip.proofs.own.are_successors_labelled.Goals as goal

pub successors-preserved : goal.successors-preserved
successors-preserved g c =
    let s = c.args.ctx.now in
    let passed : c.is_name_or_none.result ≡ true = cc in
    one_more_at (λ b. IsNameOrMark (label_of s b)) (successors_of s c.args.op) c.successors.place
    c.get_successor.result c.get_successor.ensures.value
    (subst IsNameOrMark c.label.ensures.value (c.is_name_or_none.ensures.0 passed)) c.successors.invariant

pub returns : goal.returns
returns g c = (
  λ t. all_from_each (λ b. IsNameOrMark (label_of c.args.ctx.now b)) (successors_of c.args.ctx.now c.args.op)
      c.successors.place (omega arith) c.successors.invariant,
  λ all. refl,
)

pub returns-then-not-is_name_or_none : goal.returns-then-not-is_name_or_none
returns-then-not-is_name_or_none g c = (
  λ t. absurd (false≢true t),
  λ all.
      let s = c.args.ctx.now in
      let here : IsNameOrMark (label_of s c.get_successor.result) =
      each_from_all (λ b. IsNameOrMark (label_of s b)) (successors_of s c.args.op) c.successors.place
      c.get_successor.result c.get_successor.ensures.value all in
      let passed : c.is_name_or_none.result ≡ true =
      c.is_name_or_none.ensures.1 (subst IsNameOrMark (sym c.label.ensures.value) here) in
      absurd (let f : ⊥ = cc in f),
)
