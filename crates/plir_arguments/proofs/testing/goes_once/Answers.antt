use Rattle.std.proofs.Common.{◌≡◌, ◌<◌, ◌≤◌, ◌+◌, ◌∙◌, ℕ, ◌⊎◌, inl, inr, arith, length, refl, sym, subst}
use Rattle.std.proofs.lemmas.Bool.{false≢true}
use Rattle.std.proofs.lemmas.Option.{slice_get_within}
use Rattle.plir_core.specs.ContextView.{successors_of}
use Rattle.plir_arguments.specs.Turned.{GoesTo}
use Rattle.plir_arguments.proofs.Members.{number-told}
use Rattle.plir_arguments.proofs.testing.goes_once.Goals as goal

either : (j i : ℕ) → j < i + 1 → (j < i) ⊎ (j ≡ i)
either j i h = grind arith

pub returns-then-is_other : goal.returns-then-is_other
returns-then-is_other g c =
    let r = c.is_other.ensures.0 c.if-is_other.true in (
      λ yes. absurd (false≢true yes),
      λ once. absurd (r.0 (once c.loop-i.i r.1)),
    )

pub loop-i-preserved : goal.loop-i-preserved
loop-i-preserved g c = λ j below goes. elim (either j c.loop-i.i below) [
  | inl less ↦ c.loop-i.invariant j less goes
  | inr at ↦ elim (number-told j c.args.place) [
    | inl is ↦ is
    | inr off ↦
        absurd (false≢true (sym c.if-is_other.false ∙ c.is_other.ensures.1
        (λ e. off (at ∙ e), subst (λ k. GoesTo c.args.ctx.now c.args.op k c.args.block) at goes)))
  ]
]

pub returns : goal.returns
returns g c =
    let past : length (successors_of c.args.ctx.now c.args.op) ≤ c.loop-i.i =
    omega (arith, c.loop-i-test.false, c.get_num_successors-i-end.ensures.value) in (
      λ _ j goes.
          let below : j < length (successors_of c.args.ctx.now c.args.op) = slice_get_within _ j c.args.block goes in
          c.loop-i.invariant j (omega (arith, past, below)) goes,
      λ _. refl,
    )
