use Rattle.std.proofs.Common.{◌≡◌, ℕ, ◌<◌, ◌≤◌, true, false, List, length, Some, refl, sym, ◌∙◌, ap, subst, arith}
use Rattle.std.specs.Prelude.{All, slice_get, slice_index_or, option_map}
use Rattle.std.proofs.lemmas.Option.{slice_get_within, slice_get-get_or, get_or_from_slice_get}
use Rattle.plir_core.specs.declared.ptr.IRNode.TheVariants.{Region}
use Rattle.plir_iface.specs.Counts.{regions_of}
use Rattle.plir_iface.specs.Regions.{HasOneBlock}
use Rattle.plir_iface.proofs.blocks.has_single_blocks.Goals as goal

module _ {A : Type 0} (P : A → Type 0) (xs : List A) where
  each_place : (n : ℕ) → length xs ≤ n → ((k : ℕ) (x : A) → k < n → slice_get xs k ≡ Some x → P x) → All P xs
  each_place n past f = λ k d h. f k (slice_index_or xs k d) (omega arith) (slice_get-get_or xs k d h)

  at_place : (i : ℕ) (x : A) → slice_get xs i ≡ Some x → All P xs → P x
  at_place i x e a = subst P (get_or_from_slice_get xs i x x e) (a i x (slice_get_within xs i x e))

pub returns-then-not-has_one_block-clause-value : goal.returns-then-not-has_one_block-clause-value
returns-then-not-has_one_block-clause-value g c = (
  λ h. let b : true ≡ false = sym h in cc,
  λ a. c.if-not-has_one_block.ensures.value.1 (at_place (HasOneBlock c.args.ctx.now)
      (regions_of c.args.ctx.now c.args.op) c.loop-place.place (Region c.in-Some.region)
      (sym c.loop-place.invariant.at ∙ ap (option_map Region) c.in-Some.is) a),
)

pub returns-clause-value : goal.returns-clause-value
returns-clause-value g c = (
  λ h. each_place (HasOneBlock c.args.ctx.now) (regions_of c.args.ctx.now c.args.op) c.loop-place.place
      (omega (arith, c.num_regions-place-end.ensures.value, c.loop-place-test.false)) c.loop-place.invariant.one,
  λ a. refl,
)
