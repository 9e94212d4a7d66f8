-- What stands in place of what is live.
use Rattle.std.proofs.Common.{◌≡◌, ◌∙◌, ℕ, Bool, true, false, cond, nat_lt, length, Option, Some}
use Rattle.std.proofs.Common.{None, refl, sym, ap, subst}
use Rattle.std.proofs.lemmas.Option.{same_Some}
use Rattle.std.specs.Option.{unwrap_or}
use Rattle.std.specs.Cmp.{second_so}
use Rattle.plir_core.specs.declared.ptr.Ptr.{Ptr}
use Rattle.plir_core.specs.declared.ptr.BasicBlock.{BasicBlock as BlockKind}
use Rattle.plir_core.specs.declared.ptr.IRNode.TheVariants.{BasicBlock}
use Rattle.plir_core.specs.declared.value.Value.{Value}
use Rattle.plir_core.specs.declared.value.DefiningEntity.{DefiningEntity}
use Rattle.plir_core.specs.SameValue.{same_entity, same_ptr, same_value}
use Rattle.plir_core.specs.ContextView.{ContextView, IsLive, IsValueLive, entity_node, types_from}
use Rattle.plir_copies.specs.Images.{Images, AreImagesLive, block_in, value_in, with_block, with_value}
use Rattle.plir_copies.specs.Copied.{is_among_first, value_at, with_values_of}

module _ {K A T : Type 0} (s : ContextView K A T) (m : Images) (h : AreImagesLive s m) where
  pub block-live : (b : Ptr BlockKind) → IsLive s (BasicBlock b) → IsLive s (BasicBlock (block_in m b))
  block-live b l = go (m.block b) refl
    where
      go : (o : Option (Ptr BlockKind)) → m.block b ≡ o → IsLive s (BasicBlock (unwrap_or o b))
      go None e = l
      go (Some c) e = h.blocks b c e

  pub value-live : (v : Value) → IsValueLive s v → IsValueLive s (value_in m v)
  value-live v l = go (m.value v) refl
    where
      go : (o : Option Value) → m.value v ≡ o → IsValueLive s (unwrap_or o v)
      go None e = l
      go (Some w) e = h.values v w e

  -- and where a live one is put in
  pub live-value : (v w : Value) → IsValueLive s w → AreImagesLive s (with_value m v w)
  live-value v w l = record { values = λ x y e. go (same_value v x) x y e; blocks = h.blocks }
    where
      go : (b : Bool) (x y : Value) → cond b (Some w) (m.value x) ≡ Some y → IsValueLive s y
      go true x y e = subst (IsValueLive s) (same_Some w y e) l
      go false x y e = h.values x y e

  pub live-block : (b c : Ptr BlockKind) → IsLive s (BasicBlock c) → AreImagesLive s (with_block m b c)
  live-block b c l = record { values = h.values; blocks = λ x y e. go (same_ptr b x) x y e }
    where
      go : (t : Bool) (x y : Ptr BlockKind) → cond t (Some c) (m.block x) ≡ Some y → IsLive s (BasicBlock y)
      go true x y e = subst (λ z. IsLive s (BasicBlock z)) (same_Some c y e) l
      go false x y e = h.blocks x y e

  -- as many values as an operation or a block has stand in place of others
  pub live-values : (e f : DefiningEntity) (n : ℕ) → IsLive s (entity_node f) → n ≡ length (types_from s f)
      → AreImagesLive s (with_values_of m e f n)
  live-values e f n l is = record { values = λ x y q. go x (is_among_first e n x) refl y q; blocks = h.blocks }
    where
      within : (x : Value) → is_among_first e n x ≡ true → IsValueLive s (value_at f x.index)
      within x i =
          let here : nat_lt x.index (length (types_from s f)) ≡ true =
          ap (nat_lt x.index) (sym is) ∙ second_so (same_entity e x.entity) (nat_lt x.index n) i in
          rw (l, here) refl

      go : (x : Value) (b : Bool) → is_among_first e n x ≡ b → (y : Value)
          → cond b (Some (value_at f x.index)) (m.value x) ≡ Some y → IsValueLive s y
      go x true i y q = subst (IsValueLive s) (same_Some (value_at f x.index) y q) (within x i)
      go x false i y q = h.values x y q
