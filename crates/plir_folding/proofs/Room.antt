-- How many slots of operations hold none: each new constant takes one.
use Rattle.std.proofs.Common.{◌≡◌, ◌<◌, ◌≤◌, ◌+◌, ◌^◌, ◌==◌, ℕ, zero, suc, arith, Bool, true, false, Option, Some, None}
use Rattle.std.proofs.Common.{inl, inr, refl, sym, ap, subst, ◌∙◌}
use Rattle.std.specs.Prelude.{◌&&◌, is_some}
use Rattle.std.proofs.lemmas.Bool.Decides.{eqb_tells}
use Rattle.plir_store.specs.Table.{Table, content_at, version_at, is_live_at}
use Rattle.plir_store.specs.FilterLaws.{not-both}
use Rattle.plir_core.specs.declared.ptr.Ptr.{Ptr}
use Rattle.plir_core.specs.declared.ptr.Operation.{Operation as OperationKind}
use Rattle.plir_core.specs.declared.ptr.IRNode.TheVariants.{Operation}
use Rattle.plir_core.specs.Contents.{OpView}
use Rattle.plir_core.specs.Nodes.{ptr_at}
use Rattle.plir_core.specs.ContextView.{ContextView, is_live, IsIndexed, given_out}
use Rattle.plir_folding.specs.Worth.{Integer}
use Rattle.plir_folding.specs.Folded.{IsFolded, IsNewConstantOf}

-- 1 for nothing, and 0 for something
abbrev pub vacant : {X : Type 0} → Option X → ℕ
vacant None = 1
vacant (Some x) = 0

-- how many of the first n slots are vacant
pub vacant_below : {X : Type 0} → (ℕ → Option X) → ℕ → ℕ
vacant_below f zero = 0
vacant_below f (suc n) = vacant (f n) + vacant_below f n

module _ {X : Type 0} (f g : ℕ → Option X) (less : (i : ℕ) → vacant (g i) ≤ vacant (f i)) where
  pub vacant-less : (n : ℕ) → vacant_below g n ≤ vacant_below f n
  unfolding vacant_below
  vacant-less zero = omega arith
  vacant-less (suc n) = (let a = less n in let b = vacant-less n in omega (arith, a, b))

  pub vacant-fewer : (n i : ℕ) → i < n → vacant (g i) < vacant (f i) → vacant_below g n < vacant_below f n
  unfolding vacant_below
  vacant-fewer zero i h fewer = absurd (omega (arith, h))
  vacant-fewer (suc n) i h fewer = elim (eqb_tells i n) [
    | inl
        e ↦ (let a = subst (λ z. vacant (g z) < vacant (f z)) e.1 fewer in let b = vacant-less n in omega (arith, a, b))
    | inr ne ↦
        (let a = less n in let b = vacant-fewer n i (let d = ne.1 in omega (arith, h, d)) fewer in omega (arith, a, b))
  ]

module _ {C : Type 0} where
  -- a slot that holds something holds it under its version
  pub live-now : (t : Table C) (i : ℕ) (v : C) → content_at t i ≡ Some v → is_live_at t i (version_at t i) ≡ true
  live-now t i v e = elim (eqb_tells (version_at t i) (version_at t i)) [
    | inl h ↦ ap (λ z. is_some z && (version_at t i == version_at t i)) e ∙ h.0
    | inr h ↦ absurd (h.1 refl)
  ]

  -- what is live is held
  pub live-some : (t : Table C) (i v : ℕ) → is_live_at t i v ≡ true → (x : C) × (content_at t i ≡ Some x)
  live-some t i v l = go (content_at t i) refl l
    where
      go : (o : Option C) → content_at t i ≡ o → is_some o && (version_at t i == v) ≡ true
          → (x : C) × (content_at t i ≡ Some x)
      go None q l = absurd (not-both false l refl)
      go (Some x) q l = (x, q)

  pub live-version : (t : Table C) (i v : ℕ) → is_live_at t i v ≡ true → version_at t i ≡ v
  live-version t i v l = go (is_some (content_at t i)) l
    where
      go : (b : Bool) → b && (version_at t i == v) ≡ true → version_at t i ≡ v
      go false l = absurd (not-both false l refl)
      go true l =
          elim (eqb_tells (version_at t i) v) [ inl h ↦ h.1 | inr h ↦ absurd (not-both (version_at t i == v) l h.0) ]

module _ {K A T : Type 0} where
  -- how many slots of operations are vacant, of all that there may be
  pub room : ContextView K A T → ℕ
  room s = vacant_below (content_at s.nodes.ops) (2 ^ 32)

  module _ (fold : K → Integer → Integer → Option Integer) (s t : ContextView K A T) (f : IsFolded fold s t) where
    stays : (i : ℕ) → vacant (content_at t.nodes.ops i) ≤ vacant (content_at s.nodes.ops i)
    stays i = go (content_at s.nodes.ops i) refl
      where
        go : (o : Option (OpView K A)) → content_at s.nodes.ops i ≡ o
            → vacant (content_at t.nodes.ops i) ≤ vacant (content_at s.nodes.ops i)
        go None q =
            subst (λ z. vacant (content_at t.nodes.ops i) ≤ vacant z) (sym q) (at-most (content_at t.nodes.ops i))
          where
            at-most : (o : Option (OpView K A)) → vacant o ≤ 1
            at-most None = omega arith
            at-most (Some x) = omega arith
        go (Some v) q =
            let there = f.live (Operation (ptr_at s.nodes.ops i)) (live-now s.nodes.ops i v q) in
            let held = live-some t.nodes.ops i (version_at s.nodes.ops i) there in
            subst (λ z. vacant z ≤ vacant (content_at s.nodes.ops i)) (sym held.1) (omega arith)

    pub no-more-room : room t ≤ room s
    unfolding room
    no-more-room = vacant-less (content_at s.nodes.ops) (content_at t.nodes.ops) stays (2 ^ 32)

    module _ (p : Ptr OperationKind) (n : Integer) (new : IsNewConstantOf s t p n) (indexed : IsIndexed t)
        (given : given_out t (Operation p) ≡ true) where
      -- the slot was vacant
      was-vacant : content_at s.nodes.ops p.slot ≡ None
      was-vacant = go (content_at s.nodes.ops p.slot) refl
        where
          go : (o : Option (OpView K A)) → content_at s.nodes.ops p.slot ≡ o → content_at s.nodes.ops p.slot ≡ None
          go None q = q
          go (Some v) q =
              let before = live-now s.nodes.ops p.slot v q in
              let after = f.live (Operation (ptr_at s.nodes.ops p.slot)) before in
              let same =
              sym (live-version t.nodes.ops p.slot (version_at s.nodes.ops p.slot) after)
              ∙ live-version t.nodes.ops p.slot p.version new.live in
              absurd (not-both (is_live s (Operation p))
              (subst (λ z. is_live_at s.nodes.ops p.slot z ≡ true) same before) new.new)

      within : p.slot < 2 ^ 32
      within = (let e = indexed.ops p given in omega (arith, e))

      pub less-room : room t < room s
      unfolding room
      less-room = vacant-fewer (content_at s.nodes.ops) (content_at t.nodes.ops) stays (2 ^ 32) p.slot within
          (subst (λ z. vacant z < vacant (content_at s.nodes.ops p.slot)) (sym new.holds)
          (subst (λ z. 0 < vacant z) (sym was-vacant) (omega arith)))
