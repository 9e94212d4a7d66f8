-- Where one value has come in place of another one, nothing else has changed.
use Rattle.std.proofs.Common.{◌≡◌, ◌⊎◌, ℕ, zero, suc, ◌+◌, ◌<◌, cond, List, [], ◌∷◌, length, map, get_or}
use Rattle.std.proofs.Common.{Option, Some, None, is_some, inl, inr, refl, sym, ◌∙◌, ap, subst, arith}
use Rattle.std.specs.Prelude.{Contains, option_map}
use Rattle.std.proofs.lemmas.List.{length-map, get_or-map}
use Rattle.std.proofs.lemmas.List.Elements.{Contains-get_or}
use Rattle.std.proofs.lemmas.List.Sums.{sum_by-cons}
use Rattle.plir_store.specs.Table.{Cell, no_cell, content_at, cell_at}
use Rattle.plir_core.specs.declared.ptr.Ptr.{Ptr}
use Rattle.plir_core.specs.declared.ptr.Operation.{Operation as OperationKind}
use Rattle.plir_core.specs.declared.ptr.IRNode.TheVariants.{Operation}
use Rattle.plir_core.specs.declared.value.Value.{Value}
use Rattle.plir_core.specs.declared.value.DefiningEntity.{DefiningEntity}
use Rattle.plir_core.specs.declared.value.DefiningEntity.TheVariants.{Op, Block}
use Rattle.plir_core.specs.Contents.{OpView}
use Rattle.plir_core.specs.ContextView.{ContextView, IsLive, types_from, entity_node, op_at}
use Rattle.plir_core.specs.ContextView.{operands_of, operands_in, results_in}
use Rattle.plir_core.specs.Held.{KeepsNodes}
use Rattle.plir_core.specs.Replaced.{replaced, op_replaced, cell_replaced, with_uses_replaced}
use Rattle.plir_core.specs.Rewired.{IsRewired}
use Rattle.plir_core.specs.SameValue.{same_value, value-exact}
use Rattle.plir_core.specs.Uses.{total}
use Rattle.plir_core.specs.ValueUses.{HasUses, times_in, uses_in_slot, num_uses_of}
use Rattle.plir_core.proofs.EditsJoined.{IsAlike, alike_same, keeps_alike}
use Rattle.plir_core.proofs.Freed.{bool_cases}
use Rattle.plir_core.proofs.TimesUsed.{not_same}

-- sums of numbers that are the same, or are sums
pub total_same : (f g : ℕ → ℕ) → ((k : ℕ) → f k ≡ g k) → (n : ℕ) → total f n ≡ total g n
total_same f g e zero = refl
total_same f g e (suc n) =
    let a = total_same f g e n in
    let b = e n in
    omega arith

total_sum : (f g h : ℕ → ℕ) → ((k : ℕ) → f k ≡ g k + h k) → (n : ℕ) → total f n ≡ total g n + total h n
total_sum f g h e zero = refl
total_sum f g h e (suc n) =
    let a = total_sum f g h e n in
    let b = e n in
    omega arith

mapped_at : {X : Type 0} (f : X → X) (d : X) → f d ≡ d → (xs : List X) (i : ℕ) → get_or (map f xs) i d ≡ f
    (get_or xs i d)
mapped_at f d e [] i = sym e
mapped_at f d e (x ∷ xs) zero = refl
mapped_at f d e (x ∷ xs) (suc i) = mapped_at f d e xs i

-- how often y is x: once or not
abbrev pub time : Value → Value → ℕ
time x y = cond (same_value y x) 1 0

pub time_same : (x y : Value) → y ≡ x → time x y ≡ 1
time_same x y e = ap (λ b. cond {A = ℕ} b 1 0) ((value-exact y x).1 e)

pub time_other : (x y : Value) → (y ≡ x → ⊥) → time x y ≡ 0
time_other x y n = ap (λ b. cond {A = ℕ} b 1 0) (not_same (same_value y x) (value-exact y x).0 n)

-- Among values.
module _ (v w : Value) where
  pub told : (x : Value) → (x ≡ v) ⊎ (x ≡ v → ⊥)
  told x = elim (bool_cases (same_value x v)) [
    | inl e ↦ inl ((value-exact x v).0 e)
    | inr e ↦ inr (λ q. let a = (value-exact x v).1 q in let b : ⊥ = cc in b)
  ]

  -- w stands where v stood, and any other value where it stood
  pub at_v : (x : Value) → x ≡ v → replaced v w x ≡ w
  at_v x e = ap (λ b. cond b w x) ((value-exact x v).1 e)

  pub at_other : (x : Value) → (x ≡ v → ⊥) → replaced v w x ≡ x
  at_other x n = ap (λ b. cond b w x) (not_same (same_value x v) (value-exact x v).0 n)

  pub at_w : replaced v w w ≡ w
  at_w = elim (told w) [ inl q ↦ at_v w q | inr n ↦ at_other w n ]

  put : (xs : List Value) (x y : Value) → replaced v w x ≡ y → Contains xs x → Contains (map (replaced v w) xs) y
  put xs x y e c = (
    c.0,
    subst (λ z. c.0 < z) (sym (length-map xs (replaced v w))) c.1,
    get_or-map (replaced v w) xs c.0 x y c.1 ∙ ap (replaced v w) c.2 ∙ e,
  )

  -- what stands there came from what stood there
  came : (xs : List Value) (y : Value) → Contains (map (replaced v w) xs) y → (x : Value) × (Contains xs x ×
      (replaced v w x ≡ y))
  came xs y c =
      let short = subst (λ z. c.0 < z) (length-map xs (replaced v w)) c.1 in (
        get_or xs c.0 y,
        (Contains-get_or xs c.0 y short, sym (get_or-map (replaced v w) xs c.0 y y short) ∙ c.2),
      )

  was_there : (xs : List Value) (x : Value) → (x ≡ w → ⊥) → Contains (map (replaced v w) xs) x → Contains xs x ×
      (x ≡ v → ⊥)
  was_there xs x n c =
      let r = came xs x c in
      elim (told r.0) [
        | inl q ↦ absurd (n (sym r.1.1 ∙ at_v r.0 q))
        | inr m ↦
            let same : r.0 ≡ x = sym (at_other r.0 m) ∙ r.1.1 in
            (subst (Contains xs) same r.1.0, λ q. m (same ∙ q))
      ]

  w_from : (xs : List Value) → Contains (map (replaced v w) xs) w → Contains xs v ⊎ Contains xs w
  w_from xs c =
      let r = came xs w c in
      elim (told r.0) [
        | inl q ↦ inl (subst (Contains xs) q r.1.0)
        | inr m ↦ inr (subst (Contains xs) (sym (at_other r.0 m) ∙ r.1.1) r.1.0)
      ]

  -- how often they stand there
  module _ (x : Value) (not_v : x ≡ v → ⊥) (not_w : x ≡ w → ⊥) where
    other_time : (y : Value) → time x (replaced v w y) ≡ time x y
    other_time y = elim (told y) [
      | inl q ↦
          ap (time x) (at_v y q) ∙ time_other x w (λ e. not_w (sym e))
          ∙ sym (time_other x y (λ e. not_v (sym e ∙ q)))
      | inr n ↦ ap (time x) (at_other y n)
    ]

    other_times : (xs : List Value) → times_in x (map (replaced v w) xs) ≡ times_in x xs
    other_times [] = refl
    other_times (y ∷ ys) =
        let a = sum_by-cons (time x) (replaced v w y) (map (replaced v w) ys) in
        let b = sum_by-cons (time x) y ys in
        let c = other_times ys in
        let d = other_time y in
        omega arith

  module _ (apart : v ≡ w → ⊥) where
    w_time : (y : Value) → time w (replaced v w y) ≡ time v y + time w y
    w_time y = elim (told y) [
      | inl q ↦
          let a = ap (time w) (at_v y q) ∙ time_same w w refl in
          let b = time_same v y q in
          let c = time_other w y (λ e. apart (sym q ∙ e)) in
          omega arith
      | inr n ↦
          let a = ap (time w) (at_other y n) in
          let b = time_other v y n in
          omega arith
    ]

    w_times : (xs : List Value) → times_in w (map (replaced v w) xs) ≡ times_in v xs + times_in w xs
    w_times [] = refl
    w_times (y ∷ ys) =
        let a = sum_by-cons (time w) (replaced v w y) (map (replaced v w) ys) in
        let b = sum_by-cons (time v) y ys in
        let c = sum_by-cons (time w) y ys in
        let d = w_times ys in
        let e = w_time y in
        omega arith

-- In what a slot holds.
module _ {K A : Type 0} (v w : Value) where
  mapped_some : (o : Option (OpView K A)) → is_some (option_map (op_replaced v w) o) ≡ is_some o
  mapped_some None = refl
  mapped_some (Some o) = refl

  mapped_results : (o : Option (OpView K A)) → results_in (option_map (op_replaced v w) o) ≡ results_in o
  mapped_results None = refl
  mapped_results (Some o) = refl

  mapped_operands : (o : Option (OpView K A)) → operands_in (option_map (op_replaced v w) o) ≡ map (replaced v w)
      (operands_in o)
  mapped_operands None = refl
  mapped_operands (Some o) = refl

-- In a context.
module _ {K A T : Type 0} (s : ContextView K A T) (v w : Value) where
  abbrev after : ContextView K A T
  after = with_uses_replaced s v w

  cells : (i : ℕ) → cell_at after.nodes.ops i ≡ cell_replaced v w (cell_at s.nodes.ops i)
  cells i = mapped_at (cell_replaced v w) no_cell refl s.nodes.ops.slots i

  held : (i : ℕ) → content_at after.nodes.ops i ≡ option_map (op_replaced v w) (content_at s.nodes.ops i)
  held i = ap (λ (c : Cell (OpView K A)). c.content) (cells i)

  alike : IsAlike s.nodes.ops after.nodes.ops
  alike = record {
    full = λ i. ap is_some (held i) ∙ mapped_some v w (content_at s.nodes.ops i);
    versions = λ i. ap (λ (c : Cell (OpView K A)). c.version) (cells i);
  }

  kept : KeepsNodes s after
  kept = keeps_alike s after.nodes.ops s.nodes.blocks alike (alike_same s.nodes.blocks)

  same_types : (d : DefiningEntity) → types_from after d ≡ types_from s d
  same_types (Op p) = ap results_in (held p.slot) ∙ mapped_results v w (op_at s p)
  same_types (Block p) = refl

  operands_now : (p : Ptr OperationKind) → operands_of after p ≡ map (replaced v w) (operands_of s p)
  operands_now p = ap operands_in (held p.slot) ∙ mapped_operands v w (op_at s p)

  slot_now : (x : Value) (i : ℕ) → uses_in_slot after x i ≡ times_in x (map (replaced v w)
      (operands_in (content_at s.nodes.ops i)))
  slot_now x i = ap (times_in x) (ap operands_in (held i) ∙ mapped_operands v w (content_at s.nodes.ops i))

  num_now : (x : Value) → num_uses_of after x ≡ total (uses_in_slot after x) (length s.nodes.ops.slots)
  num_now x = ap (total (uses_in_slot after x)) (length-map s.nodes.ops.slots (cell_replaced v w))

  -- a use in t is one in s, and the other way round
  use_back : (x : Value) → HasUses after x → (p : Ptr OperationKind) × (IsLive s (Operation p) × Contains
      (map (replaced v w) (operands_of s p)) x)
  use_back x u = (
    u.0,
    (
      sym (kept.live (Operation u.0)) ∙ u.1.0,
      subst (λ xs. Contains xs x) (operands_now u.0) u.1.1,
    ),
  )

  use_on : (x y : Value) → replaced v w x ≡ y → HasUses s x → HasUses after y
  use_on x y e u = (
    u.0,
    (
      kept.live (Operation u.0) ∙ u.1.0,
      subst (λ xs. Contains xs y) (sym (operands_now u.0)) (put v w (operands_of s u.0) x y e u.1.1),
    ),
  )

  pub is_rewired : IsRewired s after v w
  is_rewired = record {
    keeps = kept;
    ops = λ p. held p.slot;
    blocks = refl;
    regions = refl;
    free = refl;
    values = λ x. rw (kept.live (entity_node x.entity), same_types x.entity) refl;
    value_types = λ x. rw (same_types x.entity) refl;
    gone = λ n u. let r = use_back v u in (was_there v w (operands_of s r.0) v n r.1.1).1 refl;
    used = (
      λ u. let r = use_back w u in elim (w_from v w (operands_of s r.0) r.1.1) [
        | inl c ↦ inl (r.0, (r.1.0, c))
        | inr c ↦ inr (r.0, (r.1.0, c))
      ],
      λ c. elim c [ inl u ↦ use_on v w (at_v v w v refl) u | inr u ↦ use_on w w (at_w v w) u ],
    );
    count = λ n. num_now w ∙ total_sum (uses_in_slot after w) (uses_in_slot s v) (uses_in_slot s w)
        (λ i. slot_now w i ∙ w_times v w n (operands_in (content_at s.nodes.ops i))) (length s.nodes.ops.slots);
    others = λ x m n. record {
      has = (
        λ u. let r = use_back x u in (r.0, (r.1.0, (was_there v w (operands_of s r.0) x n r.1.1).0)),
        λ u. use_on x x (at_other v w x m) u,
      );
      count = num_now x ∙ total_same (uses_in_slot after x) (uses_in_slot s x)
          (λ i. slot_now x i ∙ other_times v w x m n (operands_in (content_at s.nodes.ops i)))
          (length s.nodes.ops.slots);
    };
  }
