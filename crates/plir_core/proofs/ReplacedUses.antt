-- A value comes in place of another one.
use Rattle.std.proofs.Common.{◌≡◌, ℕ, zero, suc, ◌+◌, ◌<◌, ◌≤◌, Bool, true, false, cond, List, [], ◌∷◌, length, map}
use Rattle.std.proofs.Common.{get_or, Option, Some, None, refl, sym, ◌∙◌, ap, arith}
use Rattle.std.specs.Prelude.{All, option_map, slice_set}
use Rattle.std.proofs.lemmas.List.Elements.{All-cons, All-head, All-tail}
use Rattle.plir_store.specs.Table.{Cell, no_cell, content_at, cell_at}
use Rattle.plir_core.specs.declared.value.Value.{Value}
use Rattle.plir_core.specs.Contents.{OpView}
use Rattle.plir_core.specs.Changes.{with_op_content, op_edited}
use Rattle.plir_core.specs.SameValue.{same_value}
use Rattle.plir_core.specs.Replaced.{replaced, op_replaced, cell_replaced, with_uses_replaced}
use Rattle.plir_core.specs.ContextView.{ContextView, IsValueLive}
use Rattle.plir_core.proofs.Holds.{value_kept, op_content_keeps}

-- The first n elements have become f of what they were.
module _ {X : Type 0} (f : X → X) where
  abbrev pub first_mapped : ℕ → List X → List X
  first_mapped zero xs = xs
  first_mapped (suc n) [] = []
  first_mapped (suc n) (x ∷ xs) = f x ∷ first_mapped n xs

  pub mapped-length : (xs : List X) (n : ℕ) → length (first_mapped n xs) ≡ length xs
  mapped-length xs zero = refl
  mapped-length [] (suc n) = refl
  mapped-length (x ∷ xs) (suc n) = ap suc (mapped-length xs n)

  -- those behind are as they were
  pub mapped-rest : (xs : List X) (n k : ℕ) (d : X) → n ≤ k → get_or (first_mapped n xs) k d ≡ get_or xs k d
  mapped-rest xs zero k d h = refl
  mapped-rest [] (suc n) k d h = refl
  mapped-rest (x ∷ xs) (suc n) zero d h = absurd (omega arith)
  mapped-rest (x ∷ xs) (suc n) (suc k) d h = mapped-rest xs n k d (omega arith)

  -- one more
  next : (xs : List X) (n : ℕ) (d c : X) → n < length xs → c ≡ f (get_or xs n d) → slice_set (first_mapped n xs) n c ≡
      first_mapped (suc n) xs
  next [] n d c h e = absurd (omega arith)
  next (x ∷ xs) zero d c h e = ap (λ z. z ∷ xs) e
  next (x ∷ xs) (suc n) d c h e = ap (λ l. f x ∷ l) (next xs n d c (omega arith) e)

  same : (xs : List X) (n : ℕ) (d : X) → n < length xs → f (get_or xs n d) ≡ get_or xs n d → first_mapped n xs ≡
      first_mapped (suc n) xs
  same [] n d h e = absurd (omega arith)
  same (x ∷ xs) zero d h e = ap (λ z. z ∷ xs) (sym e)
  same (x ∷ xs) (suc n) d h e = ap (λ l. f x ∷ l) (same xs n d (omega arith) e)

  plus_one : (xs : List X) (n : ℕ) → first_mapped (suc n) xs ≡ first_mapped (n + 1) xs
  plus_one xs n = let e : suc n ≡ n + 1 = omega arith in ap (λ k. first_mapped k xs) e

  pub mapped-next : (xs : List X) (n : ℕ) (d c : X) → n < length xs → c ≡ f (get_or xs n d) → slice_set
      (first_mapped n xs) n c ≡ first_mapped (n + 1) xs
  mapped-next xs n d c h e = next xs n d c h e ∙ plus_one xs n

  pub mapped-same : (xs : List X) (n : ℕ) (d : X) → n < length xs → f (get_or xs n d) ≡ get_or xs n d → first_mapped n
      xs ≡ first_mapped (n + 1) xs
  mapped-same xs n d h e = same xs n d h e ∙ plus_one xs n

  pub mapped-all : (xs : List X) (n : ℕ) → length xs ≤ n → first_mapped n xs ≡ map f xs
  mapped-all [] zero h = refl
  mapped-all [] (suc n) h = refl
  mapped-all (x ∷ xs) zero h = absurd (omega arith)
  mapped-all (x ∷ xs) (suc n) h = ap (λ l. f x ∷ l) (mapped-all xs n (omega arith))

-- Among values.
module _ (v w : Value) where
  -- where all were good, and w is, all are
  pub All-replaced : (P : Value → Type 0) (xs : List Value) → P w → All P xs → All P (map (replaced v w) xs)
  All-replaced P [] p a = a
  All-replaced P (x ∷ xs) p a = All-cons P (replaced v w x) (map (replaced v w) xs) (at (same_value x v))
      (All-replaced P xs p (All-tail P x xs a))
    where
      at : (b : Bool) → P (cond b w x)
      at true = p
      at false = All-head P x xs a

-- a slot with and without an operation
module _ {K A : Type 0} (v w : Value) where
  no_content : (c : Cell (OpView K A)) → c.content ≡ None → cell_replaced v w c ≡ c
  no_content c e =
      ap (λ (o : Option (OpView K A)). let z : Cell (OpView K A) = record {
        version = c.version;
        content = option_map
            (op_replaced v w) o;
      } in z) e
      ∙ sym (ap (λ (o : Option (OpView K A)). let z : Cell (OpView K A) = record { version = c.version; content = o } in
      z) e)

  some_content : (b c : Cell (OpView K A)) (o : OpView K A) → b ≡ c → b.content ≡ Some o → record
      { version = b.version; content = Some (op_replaced v w o) } ≡ cell_replaced v w c
  some_content b c o same e =
      sym (ap (λ (z : Option (OpView K A)). let y : Cell (OpView K A) = record {
        version = b.version;
        content =
            option_map (op_replaced v w) z;
      } in y) e)
      ∙ ap (cell_replaced v w) same

-- In the slots of a context.
module _ {K A T : Type 0} (v w : Value) where
  -- the context with other slots of operations
  abbrev with_slots : ContextView K A T → List (Cell (OpView K A)) → ContextView K A T
  with_slots s l = record s { nodes = record s.nodes { ops = record s.nodes.ops { slots = l } } }

  -- the context where the operations of the first n slots have it
  abbrev pub replaced_to : ContextView K A T → ℕ → ContextView K A T
  replaced_to s n = with_slots s (first_mapped (cell_replaced v w) n s.nodes.ops.slots)

  pub replaced-next : (s : ContextView K A T) (n : ℕ) → n < length s.nodes.ops.slots →
      op_edited (replaced_to s n) n (op_replaced v w) (content_at (replaced_to s n).nodes.ops n) ≡ replaced_to s (n + 1)
  replaced-next s n h = go (content_at (replaced_to s n).nodes.ops n) refl
    where
      here : cell_at (replaced_to s n).nodes.ops n ≡ get_or s.nodes.ops.slots n no_cell
      here = mapped-rest (cell_replaced v w) s.nodes.ops.slots n n no_cell (omega arith)

      go : (o : Option (OpView K A)) → content_at (replaced_to s n).nodes.ops n ≡ o → op_edited (replaced_to s n) n
          (op_replaced v w) o ≡ replaced_to s (n + 1)
      go None e =
          ap (with_slots s) (mapped-same (cell_replaced v w) s.nodes.ops.slots n no_cell h
          (no_content v w (get_or s.nodes.ops.slots n no_cell)
          (sym (ap (λ (c : Cell (OpView K A)). c.content) here) ∙ e)))
      go (Some o) e =
          ap (with_slots s) (mapped-next (cell_replaced v w) s.nodes.ops.slots n no_cell _ h
          (some_content v w (cell_at (replaced_to s n).nodes.ops n) (get_or s.nodes.ops.slots n no_cell) o here e))

  pub replaced-all : (s : ContextView K A T) (n : ℕ) → length s.nodes.ops.slots ≤ n → replaced_to s n ≡
      with_uses_replaced s v w
  replaced-all s n h = ap (with_slots s) (mapped-all (cell_replaced v w) s.nodes.ops.slots n h)

-- w stays live
module _ {K A T : Type 0} (s : ContextView K A T) (i : ℕ) (v w : Value) where
  pub edited-live : (x : Value) → IsValueLive s x → IsValueLive (op_edited s i (op_replaced v w)
      (content_at s.nodes.ops i)) x
  edited-live x live = go (content_at s.nodes.ops i) refl
    where
      go : (o : Option (OpView K A)) → content_at s.nodes.ops i ≡ o → IsValueLive (op_edited s i (op_replaced v w) o) x
      go None e = live
      go (Some u) e = value_kept s (with_op_content s i (op_replaced v w u)) (op_content_keeps s i u (op_replaced v w u)
          e refl) x live
