-- Counts of uses: how they change, and what a change leaves true of the counts that are kept.
use Rattle.std.proofs.Common.{◌≡◌, ℕ, zero, suc, ◌+◌, ◌-◌, ◌<◌, ◌≤◌, min, Bool, true, false, cond, List, [], ◌∷◌, ◌++◌}
use Rattle.std.proofs.Common.{length, take, get_or, Option, Some, None, ◌⊎◌, inl, inr, refl, sym, ◌∙◌, ap, subst, arith}
use Rattle.std.proofs.Common.{length-set, eq-eqb}
use Rattle.std.specs.Prelude.{slice_get, slice_set, slice_index_or, count_by, ◌==◌, IfSome}
use Rattle.std.proofs.lemmas.Bool.{cases_eq, cases_lt, ne_eqb}
use Rattle.std.proofs.lemmas.List.{get_or-set_same, get_or-set_other, get_or_past, take_all, get_or_append_left}
use Rattle.std.proofs.lemmas.List.{length-append}
use Rattle.std.proofs.Math.Seq.{get_or-append_seam}
use Rattle.std.proofs.lemmas.List.Sums.{count_by_more_yes, count_by_more_no}
use Rattle.std.proofs.lemmas.Option.{slice_get_within, slice_get-get_or, get_or_from_slice_get}
use Rattle.plir_store.specs.Table.{Table, Cell, no_cell, content_at}
use Rattle.plir_core.specs.declared.ptr.Ptr.{Ptr}
use Rattle.plir_core.specs.declared.ptr.BasicBlock.{BasicBlock as BasicBlockKind}
use Rattle.plir_core.specs.declared.value.Value.{Value}
use Rattle.plir_core.specs.declared.ptr.IRNode.{IRNode}
use Rattle.plir_core.specs.declared.ptr.IRNode.TheVariants.{Operation, Region, BasicBlock}
use Rattle.plir_core.specs.Contents.{OpView}
use Rattle.plir_core.specs.Stored.{Seat, op, region, block}
use Rattle.plir_core.specs.Uses.{Uses, UNKNOWN, total, is_seated, hit, uses_held, uses_of, Counts, values_from}
use Rattle.plir_core.specs.Uses.{blocks_in, uses_in, IsBegun, raised, lowered, with_use, without_use}

-- Sums of two functions that differ at j alone.
module _ (f g : ℕ → ℕ) (j : ℕ) (same : (k : ℕ) → (k ≡ j → ⊥) → f k ≡ g k) where
  total_before : (n : ℕ) → n ≤ j → total f n ≡ total g n
  total_before zero h = refl
  total_before (suc n) h =
      let e = total_before n (omega arith) in
      let d = same n (λ q. absurd (omega arith)) in
      omega arith

  total_other : (n : ℕ) → j < n → total f n + g j ≡ total g n + f j
  total_other zero h = absurd (omega arith)
  total_other (suc n) h = elim (cases_eq n j) [
    | inl q ↦
        let e = total_before n (omega arith) in
        let a = ap f q in
        let b = ap g q in
        omega arith
    | inr ne ↦
        let e = total_other n (omega arith) in
        let d = same n ne in
        omega arith
  ]

-- what is 0 from n on adds nothing
total_past : (f : ℕ → ℕ) (n : ℕ) → ((k : ℕ) → n ≤ k → f k ≡ 0) → (m : ℕ) → n ≤ m → total f m ≡ total f n
total_past f n none zero h = let e : 0 ≡ n = omega arith in ap (total f) e
total_past f n none (suc m) h = elim (cases_eq (suc m) n) [
  | inl q ↦ ap (total f) q
  | inr ne ↦
      let e = total_past f n none m (omega arith) in
      let d = none m (omega arith) in
      omega arith
]

-- what is 0 everywhere
pub total_none : (f : ℕ → ℕ) → ((k : ℕ) → f k ≡ 0) → (n : ℕ) → total f n ≡ 0
total_none f none zero = refl
total_none f none (suc n) =
    let e = total_none f none n in
    let d = none n in
    omega arith

-- one number of a sum
total_least : (f : ℕ → ℕ) (j n : ℕ) → j < n → f j ≤ total f n
total_least f j zero h = absurd (omega arith)
total_least f j (suc n) h = elim (cases_eq n j) [
  | inl q ↦ let a = ap f q in omega arith
  | inr ne ↦ let e = total_least f j n (omega arith) in omega arith
]

module _ {K A : Type 0} where
  held_past : (t : Table (OpView K A)) (at : Seat) (k : ℕ) → length t.slots ≤ k → uses_held at (content_at t k) ≡ 0
  held_past t at k h = ap (λ (z : Cell (OpView K A)). uses_held at z.content) (get_or_past t.slots k no_cell h)

  uses_to : (t : Table (OpView K A)) (at : Seat) (n : ℕ) → length t.slots ≤ n → total
      (λ i. uses_held at (content_at t i)) n ≡ uses_of t at
  uses_to t at n h = total_past (λ i. uses_held at (content_at t i)) (length t.slots) (held_past t at) n h

  -- what changes where the content of the slot j alone does
  pub uses-changed : (t t' : Table (OpView K A)) (j : ℕ) → ((k : ℕ) → (k ≡ j → ⊥) → content_at t' k ≡ content_at t k) →
      (at : Seat) →
      uses_of t' at + uses_held at (content_at t j) ≡ uses_of t at + uses_held at (content_at t' j)
  uses-changed t t' j same at =
      let n : ℕ = length t.slots + length t'.slots + suc j in
      let a = uses_to t at n (omega arith) in
      let b = uses_to t' at n (omega arith) in
      let e = total_other (λ i. uses_held at (content_at t' i)) (λ i. uses_held at (content_at t i)) j
      (λ k ne. ap (uses_held at) (same k ne)) n (omega arith) in
      omega arith

  pub uses-same : (t t' : Table (OpView K A)) → ((k : ℕ) → content_at t' k ≡ content_at t k) → (at : Seat) → uses_of t'
      at ≡ uses_of t at
  uses-same t t' same at =
      let e = uses-changed t t' 0 (λ k ne. same k) at in
      let d = ap (uses_held at) (same 0) in
      omega arith

  -- nothing uses what no operation uses
  pub uses-none : (t : Table (OpView K A)) (at : Seat) → ((k : ℕ) → uses_held at (content_at t k) ≡ 0) → uses_of t at ≡
      0
  uses-none t at none = total_none (λ i. uses_held at (content_at t i)) none (length t.slots)

  -- no operation uses what is not used
  pub held-none : (t : Table (OpView K A)) (at : Seat) (k : ℕ) → uses_of t at ≡ 0 → uses_held at (content_at t k) ≡ 0
  held-none t at k e =
      let n : ℕ = length t.slots + suc k in
      let a = uses_to t at n (omega arith) in
      let b = total_least (λ i. uses_held at (content_at t i)) k n (omega arith) in
      omega arith

pub Counts-same : (u : Uses) (f g : Seat → ℕ) → Counts u f → ((at : Seat) → g at ≡ f at) → Counts u g
Counts-same u f g c same at n e = elim (c at n e) [
  | inl q ↦ inl q
  | inr q ↦ inr (q ∙ sym (same at))
]

-- a number that is kept is unknown, or is the count
abbrev IsCount : List ℕ → ℕ → ℕ → Type 0
IsCount xs i a = (n : ℕ) → slice_get xs i ≡ Some n → (n ≡ UNKNOWN) ⊎ (n ≡ a)

set_other : (xs : List ℕ) (i j v n : ℕ) → (j ≡ i → ⊥) → slice_get (slice_set xs i v) j ≡ Some n → slice_get xs j ≡ Some
    n
set_other xs i j v n ne e =
    let h = slice_get_within (slice_set xs i v) j n e in
    let l = length-set xs i v in
    let within : j < length xs = omega arith in
    slice_get-get_or xs j 0 within ∙ ap (λ z. Some z) (sym (get_or-set_other xs i j v 0 ne) ∙ get_or_from_slice_get
    (slice_set xs i v) j n 0 e)

set_same : (xs : List ℕ) (i v n : ℕ) → slice_get (slice_set xs i v) i ≡ Some n → (n ≡ v) ×
    (slice_get xs i ≡ Some (get_or xs i 0))
set_same xs i v n e =
    let h = slice_get_within (slice_set xs i v) i n e in
    let l = length-set xs i v in
    let within : i < length xs = omega arith in (
      sym (get_or_from_slice_get (slice_set xs i v) i n 0 e) ∙ get_or-set_same xs i v 0 within,
      slice_get-get_or xs i 0
          within,
    )

more_in : (x a n : ℕ) → n ≡ min (x + 1) UNKNOWN → (x ≡ UNKNOWN) ⊎ (x ≡ a) → (n ≡ UNKNOWN) ⊎ (n ≡ a + 1)
more_in x a n e (inl q) = inl (omega arith)
more_in x a n e (inr q) = elim (cases_lt x UNKNOWN) [
  | inl less ↦ inr (omega arith)
  | inr past ↦ inl (omega arith)
]

fewer_in : (x a n : ℕ) → n ≡ cond (x == UNKNOWN) UNKNOWN (x - 1) → (x ≡ UNKNOWN) ⊎ (x ≡ a + 1) → (n ≡ UNKNOWN) ⊎ (n ≡ a)
fewer_in x a n e (inl q) = inl (e ∙ ap (λ b. cond b UNKNOWN (x - 1)) (eq-eqb x UNKNOWN q))
fewer_in x a n e (inr q) = elim (cases_eq x UNKNOWN) [
  | inl same ↦ inl (e ∙ ap (λ b. cond b UNKNOWN (x - 1)) (eq-eqb x UNKNOWN same))
  | inr ne ↦
      let d = e ∙ ap (λ b. cond b UNKNOWN (x - 1)) (ne_eqb x UNKNOWN ne) in
      inr (omega arith)
]

-- one more of the slot i, and another slot j
raised_at : (xs : List ℕ) (i j a b : ℕ) → IsCount xs j a → b ≡ a + cond (i == j) 1 0 → IsCount (raised xs i) j b
raised_at xs i j a b c e n is = elim (cases_eq j i) [
  | inl q ↦
      let r = set_same xs i (min (slice_index_or xs i 0 + 1) UNKNOWN) n
      (subst (λ z. slice_get (raised xs i) z ≡ Some n) q is) in
      let m : b ≡ a + 1 = e ∙ ap (λ (z : Bool). a + cond {A = ℕ} z 1 0) (eq-eqb i j (sym q)) in
      subst (λ z. (n ≡ UNKNOWN) ⊎ (n ≡ z)) (sym m) (more_in (get_or xs i 0) a n r.0
      (c (get_or xs i 0) (subst (λ z. slice_get xs z ≡ Some (get_or xs i 0)) (sym q) r.1)))
  | inr ne ↦
      let none : b ≡ a + 0 = e ∙ ap (λ (z : Bool). a + cond {A = ℕ} z 1 0) (ne_eqb i j (λ q. ne (sym q))) in
      let m : b ≡ a = omega arith in
      subst (λ z. (n ≡ UNKNOWN) ⊎ (n ≡ z)) (sym m) (c n (set_other xs i j (min (slice_index_or xs i 0 + 1) UNKNOWN) n ne
      is))
]

lowered_at : (xs : List ℕ) (i j a b : ℕ) → IsCount xs j a → a ≡ b + cond (i == j) 1 0 → IsCount (lowered xs i) j b
lowered_at xs i j a b c e n is = elim (cases_eq j i) [
  | inl q ↦
      let v : ℕ = cond (slice_index_or xs i 0 == UNKNOWN) UNKNOWN (slice_index_or xs i 0 - 1) in
      let r = set_same xs i v n (subst (λ z. slice_get (lowered xs i) z ≡ Some n) q is) in
      let m : a ≡ b + 1 = e ∙ ap (λ (z : Bool). b + cond {A = ℕ} z 1 0) (eq-eqb i j (sym q)) in
      fewer_in (get_or xs i 0) b n r.0 (subst (λ z. (get_or xs i 0 ≡ UNKNOWN) ⊎ (get_or xs i 0 ≡ z)) m
      (c (get_or xs i 0) (subst (λ z. slice_get xs z ≡ Some (get_or xs i 0)) (sym q) r.1)))
  | inr ne ↦
      let v : ℕ = cond (slice_index_or xs i 0 == UNKNOWN) UNKNOWN (slice_index_or xs i 0 - 1) in
      let none : a ≡ b + 0 = e ∙ ap (λ (z : Bool). b + cond {A = ℕ} z 1 0) (ne_eqb i j (λ q. ne (sym q))) in
      let m : a ≡ b = omega arith in
      subst (λ z. (n ≡ UNKNOWN) ⊎ (n ≡ z)) m (c n (set_other xs i j v n ne is))
]

-- where nothing is counted
kept_at : (xs : List ℕ) (j a b : ℕ) → IsCount xs j a → (b ≡ a + 0) → IsCount xs j b
kept_at xs j a b c e n is = let m : a ≡ b = omega arith in subst (λ z. (n ≡ UNKNOWN) ⊎ (n ≡ z)) m (c n is)

still_at : (xs : List ℕ) (j a b : ℕ) → IsCount xs j a → (a ≡ b + 0) → IsCount xs j b
still_at xs j a b c e = kept_at xs j a b c (omega arith)

-- one use more, and one fewer
pub Counts-with_use : (u : Uses) (f g : Seat → ℕ) (n : IRNode) → Counts u f → ((at : Seat) → g at ≡ f at + hit at n) →
    Counts (with_use u n) g
Counts-with_use u f g (Operation p) c e (op i) = raised_at u.ops p.slot i (f (op i)) (g (op i)) (c (op i)) (e (op i))
Counts-with_use u f g (Operation p) c e (region i) = λ n q. absurd (let x : ⊥ = cc in x)
Counts-with_use u f g (Operation p) c e (block i) = kept_at u.blocks i (f (block i)) (g (block i)) (c (block i))
    (e (block i))
Counts-with_use u f g (Region p) c e (op i) = kept_at u.ops i (f (op i)) (g (op i)) (c (op i)) (e (op i))
Counts-with_use u f g (Region p) c e (region i) = λ n q. absurd (let x : ⊥ = cc in x)
Counts-with_use u f g (Region p) c e (block i) = kept_at u.blocks i (f (block i)) (g (block i)) (c (block i))
    (e (block i))
Counts-with_use u f g (BasicBlock p) c e (op i) = kept_at u.ops i (f (op i)) (g (op i)) (c (op i)) (e (op i))
Counts-with_use u f g (BasicBlock p) c e (region i) = λ n q. absurd (let x : ⊥ = cc in x)
Counts-with_use u f g (BasicBlock p) c e (block i) = raised_at u.blocks p.slot i (f (block i)) (g (block i))
    (c (block i)) (e (block i))

pub Counts-without_use : (u : Uses) (f g : Seat → ℕ) (n : IRNode) → Counts u f → ((at : Seat) → f at ≡ g at + hit at n)
    → Counts (without_use u n) g
Counts-without_use u f g (Operation p) c e (op i) = lowered_at u.ops p.slot i (f (op i)) (g (op i)) (c (op i))
    (e (op i))
Counts-without_use u f g (Operation p) c e (region i) = λ n q. absurd (let x : ⊥ = cc in x)
Counts-without_use u f g (Operation p) c e (block i) = still_at u.blocks i (f (block i)) (g (block i)) (c (block i))
    (e (block i))
Counts-without_use u f g (Region p) c e (op i) = still_at u.ops i (f (op i)) (g (op i)) (c (op i)) (e (op i))
Counts-without_use u f g (Region p) c e (region i) = λ n q. absurd (let x : ⊥ = cc in x)
Counts-without_use u f g (Region p) c e (block i) = still_at u.blocks i (f (block i)) (g (block i)) (c (block i))
    (e (block i))
Counts-without_use u f g (BasicBlock p) c e (op i) = still_at u.ops i (f (op i)) (g (op i)) (c (op i)) (e (op i))
Counts-without_use u f g (BasicBlock p) c e (region i) = λ n q. absurd (let x : ⊥ = cc in x)
Counts-without_use u f g (BasicBlock p) c e (block i) = lowered_at u.blocks p.slot i (f (block i)) (g (block i))
    (c (block i)) (e (block i))

-- one element more is looked at
pub count_in : {X : Type 0} (p : X → Bool) (xs : List X) (i : ℕ) (d : X) (b : Bool) → i < length xs → p (get_or xs i d)
    ≡ b →
    count_by p (take (i + 1) xs) ≡ count_by p (take i xs) + cond b 1 0
count_in p xs i d true h e = count_by_more_yes p xs i d h e
count_in p xs i d false h e = omega (arith, count_by_more_no p xs i d h e)

-- Uses that are counted one by one: `seen` tells what node an element is a use of.
module _ {X : Type 0} (node : X → IRNode) (xs : List X) where
  abbrev pub count_so_far : Seat → ℕ → ℕ
  count_so_far at i = count_by (λ x. is_seated at (node x)) (take i xs)

  -- the counts were those of f before the loop, and i elements are counted
  abbrev pub IsRaising : Uses → Uses → ℕ → Type 0
  IsRaising before now i = (f g : Seat → ℕ) → Counts before f → ((at : Seat) → g at ≡ f at + count_so_far at i) → Counts
      now g

  -- and i elements are taken off
  abbrev pub IsLowering : Uses → Uses → ℕ → Type 0
  IsLowering before now i = (f g : Seat → ℕ) → Counts before f → ((at : Seat) → f at ≡ g at + count_so_far at i) →
      Counts now g

  pub IsRaising-start : (u : Uses) → IsRaising u u 0
  IsRaising-start u f g c e = Counts-same u f g c (λ at. let q : g at ≡ f at + 0 = e at in omega arith)

  pub IsLowering-start : (u : Uses) → IsLowering u u 0
  IsLowering-start u f g c e = Counts-same u f g c (λ at. let q : f at ≡ g at + 0 = e at in omega arith)

  so_far_more : (at : Seat) (i : ℕ) (d : X) → i < length xs → count_so_far at (i + 1) ≡ count_so_far at i + hit at
      (node (get_or xs i d))
  so_far_more at i d h = count_in (λ x. is_seated at (node x)) xs i d (is_seated at (node (get_or xs i d))) h refl

  pub IsRaising-more : (before now next : Uses) (i : ℕ) (d : X) → next ≡ with_use now (node (get_or xs i d)) → IsRaising
      before now i → i < length xs → IsRaising before next (i + 1)
  IsRaising-more before now next i d is r h f g c e =
      let mid : Seat → ℕ = λ at. f at + count_so_far at i in
      subst (λ z. Counts z g) (sym is) (Counts-with_use now mid g (node (get_or xs i d)) (r f mid c (λ at. refl)) (λ at.
      let m = so_far_more at i d h in
      let q = e at in
      omega arith))

  pub IsLowering-more : (before now next : Uses) (i : ℕ) (d : X) → next ≡ without_use now (node (get_or xs i d)) →
      IsLowering before now i → i < length xs → IsLowering before next (i + 1)
  IsLowering-more before now next i d is r h f g c e =
      let mid : Seat → ℕ = λ at. g at + hit at (node (get_or xs i d)) in
      subst (λ z. Counts z g) (sym is) (Counts-without_use now mid g (node (get_or xs i d)) (r f mid c (λ at.
      let m = so_far_more at i d h in
      let q = e at in
      omega arith)) (λ at. refl))

  pub IsRaising-end : (before now : Uses) (i : ℕ) → IsRaising before now i → length xs ≤ i → (f g : Seat → ℕ) → Counts
      before f → ((at : Seat) → g at ≡ f at + count_by (λ x. is_seated at (node x)) xs) → Counts now g
  IsRaising-end before now i r h f g c e = r f g c (λ at. e at ∙ ap (λ zs. f at + count_by (λ x. is_seated at (node x))
      zs) (sym (take_all i xs h)))

  pub IsLowering-end : (before now : Uses) (i : ℕ) → IsLowering before now i → length xs ≤ i → (f g : Seat → ℕ) → Counts
      before f → ((at : Seat) → f at ≡ g at + count_by (λ x. is_seated at (node x)) xs) → Counts now g
  IsLowering-end before now i r h f g c e = r f g c (λ at. e at ∙ ap (λ zs. g at + count_by (λ x. is_seated at (node x))
      zs) (sym (take_all i xs h)))

-- What an operation uses is counted by its two lists.
module _ {K A : Type 0} (before mid now : Uses) (v : OpView K A) (vs : List Value) (bs : List (Ptr BasicBlockKind))
    (ev : vs ≡ v.operands) (eb : bs ≡ v.successors) where
  pub op_raised : ((f g : Seat → ℕ) → Counts before f → ((at : Seat) → g at ≡ f at + values_from at vs) → Counts mid g)
      →
      ((f g : Seat → ℕ) → Counts mid f → ((at : Seat) → g at ≡ f at + blocks_in at bs) → Counts now g) →
      (f g : Seat → ℕ) → Counts before f → ((at : Seat) → g at ≡ f at + uses_in at v) → Counts now g
  op_raised h k f g c e = k (λ at. f at + values_from at vs) g (h f (λ at. f at + values_from at vs) c (λ at. refl))
      (λ at.
      let a = ap (values_from at) ev in
      let b = ap (blocks_in at) eb in
      let q = e at in
      omega arith)

  pub op_lowered : ((f g : Seat → ℕ) → Counts before f → ((at : Seat) → f at ≡ g at + values_from at vs) → Counts mid g)
      →
      ((f g : Seat → ℕ) → Counts mid f → ((at : Seat) → f at ≡ g at + blocks_in at bs) → Counts now g) →
      (f g : Seat → ℕ) → Counts before f → ((at : Seat) → f at ≡ g at + uses_in at v) → Counts now g
  op_lowered h k f g c e = k (λ at. g at + blocks_in at bs) g (h f (λ at. g at + blocks_in at bs) c (λ at.
      let a = ap (values_from at) ev in
      let b = ap (blocks_in at) eb in
      let q = e at in
      omega arith)) (λ at. refl)

begun_at : (old now : List ℕ) (i j n : ℕ) (f : ℕ → ℕ) → IsBegun old now i → f i ≡ 0 → IsCount old j (f j) → slice_get
    now j ≡ Some n → (n ≡ UNKNOWN) ⊎ (n ≡ f j)
begun_at old now i j n f b z c e = elim (b j n e) [
  | inl x ↦ elim x [
    | inl q ↦ inl q
    | inr q ↦ inr (q.1 ∙ sym z ∙ ap f (sym q.0))
  ]
  | inr q ↦ c n q
]

-- a count has begun: what is 0 is counted from now on
pub Counts-begun_op : (u : Uses) (xs : List ℕ) (i : ℕ) (f : Seat → ℕ) → IsBegun u.ops xs i → f (op i) ≡ 0 → Counts u f →
    Counts (record u { ops = xs }) f
Counts-begun_op u xs i f b z c (op j) n e = begun_at u.ops xs i j n (λ k. f (op k)) b z (c (op j)) e
Counts-begun_op u xs i f b z c (region j) n e = c (region j) n e
Counts-begun_op u xs i f b z c (block j) n e = c (block j) n e

pub Counts-begun_block : (u : Uses) (xs : List ℕ) (i : ℕ) (f : Seat → ℕ) → IsBegun u.blocks xs i → f (block i) ≡ 0 →
    Counts u f → Counts (record u { blocks = xs }) f
Counts-begun_block u xs i f b z c (op j) n e = c (op j) n e
Counts-begun_block u xs i f b z c (region j) n e = c (region j) n e
Counts-begun_block u xs i f b z c (block j) n e = begun_at u.blocks xs i j n (λ k. f (block k)) b z (c (block j)) e

-- what is known is the count
pub known_is : (r : Option ℕ) (xs : List ℕ) (i a : ℕ) → IfSome r (λ n. (slice_get xs i ≡ Some n) × (n < UNKNOWN)) →
    ((n : ℕ) → slice_get xs i ≡ Some n → (n ≡ UNKNOWN) ⊎ (n ≡ a)) → IfSome r (λ n. n ≡ a)
known_is None xs i a h c = tt
known_is (Some n) xs i a h c = elim (c n h.0) [
  | inl q ↦ let less = h.1 in absurd (omega arith)
  | inr q ↦ q
]

-- a list that is set and one that is grown
pub begun_set : (xs : List ℕ) (i : ℕ) → IsBegun xs (slice_set xs i 0) i
begun_set xs i j n e = elim (cases_eq j i) [
  | inl q ↦ inl (inr (q, (set_same xs i 0 n (subst (λ z. slice_get (slice_set xs i 0) z ≡ Some n) q e)).0))
  | inr ne ↦ inr (set_other xs i j 0 n ne e)
]

pub begun_grown : (xs : List ℕ) (i : ℕ) → length xs ≡ i → IsBegun xs (xs ++ 0 ∷ []) i
begun_grown xs i h j n e =
    let within = slice_get_within (xs ++ 0 ∷ []) j n e in
    let l = length-append xs (0 ∷ []) in
    elim (cases_lt j (length xs)) [
      | inl less ↦ inr (slice_get-get_or xs j 0 less ∙ ap (λ z. Some z) (sym (get_or_append_left xs (0 ∷ []) 0 j less) ∙
          get_or_from_slice_get (xs ++ 0 ∷ []) j n 0 e))
      | inr past ↦
          let q : j ≡ length xs = omega arith in
          inl (inr (
            q ∙ h,
            sym (get_or_from_slice_get (xs ++ 0 ∷ []) j n 0 e) ∙ ap
                (λ z. get_or (xs ++ 0 ∷ []) z 0) q ∙ get_or-append_seam xs 0 [] 0,
          ))
    ]

pub begun_not : (xs : List ℕ) (i : ℕ) → IsBegun xs xs i
begun_not xs i j n e = inr e
