-- Lists of the places where something is used, and how long they are.
use Rattle.std.proofs.Common.{◌≡◌, ℕ, zero, suc, ◌+◌, ◌<◌, ◌≤◌, Bool, true, false, cond, List, [], ◌∷◌, ◌++◌, length}
use Rattle.std.proofs.Common.{Option, Some, None, inl, inr, refl, sym, ◌∙◌, ap, subst, arith, take, get_or}
use Rattle.std.specs.Prelude.{count_by}
use Rattle.std.proofs.lemmas.List.{append-nil, append_assoc, length-append, length-take-le}
use Rattle.std.proofs.Math.Seq.{take-suc}
use Rattle.std.proofs.lemmas.List.Sums.{sum_by-cons}
use Rattle.plir_store.specs.Table.{content_at}
use Rattle.plir_core.specs.declared.ptr.Ptr.{Ptr}
use Rattle.plir_core.specs.declared.ptr.Operation.{Operation as OperationKind}
use Rattle.plir_core.specs.declared.ptr.BasicBlock.{BasicBlock as BasicBlockKind}
use Rattle.plir_core.specs.declared.ptr.IRNode.TheVariants.{BasicBlock}
use Rattle.plir_core.specs.declared.uses.Use.{Use}
use Rattle.plir_core.specs.declared.uses.listing.Used.{Used}
use Rattle.plir_core.specs.declared.uses.listing.Used.TheVariants.{Operand, Successor}
use Rattle.plir_core.specs.declared.value.Value.{Value}
use Rattle.plir_core.specs.declared.value.DefiningEntity.TheVariants.{Block}
use Rattle.plir_core.specs.Contents.{OpView}
use Rattle.plir_core.specs.Nodes.{ptr_at}
use Rattle.plir_core.specs.ContextView.{ContextView, entity_node, operands_in, successors_in}
use Rattle.plir_core.specs.SameValue.{same_ptr, same_value, ptr-exact}
use Rattle.plir_core.specs.Stored.{seat_of}
use Rattle.plir_core.specs.Uses.{total, blocks_in, is_seated, uses_held}
use Rattle.plir_core.specs.ValueUses.{times_in}
use Rattle.plir_core.specs.ListedUses.{joined, use_if, uses_from, used_in, used_node, node_uses_in, AreListed}
use Rattle.plir_core.proofs.Noted.{total-next, held_fewer, up_from}
use Rattle.plir_core.proofs.NotUsed.{seated_value}

pub joined-next : {X : Type 0} (f : ℕ → List X) (n : ℕ) → joined f (n + 1) ≡ joined f n ++ f n
joined-next f n = let e : n + 1 ≡ suc n = omega arith in ap (joined f) e

nothing : {X : Type 0} (xs : List X) → length xs ≡ 0 → xs ≡ []
nothing [] e = refl
nothing (x ∷ xs) e = absurd (let z : ⊥ = omega (arith, e) in z)

-- From a to b the sum of w has grown; if it has not, nothing has come behind the lists.
record Grows {X : Type 0} (w : ℕ → ℕ) (f : ℕ → List X) (a b : ℕ) : Type 0 where
  more : ℕ
  sum : total w b ≡ total w a + more
  same : more ≡ 0 → joined f b ≡ joined f a

module _ {X : Type 0} (w : ℕ → ℕ) (f : ℕ → List X) (least : (k : ℕ) → length (f k) ≤ w k) where
  stays : (a b : ℕ) → a ≡ b → Grows w f a b
  stays a b e =
      let t = ap (total w) e in
      record { more = 0; sum = omega (arith, t); same = λ z. sym (ap (joined f) e) }

  grows : (a b : ℕ) → a ≤ b → Grows w f a b
  grows = up_from (Grows w f) stays (λ (a b : ℕ) (r : Grows w f a b). let l = least b in record {
    more = r.more + w b;
    sum = let x = r.sum in omega (arith, x);
    same = λ z.
        ap (λ xs. joined f b ++ xs) (nothing (f b) (omega (arith, z, l)))
        ∙ append-nil (joined f b)
        ∙ r.same (omega (arith, z));
  })

module _ {X : Type 0} (is : X → Bool) (p : Ptr OperationKind) (U : Type 0) where
  if-length : (i : ℕ) (b : Bool) → length (use_if {U = U} b p i) ≡ cond {A = ℕ} b 1 0
  if-length i true = refl
  if-length i false = refl

  -- there are as many places as things that pass the test
  from-length : (i : ℕ) (xs : List X) → length (uses_from {U = U} is p i xs) ≡ count_by is xs
  from-length i [] = refl
  from-length i (x ∷ xs) =
      let l = length-append (use_if {U = U} (is x) p i) (uses_from {U = U} is p (i + 1) xs) in
      let a = if-length i (is x) in
      let t = from-length (i + 1) xs in
      let s = sum_by-cons (λ z. cond {A = ℕ} (is z) 1 0) x xs in
      omega (arith, l, a, t, s)

module _ {X U : Type 0} (is : X → Bool) (p : Ptr OperationKind) where
  -- one thing more
  pub from-snoc : (i : ℕ) (xs : List X) (x : X) → uses_from {U = U} is p i (xs ++ x ∷ []) ≡ uses_from is p i xs ++ use_if
      (is x) p (i + length xs)
  from-snoc i [] x =
      let e : i ≡ i + 0 = omega arith in
      append-nil (use_if (is x) p i) ∙ ap (λ k. use_if (is x) p k) e
  from-snoc i (y ∷ ys) x =
      let r = from-snoc (i + 1) ys x in
      let e : i + 1 + length ys ≡ i + length (y ∷ ys) = omega arith in
      ap (λ zs. use_if (is y) p i ++ zs) (r ∙ ap (λ k. uses_from is p (i + 1) ys ++ use_if (is x) p k) e)
      ∙ sym (append_assoc (use_if (is y) p i) (uses_from is p (i + 1) ys) (use_if (is x) p (i + length (y ∷ ys))))

  -- the places among one thing more
  pub from-take : (xs : List X) (n : ℕ) (d : X) → n < length xs → uses_from {U = U} is p 0 (take (n + 1) xs) ≡ uses_from is p
      0 (take n xs) ++ use_if (is (get_or xs n d)) p n
  from-take xs n d below =
      let e : n + 1 ≡ suc n = omega arith in
      let l : 0 + length (take n xs) ≡ n = (let k = length-take-le n xs (omega (arith, below)) in omega (arith, k)) in
      ap (λ k. uses_from is p 0 (take k xs)) e
      ∙ ap (λ zs. uses_from is p 0 zs) (take-suc xs n d below)
      ∙ from-snoc 0 (take n xs) (get_or xs n d)
      ∙ ap (λ k. uses_from is p 0 (take n xs) ++ use_if (is (get_or xs n d)) p k) l

  -- behind a list of such places, once one thing more is looked at: t says whether it is one
  pub listed_more : (old us now : List (Use U)) (xs : List X) (n : ℕ) (d : X) (t : Bool) → now ≡ us ++ use_if t p n → us ≡
      old ++ uses_from is p 0 (take n xs) → t ≡ is (get_or xs n d) → n < length xs → now ≡ old ++ uses_from is p 0
      (take (n + 1) xs)
  listed_more old us now xs n d t e so_far told below =
      e ∙ ap (λ zs. zs ++ use_if t p n) so_far
      ∙ append_assoc old (uses_from is p 0 (take n xs)) (use_if t p n)
      ∙ ap (λ b. old ++ (uses_from is p 0 (take n xs) ++ use_if b p n)) told
      ∙ ap (λ zs. old ++ zs) (sym (from-take xs n d below))

-- a block is among others no more often than its seat is used
module _ (b : Ptr BasicBlockKind) where
  one_fewer : (x : Ptr BasicBlockKind) (t : Bool) → same_ptr x b ≡ t → cond {A = ℕ} (same_ptr x b) 1 0 ≤ cond {A = ℕ}
      (is_seated (seat_of (BasicBlock b)) (BasicBlock x)) 1 0
  one_fewer x true e =
      let is : x ≡ b = (ptr-exact x b).0 e in
      let l = ap (λ (c : Bool). cond {A = ℕ} c 1 0) e in
      let there : is_seated (seat_of (BasicBlock b)) (BasicBlock x) ≡ true =
      subst (λ z. is_seated (seat_of (BasicBlock b)) (BasicBlock z) ≡ true) (sym is) (seated_value (Block b)) in
      let r = ap (λ (c : Bool). cond {A = ℕ} c 1 0) there in
      omega (arith, l, r)
  one_fewer x false e = let l = ap (λ (c : Bool). cond {A = ℕ} c 1 0) e in omega (arith, l)

  blocks_fewer : (xs : List (Ptr BasicBlockKind)) → count_by (λ x. same_ptr x b) xs ≤ blocks_in
      (seat_of (BasicBlock b)) xs
  blocks_fewer [] = omega arith
  blocks_fewer (x ∷ xs) =
      let l = sum_by-cons (λ z. cond {A = ℕ} (same_ptr z b) 1 0) x xs in
      let r = sum_by-cons (λ z. cond {A = ℕ} (is_seated (seat_of (BasicBlock b)) (BasicBlock z)) 1 0) x xs in
      let h = one_fewer x (same_ptr x b) refl in
      let t = blocks_fewer xs in
      omega (arith, l, r, h, t)

  branches_fewer : {K A : Type 0} (o : Option (OpView K A)) → count_by (λ x. same_ptr x b) (successors_in o) ≤ uses_held
      (seat_of (BasicBlock b)) o
  branches_fewer None = omega arith
  branches_fewer (Some u) = let t = blocks_fewer u.successors in omega (arith, t)

module _ {K A T : Type 0} (s : ContextView K A T) where
  -- an operation has no more of these places than it uses the node
  fewer : (U : Type 0) (u : Used) (k : ℕ) → length (used_in {U = U} s u k) ≤ node_uses_in s (used_node u) k
  fewer U (Operand v) k =
      let a = from-length (λ x. same_value x v) (ptr_at s.nodes.ops k) U 0 (operands_in (content_at s.nodes.ops k)) in
      let b = held_fewer v (content_at s.nodes.ops k) in
      omega (arith, a, b)
  fewer U (Successor b) k =
      let a = from-length (λ x. same_ptr x b) (ptr_at s.nodes.ops k) U 0 (successors_in (content_at s.nodes.ops k)) in
      let c = branches_fewer b (content_at s.nodes.ops k) in
      omega (arith, a, c)

module _ {K A T U : Type 0} (s : ContextView K A T) where
  -- nothing is listed before the first slot
  pub AreListed-none : (u : Used) → AreListed {U = U} s u 0 0 []
  AreListed-none u = record { passed = 0; sum = refl; all = λ e. refl; within = omega arith }

  -- those in one slot more are listed, and those before it are passed over
  pub AreListed-more : (u : Used) (end seen : ℕ) (us : List (Use U)) → AreListed s u end seen us → (slot : ℕ) → end ≤
      slot → slot < length s.nodes.ops.slots → AreListed s u (slot + 1) (seen + node_uses_in s (used_node u) slot)
      (us ++ used_in s u slot)
  AreListed-more u end seen us listed slot behind below =
      let r = grows (node_uses_in s (used_node u)) (used_in {U = U} s u) (fewer s U u) end slot behind in
      let next = joined-next (used_in {U = U} s u) slot in
      let t = total-next (node_uses_in s (used_node u)) slot in
      let a = listed.sum in
      let b = r.sum in
      record {
        passed = listed.passed + r.more;
        sum = omega (arith, a, b, t);
        all = λ z.
            ap (λ xs. xs ++ used_in s u slot) (listed.all (omega (arith, z)) ∙ sym (r.same (omega (arith, z)))) ∙ sym next;
        within = omega (arith, below);
      }

  -- nothing was passed over, if its node is used as often as was seen
  pub AreListed-all : (u : Used) (end seen : ℕ) (us : List (Use U)) → AreListed s u end seen us → seen ≡ total
      (node_uses_in s (used_node u)) (length s.nodes.ops.slots) → us ≡ joined (used_in s u) (length s.nodes.ops.slots)
  AreListed-all u end seen us listed full =
      let r = grows (node_uses_in s (used_node u)) (used_in {U = U} s u) (fewer s U u) end (length s.nodes.ops.slots)
      listed.within in
      let a = listed.sum in
      let b = r.sum in
      listed.all (omega (arith, a, b, full)) ∙ sym (r.same (omega (arith, a, b, full)))
