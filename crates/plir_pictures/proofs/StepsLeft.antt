-- Each step leaves fewer steps.
use Rattle.std.proofs.Common.{◌≡◌, ◌≢◌, ℕ, suc, ◌+◌, ◌<◌, Bool, true, false, cond, List, [], ◌∷◌, ◌++◌, length}
use Rattle.std.proofs.Common.{Some, None, ◌⊎◌, inl, inr, refl, sym, ap, subst, ◌∙◌, arith, length-append}
use Rattle.std.proofs.lemmas.List.{append_assoc}
use Rattle.std.specs.List.{flat_map}
use Rattle.plir_core.specs.declared.ptr.IRNode.{IRNode}
use Rattle.plir_core.specs.declared.ptr.IRNode.TheVariants.{Operation, Region, BasicBlock}
use Rattle.plir_core.specs.Measures.{depth}
use Rattle.plir_core.specs.Standing.{IsStanding}
use Rattle.plir_core.specs.ContextView.{ContextView, children, parent_of}
use Rattle.plir_store.specs.Members.{Has, Distinct}
use Rattle.plir_store.specs.MemberLaws.{Has-mid}
use Rattle.plir_walk.specs.NodeLaws.{same_ptr_tells}
use Rattle.plir_walk.specs.Tree.{same}
use Rattle.plir_pictures.specs.Nested.{nested}
use Rattle.plir_pictures.specs.Steps.{behind_in, mark, steps_behind, steps_by, steps_in, steps_left, steps_of, steps_to}
use Rattle.plir_pictures.proofs.Levels.{level}

-- whether two nodes are the same
same-tells : (a b : IRNode) → ((same a b ≡ true) × (a ≡ b)) ⊎ ((same a b ≡ false) × (a ≢ b))
same-tells (Operation p) (Operation q) =
    elim (same_ptr_tells p q) [ inl h ↦ inl (h.0, ap Operation h.1) | inr h ↦ inr (h.0, λ e. h.1 (cc e)) ]
same-tells (Region p) (Region q) =
    elim (same_ptr_tells p q) [ inl h ↦ inl (h.0, ap Region h.1) | inr h ↦ inr (h.0, λ e. h.1 (cc e)) ]
same-tells (BasicBlock p) (BasicBlock q) =
    elim (same_ptr_tells p q) [ inl h ↦ inl (h.0, ap BasicBlock h.1) | inr h ↦ inr (h.0, λ e. h.1 (cc e)) ]
same-tells (Operation p) (Region q) = inr (refl, λ e. cc e)
same-tells (Operation p) (BasicBlock q) = inr (refl, λ e. cc e)
same-tells (Region p) (Operation q) = inr (refl, λ e. cc e)
same-tells (Region p) (BasicBlock q) = inr (refl, λ e. cc e)
same-tells (BasicBlock p) (Operation q) = inr (refl, λ e. cc e)
same-tells (BasicBlock p) (Region q) = inr (refl, λ e. cc e)

-- what stands behind one of different nodes
pub behind-cut : (xs ys : List IRNode) (x : IRNode) → Distinct (xs ++ x ∷ ys) → behind_in (xs ++ x ∷ ys) x ≡ ys
behind-cut [] ys x d = elim (same-tells x x) [ inl e ↦ rw e.0 refl | inr e ↦ absurd (e.1 refl) ]
behind-cut (y ∷ xs) ys x d = elim (same-tells y x) [
  | inl e ↦ absurd (d.0 (subst (Has (xs ++ x ∷ ys)) (sym e.1) (Has-mid xs ys x)))
  | inr e ↦ rw e.0 (behind-cut xs ys x d.1)
]

module _ {K A T : Type 0} (s : ContextView K A T) (st : IsStanding s) where
  steps-flat : (xs : List IRNode) → length (flat_map (nested s mark mark) xs) ≡ steps_of s xs
  steps-flat [] = refl
  steps-flat (x ∷ xs) =
      length-append (nested s mark mark x) (flat_map (nested s mark mark) xs)
      ∙ ap (λ n. steps_in s x + n) (steps-flat xs)

  -- two steps for a node, and those of its children
  steps-level : (x : IRNode) → steps_in s x ≡ 2 + steps_of s (children s x)
  steps-level x =
      let e = ap length (level s st mark mark x) in
      let f = length-append (flat_map (nested s mark mark) (children s x)) (mark x) in
      let g = steps-flat (children s x) in
      omega (arith, e, f, g)

  -- those behind a child
  behind-is : (over x : IRNode) (xs ys : List IRNode) → children s over ≡ xs ++ x ∷ ys
      → steps_behind s x ≡ steps_of s ys + (1 + steps_behind s over)
  behind-is over x xs ys e =
      let up = st.forest.child_parent over x (subst (λ z. Has z x) (sym e) (Has-mid xs ys x)) in
      let deep : depth s x ≡ suc (depth s over) = (let d = st.measured.deeper over x up in omega (arith, d)) in
      let cut : behind_in (children s over) x ≡ ys =
      ap (λ z. behind_in z x) e ∙ behind-cut xs ys x (subst Distinct e (st.forest.once over)) in
      ap (λ k. steps_to s k x) deep
      ∙ ap (steps_by s (steps_to s (depth s over)) x) up
      ∙ ap (λ z. steps_of s z + (1 + steps_behind s over)) cut

  pub fewer-in : (x child : IRNode) (ks : List IRNode) → children s x ≡ child ∷ ks
      → steps_left s (child, true) < steps_left s (x, true)
  fewer-in x child ks e =
      let a = behind-is x child [] ks e in
      let b = steps-level x in
      let c = ap (steps_of s) e in
      omega (arith, a, b, c)

  pub fewer-past : (x : IRNode) → steps_left s (x, false) < steps_left s (x, true)
  fewer-past x = let b = steps-level x in omega (arith, b)

  pub fewer-over : (over x y : IRNode) (xs ys : List IRNode) → children s over ≡ xs ++ x ∷ (y ∷ ys)
      → steps_left s (y, true) < steps_left s (x, false)
  fewer-over over x y xs ys e =
      let a = behind-is over x xs (y ∷ ys) e in
      let b = behind-is over y (xs ++ x ∷ []) ys (e ∙ sym (append_assoc xs (x ∷ []) (y ∷ ys))) in
      omega (arith, a, b)

  pub fewer-up : (over x : IRNode) (xs : List IRNode) → children s over ≡ xs ++ x ∷ []
      → steps_left s (over, false) < steps_left s (x, false)
  fewer-up over x xs e = let a = behind-is over x xs [] e in omega (arith, a)
