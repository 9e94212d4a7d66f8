-- How a copy of a tree goes on over the list of nodes that were copied.
use Rattle.std.proofs.Common.{◌≡◌, ◌+◌, ◌∙◌, ◌≤◌, ℕ, zero, suc, arith, List, [], ◌∷◌, ◌++◌, take, drop, map, length}
use Rattle.std.proofs.Common.{Some, refl, sym, ap, subst, inl, length-append}
use Rattle.std.specs.Prelude.{slice_get}
use Rattle.std.proofs.lemmas.Option.{same_Some, none-some, slice_get_within}
use Rattle.plir_store.specs.Members.{Has, Distinct}
use Rattle.plir_store.specs.MemberLaws.{Distinct-cross, Has-append_left, Has-at, Has-map}
use Rattle.plir_core.specs.declared.ptr.IRNode.{IRNode}
use Rattle.plir_core.specs.declared.ptr.IRNode.TheVariants.{Operation, Region, BasicBlock}
use Rattle.plir_core.specs.ContextView.{ContextView, IsLive, children, num_live}
use Rattle.plir_core.specs.Forest.{look, IsForest}
use Rattle.plir_core.specs.Grown.{IsGrown}
use Rattle.plir_core.specs.Made.{IsMade, KeepsLive}
use Rattle.plir_core.specs.Measures.{IsMeasured}
use Rattle.plir_core.specs.Stored.{IsStored}
use Rattle.plir_core.specs.Room.{IsFullFor, HaveCome}
use Rattle.plir_copies.specs.declared.trees.Twin.{Twin}
use Rattle.plir_copies.specs.Images.{Images}
use Rattle.plir_copies.specs.Room.{count_of, tree_count}
use Rattle.plir_copies.specs.Twins.{nodes_of, HoldsAs, IsTwin, IsCopying, AreChildrenCopied, with_twin, with_twins}
use Rattle.plir_copies.proofs.Twins.{copying-next, full-below, map-append}

one_more : (i : ℕ) → suc i + 1 ≡ suc (i + 1)
one_more i = omega arith

module _ {X : Type 0} where
  drop-here : (ws : List X) (k : ℕ) (w : X) → slice_get ws k ≡ Some w → drop k ws ≡ w ∷ drop (k + 1) ws
  drop-here [] k w e = absurd (none-some w e)
  drop-here (x ∷ xs) zero w e = ap (λ z. z ∷ xs) (same_Some x w e)
  drop-here (x ∷ xs) (suc k) w e = drop-here xs k w e ∙ ap (λ n. w ∷ drop n (x ∷ xs)) (sym (one_more k))

  take-further : (ws vs : List X) (k : ℕ) (w : X) → slice_get ws k ≡ Some w
      → take (k + 1) (ws ++ vs) ≡ take k ws ++ w ∷ []
  take-further [] vs k w e = absurd (none-some w e)
  take-further (x ∷ xs) vs zero w e = ap (λ z. z ∷ []) (same_Some x w e)
  take-further (x ∷ xs) vs (suc k) w e =
      ap (λ n. take n (x ∷ (xs ++ vs))) (one_more k) ∙ ap (λ zs. x ∷ zs) (take-further xs vs k w e)

  drop-further : (ws vs : List X) (k : ℕ) (w : X) → slice_get ws k ≡ Some w
      → drop (k + 1) (ws ++ vs) ≡ drop (k + 1) ws ++ vs
  drop-further [] vs k w e = absurd (none-some w e)
  drop-further (x ∷ xs) vs zero w e = refl
  drop-further (x ∷ xs) vs (suc k) w e =
      ap (λ n. drop n (x ∷ (xs ++ vs))) (one_more k) ∙ drop-further xs vs k w e
      ∙ ap (λ n. drop n (x ∷ xs) ++ vs) (sym (one_more k))

  parts : (k : ℕ) (ws : List X) → take k ws ++ drop k ws ≡ ws
  parts zero ws = refl
  parts (suc k) [] = refl
  parts (suc k) (x ∷ xs) = ap (λ zs. x ∷ zs) (parts k xs)

  pub has-taken : (k : ℕ) (ws : List X) (x : X) → Has (take k ws) x → Has ws x
  has-taken k ws x h = subst (λ l. Has l x) (parts k ws) (Has-append_left (take k ws) (drop k ws) x h)

  pub all-taken : (ws : List X) → take (length ws) ws ≡ ws
  all-taken [] = refl
  all-taken (x ∷ xs) = ap (λ zs. x ∷ zs) (all-taken xs)

  pub all-dropped : (ws : List X) → drop (length ws) ws ≡ []
  all-dropped [] = refl
  all-dropped (x ∷ xs) = all-dropped xs

-- what stands at a place is none of what stands before it
pub taken-differs : {X Y : Type 0} (f : X → Y) (ws : List X) (k : ℕ) (w : X) → slice_get ws k ≡ Some w
    → Distinct (map f ws) → Has (map f (take k ws)) (f w) → ⊥
taken-differs f ws k w e d h =
    let split : ws ≡ take k ws ++ w ∷ drop (k + 1) ws =
    sym (parts k ws) ∙ ap (λ l. take k ws ++ l) (drop-here ws k w e) in
    Distinct-cross (map f (take k ws)) (f w ∷ map f (drop (k + 1) ws))
    (subst Distinct (ap (map f) split ∙ map-append f (take k ws) (w ∷ drop (k + 1) ws)) d) (f w) h (inl refl)

length-map : {X Y : Type 0} (f : X → Y) (xs : List X) → length (map f xs) ≡ length xs
length-map f [] = refl
length-map f (x ∷ xs) = ap suc (length-map f xs)

module _ {K A T : Type 0} (s t : ContextView K A T) (root copy : IRNode) (ws : List Twin) (k : ℕ)
    (h : IsCopying s t root copy (take k ws) (drop k ws)) where
  listed : (w : Twin) → Has ws w → Has (take k ws ++ drop k ws) w
  listed w m = subst (λ l. Has l w) (sym (parts k ws)) m

  pub twin-of : (w : Twin) → Has ws w → IsTwin s t w
  twin-of w m = h.each w (listed w m)

  pub twin-at : (w : Twin) → slice_get ws k ≡ Some w → IsTwin s t w
  twin-at w e = twin-of w (Has-at ws k w e)

  pub bare-at : (w : Twin) → slice_get ws k ≡ Some w → children t w.copy ≡ []
  bare-at w e = h.bare w (subst (λ l. Has l w) (sym (drop-here ws k w e)) (inl refl))

  -- no more are listed than were live
  pub within-live : (t0 : ContextView K A T) → IsMeasured t0 → ((n : IRNode) → IsLive s n → IsLive t0 n)
      → length ws ≤ num_live t0
  within-live t0 m keep =
      let count = m.counted (nodes_of (take k ws ++ drop k ws)) h.nodes (λ n i.
      let w = Has-map (λ z. z.node) (take k ws ++ drop k ws) n i in
      keep n (subst (IsLive s) w.1.1 (h.each w.0 w.1.0).live)) in
      subst (λ n. n ≤ num_live t0) (length-map (λ z. z.node) (take k ws ++ drop k ws) ∙ ap length (parts k ws)) count

  -- the children of the next node are copied
  pub step : (u : ContextView K A T) (now : List Twin) (w : Twin) → slice_get ws k ≡ Some w → IsStored t.nodes
      → IsForest (look u) → IsGrown t.nodes u.nodes w.copy → u.types ≡ t.types
      → HaveCome t.nodes u.nodes (count_of (children t w.node)) → AreChildrenCopied t u w.node w.copy ws now
      → IsCopying s u root copy (take (k + 1) now) (drop (k + 1) now)
  step u now w e stored forest grown types come c =
      let h1 : IsCopying s t root copy (take k ws) (w ∷ drop (k + 1) ws) =
      subst (IsCopying s t root copy (take k ws)) (drop-here ws k w e) h in
      let r = copying-next s t u root copy (take k ws) (drop (k + 1) ws) c.twins w h1 stored forest grown types c.nodes
      c.copies c.each c.leaves come in
      let front : take (k + 1) now ≡ take k ws ++ w ∷ [] =
      ap (take (k + 1)) c.listed ∙ take-further ws c.twins k w e in
      let back : drop (k + 1) now ≡ drop (k + 1) ws ++ c.twins =
      ap (drop (k + 1)) c.listed ∙ drop-further ws c.twins k w e in
      subst (λ l. IsCopying s u root copy l (drop (k + 1) now)) (sym front)
      (subst (IsCopying s u root copy (take k ws ++ w ∷ [])) (sym back) r)

  -- where that was refused, what was made is there
  pub refused : (u : ContextView K A T) (w : Twin) → slice_get ws k ≡ Some w → IsStored t.nodes
      → IsGrown t.nodes u.nodes w.copy → IsMade s.nodes u.nodes copy
  refused u w e stored grown =
      let i = twin-at w e in h.growth.made t.nodes u.nodes copy w.copy stored h.made i.copy_live i.new grown

  -- and where it was refused for want of room, there was none for the tree
  pub full-tree : (w : Twin) → slice_get ws k ≡ Some w → IsFullFor t.nodes (count_of (children t w.node))
      → IsFullFor s.nodes (tree_count s.nodes root)
  full-tree w e =
      full-below s t root copy (take k ws) (drop (k + 1) ws) w
      (subst (IsCopying s t root copy (take k ws)) (drop-here ws k w e) h)

  pub step-within : (t u : ContextView K A T) (now : List Twin) (w : Twin) → slice_get ws k ≡ Some w
      → AreChildrenCopied t u w.node w.copy ws now → k + 1 ≤ length now
  step-within t u now w e c =
      let here = slice_get_within ws k w e in
      let all = ap length c.listed ∙ length-append ws c.twins in
      omega (arith, here, all)

-- one more of a list is put into a map
pub with-last : {K A T : Type 0} (t : ContextView K A T) (ws : List Twin) (m : Images) (w : Twin)
    → with_twins t m (ws ++ w ∷ []) ≡ with_twin t (with_twins t m ws) w.node w.copy
with-last t [] m w = refl
with-last t (x ∷ ws) m w = with-last t ws (with_twin t m x.node x.copy) w

module _ {K A T : Type 0} (s t : ContextView K A T) where
  -- a copy holds what the node holds now
  pub holds-now : KeepsLive s.nodes t.nodes → (n c : IRNode) → IsLive s n → HoldsAs s t n c → HoldsAs t t n c
  holds-now k (Operation p) (Operation q) l h = h ∙ sym (k.ops p l)
  holds-now k (Region p) (Region q) l h = h
  holds-now k (BasicBlock p) (BasicBlock q) l h = h ∙ sym (k.blocks p l)
  holds-now k (Operation p) (Region q) l h = h
  holds-now k (Operation p) (BasicBlock q) l h = h
  holds-now k (Region p) (Operation q) l h = h
  holds-now k (Region p) (BasicBlock q) l h = h
  holds-now k (BasicBlock p) (Operation q) l h = h
  holds-now k (BasicBlock p) (Region q) l h = h
