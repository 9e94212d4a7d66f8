-- Paths of steps, and the worklist that follows them.
use Rattle.std.proofs.Common.{◌≡◌, ◌↔◌, ℕ, suc, ◌+◌, ◌<◌, ◌≤◌, List, [], ◌∷◌, ◌++◌, length, take, map, Some}
use Rattle.std.proofs.Common.{inl, inr, refl, sym, ap, subst, ◌∙◌, arith}
use Rattle.std.specs.Prelude.{slice_get}
use Rattle.std.proofs.lemmas.Option.{get_or_from_slice_get}
use Rattle.std.proofs.lemmas.List.{take_more, take_all, length-map}
use Rattle.plir_core.specs.declared.ptr.Ptr.{Ptr}
use Rattle.plir_core.specs.declared.ptr.Region.{Region as RegionKind}
use Rattle.plir_store.specs.Members.{Has, Distinct}
use Rattle.plir_store.specs.MemberLaws.{Has-at, map-Has}
use Rattle.plir_flow.specs.Paths.{IsPath, LeadsTo}
use Rattle.plir_flow.specs.declared.hops.Hop.{Hop}
use Rattle.plir_flow.specs.Hops.{IsHop, IsReachedMore}
use Rattle.plir_flow.proofs.TakenLists.{has-more}

module _ {N : Type 0} (Step : N → N → Type 0) where
  -- one step behind a path
  path-longer : (a c b : N) (through : List N) → IsPath Step a through c → Step c b
      → IsPath Step a (through ++ c ∷ []) b
  path-longer a c b [] p s = (p, s)
  path-longer a c b (d ∷ ds) p s = (p.0, path-longer d c b ds p.1 s)

  pub leads-on : (a c b : N) → LeadsTo Step a c → Step c b → LeadsTo Step a b
  leads-on a c b (through, p) s = (through ++ c ∷ [], path-longer a c b through p s)

  pub leads-once : (a b : N) → Step a b → LeadsTo Step a b
  leads-once a b s = ([], s)

  -- the last step of a path
  last-step : (a b : N) (through : List N) → IsPath Step a through b → (c : N) × Step c b
  last-step a b [] p = (a, p)
  last-step a b (d ∷ ds) p = last-step d b ds p.1

  pub led-by : (a b : N) → LeadsTo Step a b → (c : N) × Step c b
  led-by a b (through, p) = last-step a b through p

  -- what holds of what a first step leads to, and is kept by steps, holds of all that paths lead to
  path-keeps : (P : N → Type 0) → ((x y : N) → P x → Step x y → P y) → (a b : N) (through : List N)
      → ((y : N) → Step a y → P y) → IsPath Step a through b → P b
  path-keeps P keeps a b [] first p = first b p
  path-keeps P keeps a b (d ∷ ds) first p = path-keeps P keeps d b ds (λ y s. keeps d y (first d p.0) s) p.1

  pub leads-keeps : (P : N → Type 0) → ((x y : N) → P x → Step x y → P y) → (a b : N) → ((y : N) → Step a y → P y)
      → LeadsTo Step a b → P b
  leads-keeps P keeps a b first (through, p) = path-keeps P keeps a b through first p

-- paths of other steps
pub leads-like : {N : Type 0} (S T : N → N → Type 0) → ((x y : N) → S x y → T x y) → (a b : N) → LeadsTo S a b
    → LeadsTo T a b
leads-like S T along a b (through, p) = (through, go a through p)
  where
    go : (x : _) (xs : List _) → IsPath S x xs b → IsPath T x xs b
    go x [] q = along x b q
    go x (y ∷ ys) q = (along x y q.0, go y ys q.1)

-- different elements of a list are no more than it has
module _ {N : Type 0} where
  without : (x : N) (ys : List N) → Has ys x
      → (zs : List N) × ((length ys ≡ suc (length zs)) × ((y : N) → Has ys y → (x ≡ y → ⊥) → Has zs y))
  without x [] h = absurd h
  without x (y ∷ ys) (inl e) = (ys, (refl, λ z k n. elim k [ inl f ↦ absurd (n (sym e ∙ f)) | inr g ↦ g ]))
  without x (y ∷ ys) (inr h) =
      let r = without x ys h in
      (y ∷ r.0, (ap suc r.1.0, λ z k n. elim k [ inl f ↦ inl f | inr g ↦ inr (r.1.1 z g n) ]))

  pub no-more : (xs ys : List N) → Distinct xs → ((x : N) → Has xs x → Has ys x) → length xs ≤ length ys
  no-more [] ys d all = omega arith
  no-more (x ∷ xs) ys d all =
      let r = without x ys (all x (inl refl)) in
      let fewer : length xs ≤ length r.0 =
      no-more xs r.0 d.1 (λ y h. r.1.1 y (all y (inr h)) (λ e. d.0 (subst (Has xs) (sym e) h))) in
      omega (arith, r.1.0)

-- a hop leads to one of the regions that hops lead to
pub targets-have : (hops : List Hop) (a b : Ptr RegionKind) → IsHop hops a b → Has (map (λ (g : Hop). g.to) hops) b
targets-have hops a b (i, (h, (at, f, t))) =
    subst (Has (map (λ (g : Hop). g.to) hops)) t (map-Has (λ (g : Hop). g.to) hops h (Has-at hops i h at))

-- the worklist: what is reached, of which the first have been followed
pub record IsReaching (hops : List Hop) (start : Ptr RegionKind) (xs : List (Ptr RegionKind)) (next : ℕ) : Type 0 where
  pub sound : (x : Ptr RegionKind) → Has xs x → LeadsTo (IsHop hops) start x
  pub first : (x : Ptr RegionKind) → IsHop hops start x → Has xs x
  pub closed : (a x : Ptr RegionKind) → Has (take next xs) a → IsHop hops a x → Has xs x
  pub once : Distinct xs
  pub within : next ≤ length xs

module _ (hops : List Hop) (start : Ptr RegionKind) where
  pub reaching-none : (xs : List (Ptr RegionKind)) → IsReachedMore (IsHop hops start) [] xs → IsReaching hops start xs 0
  reaching-none xs w = record {
    sound = λ x h. elim ((w.all x).0 h) [ inl n ↦ absurd n | inr s ↦ leads-once (IsHop hops) start x s ];
    first = λ x s. (w.all x).1 (inr s);
    closed = λ a x h s. absurd h;
    once = w.once tt;
    within = omega arith;
  }

  pub reaching-more : (xs ys : List (Ptr RegionKind)) (next : ℕ) (r : Ptr RegionKind) → IsReaching hops start xs next
      → next < length xs → slice_get xs next ≡ Some r → IsReachedMore (IsHop hops r) xs ys
      → IsReaching hops start ys (next + 1)
  reaching-more xs ys next r w below here m = record {
    sound =
        λ x h. elim ((m.all x).0 h) [
          | inl a ↦ w.sound x a
          | inr s ↦ leads-on (IsHop hops) start r x (w.sound r (Has-at xs next r here)) s
        ];
    first = λ x s. (m.all x).1 (inl (w.first x s));
    closed = λ a x h s. elim (has-more (take next xs) r a (subst (λ l. Has l a) begins h)) [
      | inl k ↦ (m.all x).1 (inl (w.closed a x k s))
      | inr e ↦ (m.all x).1 (inr (subst (λ z. IsHop hops z x) (sym e) s))
    ];
    once = m.once w.once;
    within = omega (arith, m.longer);
  }
    where
      begins : take (next + 1) ys ≡ take next xs ++ r ∷ []
      begins =
          m.begins (next + 1) (omega arith) ∙ take_more xs next r below
          ∙ ap (λ q. take next xs ++ q ∷ []) (get_or_from_slice_get xs next r r here)

  pub reached-within : (xs : List (Ptr RegionKind)) (next : ℕ) → IsReaching hops start xs next → length xs ≤ length hops
  reached-within xs next w =
      let bound : length xs ≤ length (map (λ (g : Hop). g.to) hops) =
      no-more xs (map (λ (g : Hop). g.to) hops) w.once
      (λ x h. let l = led-by (IsHop hops) start x (w.sound x h) in targets-have hops l.0 x l.1) in
      omega (arith, length-map hops (λ (g : Hop). g.to))

  pub reaching-all : (xs : List (Ptr RegionKind)) (next : ℕ) → IsReaching hops start xs next → length xs ≤ next
      → (b : Ptr RegionKind) → Has xs b ↔ LeadsTo (IsHop hops) start b
  reaching-all xs next w end b = (
    w.sound b,
    leads-keeps (IsHop hops) (Has xs)
        (λ x y h s. w.closed x y (subst (λ l. Has l x) (sym (take_all next xs end)) h) s) start b w.first,
  )
