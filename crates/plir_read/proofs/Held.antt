-- Types that have come are held by what was read.
use Rattle.std.proofs.Common.{◌≡◌, ℕ, ◌<◌, List, [], ◌∷◌, ◌++◌, length, Bool, true, false, Result, Ok, Err, inl, inr}
use Rattle.std.proofs.Common.{sym, ap, subst, ◌∙◌, arith}
use Rattle.std.proofs.lemmas.Bool.{cases_lt}
use Rattle.plir_data.specs.Types.{TypeView}
use Rattle.plir_attr_text.specs.declared.fault.Fault.{Fault}
use Rattle.plir_attr_text.specs.declared.fault.Stop.{Stop}
use Rattle.plir_attr_text.specs.laws.Fronts.{GoesOn, closes, goes_on}
use Rattle.plir_attr_text.specs.laws.Growth.{Names-grown}
use Rattle.plir_attr_text.specs.Names.{Grows, AreNamed}
use Rattle.plir_attr_text.specs.Parts.{IsPartOf}
use Rattle.plir_attr_text.specs.laws.StepLaws.{bind_ok, ok_is, done}
use Rattle.plir_attr_text.specs.Steps.{◌>>=◌}
use Rattle.plir_attr_text.specs.Terms.{TypeTerm}
use Rattle.plir_read.specs.HeldTypes.{IsHeldByArgument, IsHeldByBlock, IsHeldByBlocks, IsHeldByOp, IsHeldByOps}
use Rattle.plir_read.specs.OpTerms.{Argument, OpTerm, BlockTerm, ops_of, blocks_of}
use Rattle.plir_read.specs.OpsRead.{HoldsNew}

module _ {T : Type 0} where
  pub none_come : (held : TypeTerm → Type 0) (xs : List (TypeView T)) → AreNamed held xs xs
  none_come held xs h ge lt = absurd (omega (arith, ge, lt))

  -- what has come twice is held by the whole, where each is held by a part
  pub both_come : (first second whole : TypeTerm → Type 0) → ((t : TypeTerm) → first t → whole t)
      → ((t : TypeTerm) → second t → whole t) → (xs ys zs : List (TypeView T)) → Grows ys zs → AreNamed first xs ys
      → AreNamed second ys zs → AreNamed whole xs zs
  both_come first second whole f s xs ys zs g p q h ge lt = elim (cases_lt h (length ys)) [
    | inl less ↦ let n = p h ge less in (n.0, f n.0 n.1, Names-grown ys zs h n.0 g n.2)
    | inr more ↦ let n = q h more lt in (n.0, s n.0 n.1, n.2)
  ]

  pub come_still : (held : TypeTerm → Type 0) (xs ys zs : List (TypeView T)) → zs ≡ ys → AreNamed held xs ys
      → AreNamed held xs zs
  come_still held xs ys zs e p = subst (λ (l : List (TypeView T)). AreNamed held xs l) (sym e) p

  -- what was read is one thing
  pub held_is : {Y : Type 0} (held : TypeTerm → Y → Type 0) (read : Result (Y × List ℕ) Fault) (z y : Y × List ℕ)
      (xs ys : List (TypeView T)) → read ≡ Ok z → read ≡ Ok y → AreNamed (λ t. held t z.0) xs ys
      → AreNamed (λ t. held t y.0) xs ys
  held_is held read z y xs ys p q n =
      subst (λ (w : _ × List ℕ). AreNamed (λ t. held t w.0) xs ys) (ok_is z y (sym p ∙ q)) n

  -- the same of a reading under another name
  pub HoldsNew-from : {X Y : Type 0} (held : TypeTerm → Y → Type 0) (r : Result X Stop)
      (read total : Result (Y × List ℕ) Fault) (xs ys : List (TypeView T)) → total ≡ read
      → HoldsNew held r read xs ys → HoldsNew held r total xs ys
  HoldsNew-from held (Ok x) read total xs ys e h = λ y f. h y (sym e ∙ f)
  HoldsNew-from held (Err stop) read total xs ys e h = tt

  -- and of one that something is made of
  pub HoldsNew-made : {X Y Z : Type 0} (held : TypeTerm → Y → Type 0) (held' : TypeTerm → Z → Type 0)
      (make : Y × List ℕ → Z × List ℕ) → ((t : TypeTerm) (y : Y × List ℕ) → held t y.0 → held' t (make y).0)
      → (r : Result X Stop) (read : Result (Y × List ℕ) Fault) (total : Result (Z × List ℕ) Fault)
      (xs ys : List (TypeView T)) → total ≡ (read >>= λ y. done (make y)) → HoldsNew held r read xs ys
      → HoldsNew held' r total xs ys
  HoldsNew-made held held' make is (Ok x) read total xs ys e h = λ z f.
      let a = bind_ok read (λ y. done (make y)) z (sym e ∙ f) in
      held_is held' total (make a.0) z xs ys (e ∙ ap (λ r. r >>= λ y. done (make y)) a.1) f
      (λ k ge lt. (let n = h a.0 a.1 k ge lt in (n.0, is n.0 a.0 n.1, n.2)))
  HoldsNew-made held held' make is (Err stop) read total xs ys e h = tt

-- ---- one more at the end

pub arguments_front : (t : TypeTerm) (as_ : List Argument) (a : Argument) → IsHeldByArgument t as_
    → IsHeldByArgument t (as_ ++ a ∷ [])
arguments_front t [] a h = absurd h
arguments_front t (x ∷ as_) a h = elim h [ inl p ↦ inl p | inr p ↦ inr (arguments_front t as_ a p) ]

pub arguments_last : (t : TypeTerm) (as_ : List Argument) (a : Argument) → IsPartOf t a.1
    → IsHeldByArgument t (as_ ++ a ∷ [])
arguments_last t [] a h = inl h
arguments_last t (x ∷ as_) a h = inr (arguments_last t as_ a h)

pub ops_front : (t : TypeTerm) (os : List OpTerm) (o : OpTerm) → IsHeldByOps t (ops_of os)
    → IsHeldByOps t (ops_of (os ++ o ∷ []))
ops_front t [] o h = absurd h
ops_front t (x ∷ os) o h = elim h [ inl p ↦ inl p | inr p ↦ inr (ops_front t os o p) ]

pub ops_last : (t : TypeTerm) (os : List OpTerm) (o : OpTerm) → IsHeldByOp t o → IsHeldByOps t (ops_of (os ++ o ∷ []))
ops_last t [] o h = inl h
ops_last t (x ∷ os) o h = inr (ops_last t os o h)

pub blocks_front : (t : TypeTerm) (bs : List BlockTerm) (b : BlockTerm) → IsHeldByBlocks t (blocks_of bs)
    → IsHeldByBlocks t (blocks_of (bs ++ b ∷ []))
blocks_front t [] b h = absurd h
blocks_front t (x ∷ bs) b h = elim h [ inl p ↦ inl p | inr p ↦ inr (blocks_front t bs b p) ]

pub blocks_last : (t : TypeTerm) (bs : List BlockTerm) (b : BlockTerm) → IsHeldByBlock t b
    → IsHeldByBlocks t (blocks_of (bs ++ b ∷ []))
blocks_last t [] b h = inl h
blocks_last t (x ∷ bs) b h = inr (blocks_last t bs b h)

-- ---- loops

-- `one` says which types a thing holds, `many` which ones several things hold
module _ {T X : Type 0} (one : TypeTerm → X → Type 0) (many : TypeTerm → List X → Type 0)
    (goes : List ℕ → Result (Bool × List ℕ) Fault) (read : List ℕ → Result (X × List ℕ) Fault) where
  -- reading goes on at `rest`, and the types that have come are held by what was read before
  pub record HeldSoFar (first now : List (TypeView T)) (rest : List ℕ) (total : Result (List X × List ℕ) Fault) : Type 0
    where
      pub front : List X
      pub going : GoesOn goes read front rest total
      pub held : AreNamed (λ t. many t front) first now

  pub held_begins : (first : List (TypeView T)) (rest : List ℕ) (total : Result (List X × List ℕ) Fault)
      → GoesOn goes read [] rest total → HeldSoFar first first rest total
  held_begins first rest total g = record { front = []; going = g; held = none_come (λ t. many t []) first }

  module _ (before : (t : TypeTerm) (xs : List X) (x : X) → many t xs → many t (xs ++ x ∷ []))
      (last : (t : TypeTerm) (xs : List X) (x : X) → one t x → many t (xs ++ x ∷ [])) (first s t u : List (TypeView T))
      (rest : List ℕ) (total : Result (List X × List ℕ) Fault) (f : HeldSoFar first s rest total) (x : X)
      (after behind : List ℕ) (is_read : read rest ≡ Ok (x, after)) (grows : Grows s t)
      (come : AreNamed (λ v. one v x) s t) (same : u ≡ t) where
    held_both : AreNamed (λ v. many v (f.front ++ x ∷ [])) first u
    held_both = come_still (λ v. many v (f.front ++ x ∷ [])) first t u same
        (both_come (λ v. many v f.front) (λ v. one v x) (λ v. many v (f.front ++ x ∷ [])) (λ v h. before v f.front x h)
        (λ v h. last v f.front x h) first s t grows f.held come)

    pub held_next : goes after ≡ Ok (true, behind) → length behind < length rest → HeldSoFar first u behind total
    held_next g lt = record {
      front = f.front ++ x ∷ [];
      going = goes_on goes read f.front rest total x after behind f.going is_read g lt;
      held = held_both;
    }

    pub held_all : goes after ≡ Ok (false, behind) → (y : List X × List ℕ) → total ≡ Ok y
        → AreNamed (λ v. many v y.0) first u
    held_all g y e = held_is many total (f.front ++ x ∷ [], behind) y first u
        (closes goes read f.front rest total x after behind f.going is_read g) e held_both
