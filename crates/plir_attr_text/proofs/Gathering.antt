-- Items of a list in brackets that are read one after the other, while types come into a table.
use Rattle.std.proofs.Common.{◌≡◌, ℕ, zero, suc, ◌<◌, Bool, true, false, List, [], ◌∷◌, ◌++◌, length, None, Result, Ok}
use Rattle.std.proofs.Common.{refl, ap, ◌∙◌, subst, arith}
use Rattle.plir_data.specs.Types.{TypeView}
use Rattle.plir_attr_text.specs.Lists.{sign_at, past_sign, separator_at, items_at}
use Rattle.plir_attr_text.specs.laws.Fronts.{GoesOn, starts, ends_at_item, ends_behind, closes, goes_on}
use Rattle.plir_attr_text.specs.laws.Growth.{Adds-itself, Adds-on, Adds-as}
use Rattle.plir_attr_text.specs.{laws.StepLaws.done, laws.TypeSteps.behind_is, laws.Begun.separator_at-shorter}
use Rattle.plir_attr_text.specs.{declared.fault.Fault.Fault, declared.fault.Stop.Stop, Terms.TypeTerm, Names.Grows}
use Rattle.plir_attr_text.specs.{Names.Adds, TypesIn.IsBehind, TypesIn.IsItemAt, TypesIn.IsInList, Reading.Fails}

-- what is held means the items read so far, the next one begins at rest, and only types that are written in the items
-- before have come
pub record Gathers {S T Y H : Type 0} (types : S → List (TypeView T)) (same : S → S → Type 0) (open_ close : ℕ)
    (read : List ℕ → Result (Y × List ℕ) Fault) (is_in : List ℕ → TypeTerm → Type 0)
    (means : List (TypeView T) → H → List Y → Type 0) (bytes : List ℕ) (first now : S) (held : H) (rest : List ℕ) : Type
    0 where
  pub kept : Adds types same (IsInList open_ close read is_in bytes) first now
  pub front : List Y
  pub meant : means (types now) held front
  pub place : IsItemAt open_ close read bytes rest
  pub going : GoesOn (separator_at close) read front rest (items_at open_ close read bytes)

-- behind one more item
behind_more : {Y : Type 0} (open_ close : ℕ) (read : List ℕ → Result (Y × List ℕ) Fault) (n : ℕ)
    (start rest next : List ℕ) (x : Y × List ℕ) → IsBehind open_ close read n start rest → read rest ≡ Ok x →
    separator_at close x.1 ≡ Ok (true, next) → IsBehind open_ close read (suc n) start next
behind_more open_ close read zero start rest next x h e s = (x, next, subst (λ l. read l ≡ Ok x) h e, s, refl)
behind_more open_ close read (suc n) start rest next x h e s =
    (h.0, h.1, h.2, h.3, behind_more open_ close read n h.1 rest next x h.4 e s)

module _ {S T Y H : Type 0} {types : S → List (TypeView T)} {same : S → S → Type 0} {open_ close : ℕ}
    {read : List ℕ → Result (Y × List ℕ) Fault} {is_in : List ℕ → TypeTerm → Type 0}
    {means : List (TypeView T) → H → List Y → Type 0} {bytes : List ℕ} where
  pub begins : ((c : S) → same c c) → (c : S) (held : H) (start : List ℕ) → means (types c) held [] →
      sign_at open_ bytes ≡ Ok start → past_sign close start ≡ None →
      Gathers types same open_ close read is_in means bytes c c held start
  begins itself c held start none p q = record {
    kept = Adds-itself itself c;
    front = [];
    meant = none;
    place = (start, zero, p, q, refl);
    going = starts open_ close read bytes start p q;
  }

  module _ {a b : S} {held : H} {rest : List ℕ}
      (so_far : Gathers types same open_ close read is_in means bytes a b held rest) where
    -- the types that the next item adds are written in the list
    pub kept_on : ((a b c : S) → same a b → same b c → same a c) → (c : S) → Adds types same (is_in rest) b c →
        Adds types same (IsInList open_ close read is_in bytes) a c
    kept_on on c kept = Adds-on on a b c so_far.kept (Adds-as (λ t w. (rest, so_far.place, w)) b c kept)

    pub fails_at : (e : Stop) → Fails e (read rest) → Fails e (items_at open_ close read bytes)
    fails_at e h = ends_at_item (separator_at close) read so_far.front rest _ ⊥ e so_far.going h

    -- behind an item that is read, at the place that is left
    module _ (y : Y × List ℕ) (is_read : read rest ≡ Ok y) (after : List ℕ) (here : after ≡ y.1) where
      there : read rest ≡ Ok (y.0, after)
      there = behind_is _ y after is_read here

      pub fails_behind : (e : Stop) → Fails e (separator_at close after) → Fails e (items_at open_ close read bytes)
      fails_behind e k = ends_behind (separator_at close) read so_far.front rest _ ⊥ e y.0 after so_far.going there k

      module _ (goes : Bool) (behind : List ℕ) (parted : separator_at close after ≡ Ok (goes, behind)) where
        parted_as : (m : Bool) → goes ≡ m → separator_at close after ≡ Ok (m, behind)
        parted_as m is = parted ∙ ap (λ n. done (n, behind)) is

        pub smaller : ((from : List ℕ) (x : Y × List ℕ) → read from ≡ Ok x → length x.1 < length from) →
            length behind < length rest
        smaller shorter = omega (
          arith,
          shorter rest y is_read,
          ap length here,
          separator_at-shorter close after (goes, behind) parted,
        )

        -- the list ends, or goes on, with that item in it
        module _ (grown : (a b : List (TypeView T)) (held : H) (ys : List Y) → Grows a b → means a held ys →
            means b held ys) (c : S) (kept : Adds types same (is_in rest) b c) (held' : H)
            (push : (front : List Y) → means (types c) held front → means (types c) held' (front ++ y.0 ∷ [])) where
          with_it : means (types c) held' (so_far.front ++ y.0 ∷ [])
          with_it = push so_far.front (grown (types b) (types c) held so_far.front kept.grown so_far.meant)

          pub gathered : goes ≡ false → (z : List Y × List ℕ) × (items_at open_ close read bytes ≡ Ok z) ×
              (means (types c) held' z.0 × (behind ≡ z.1))
          gathered is = (
            (so_far.front ++ y.0 ∷ [], behind),
            closes (separator_at close) read so_far.front rest _ y.0 after behind so_far.going there
                (parted_as false is),
            (with_it, refl),
          )

          pub one_more : goes ≡ true → ((a b c : S) → same a b → same b c → same a c) →
              ((from : List ℕ) (x : Y × List ℕ) → read from ≡ Ok x → length x.1 < length from) →
              Gathers types same open_ close read is_in means bytes a c held' behind
          one_more is on shorter =
              let next = parted_as true is in
              record {
                kept = kept_on on c kept;
                front = so_far.front ++ y.0 ∷ [];
                meant = with_it;
                place = (
                  so_far.place.0,
                  suc so_far.place.1,
                  so_far.place.2,
                  so_far.place.3,
                  behind_more open_ close read so_far.place.1 so_far.place.0 rest behind (y.0, after) so_far.place.4
                      there next,
                );
                going = goes_on (separator_at close) read so_far.front rest _ y.0 after behind so_far.going there next
                    (smaller shorter);
              }
