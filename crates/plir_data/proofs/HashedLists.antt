-- How a thing is found by its hash, and what is kept when one comes last.
use Rattle.std.proofs.Common.{◌≡◌, ℕ, suc, zero, ◌<◌, ◌≤◌, ◌+◌, ◌⊎◌, inl, inr, List, [], ◌∷◌, ◌++◌, length, Option}
use Rattle.std.proofs.Common.{Some, slice_get, refl, sym, ap, subst, ◌∙◌, arith, length-append, cond, nat_eq, true, false, get_or}
use Rattle.std.proofs.lemmas.Bool.{cases_order}
use Rattle.std.proofs.lemmas.Bool.Decides.{eqb_tells}
use Rattle.std.proofs.lemmas.Option.{slice_get_within, slice_get_read}
use Rattle.plir_data.specs.Hashed.{past, StandsAt, Latest, Hashed}
use Rattle.plir_data.proofs.Tables.{at_push}

module _ {X : Type 0} where
  stands_within : {P : X → Type 0} (things : List X) (i : ℕ) → StandsAt P things i → i < length things
  stands_within things i s = slice_get_within things i s.0 s.1

  stands_as : {P Q : X → Type 0} (things : List X) (i : ℕ) → ((x : X) → Q x → P x) → StandsAt Q things i → StandsAt P
      things i
  stands_as things i also s = (s.0, s.1, also s.0 s.2)

  -- A search for a thing of which Q holds has come to the place `at`: the thing there is one of those that are looked
  -- at, of which P holds, and Q holds of none past it.
  pub record IsSought (P Q : X → Type 0) (things : List X) (at : Option ℕ) : Type 0 where
    pub within : past at ≤ length things
    pub there : (i : ℕ) → at ≡ Some i → StandsAt P things i
    pub none_past : (i : ℕ) → past at ≤ i → StandsAt Q things i → ⊥

  pub sought_first : {P Q : X → Type 0} (things : List X) (at : Option ℕ) → ((x : X) → Q x → P x) → Latest P things
      (length things) at → IsSought P Q things at
  sought_first things at also l = record {
    within = l.within;
    there = l.there;
    none_past = λ i from s. l.none_later i from (stands_within things i s) (stands_as things i also s);
  }

  pub sought_next : {P Q : X → Type 0} (things : List X) (at : Option ℕ) (place : ℕ) (next : Option ℕ) (x : X) →
      ((y : X) → Q y → P y) → Latest P things place next → IsSought P Q things at → at ≡ Some place → slice_get things
      place ≡ Some x → (Q x → ⊥) → IsSought P Q things next
  sought_next {P} {Q} things at place next x also before sought is here fails = record {
    within = omega (arith, before.within, come.within);
    there = before.there;
    none_past = λ i from s. by i from s (cases_order i place);
  }
    where
      come : IsSought P Q things (Some place)
      come = subst (IsSought P Q things) is sought

      by : (i : ℕ) → past next ≤ i → StandsAt Q things i → (i ≡ place) ⊎ ((i < place) ⊎ (place < i)) → ⊥
      by i from s (inl same) =
          let there : slice_get things place ≡ Some s.0 = subst (λ j. slice_get things j ≡ Some s.0) same s.1 in
          let one : s.0 ≡ x = cc in
          fails (subst Q one s.2)
      by i from s (inr (inl less)) = before.none_later i from less (stands_as things i also s)
      by i from s (inr (inr more)) = come.none_past i (omega arith) s

  pub sought_at : {P Q : X → Type 0} (things : List X) (at : Option ℕ) (place : ℕ) (x : X) → IsSought P Q things at → at
      ≡ Some place → x ≡ get_or things place x → slice_get things place ≡ Some x
  sought_at things at place x sought is read =
      let within : past (Some place) ≤ length things = subst (λ o. past o ≤ length things) is sought.within in
      slice_get_read things (length things) place x refl (omega arith) read

  at_front : (xs : List X) (x y : X) (i : ℕ) → slice_get xs i ≡ Some y → slice_get (xs ++ x ∷ []) i ≡ Some y
  at_front [] x y i e = absurd (let f : ⊥ = cc in f)
  at_front (z ∷ xs) x y zero e = e
  at_front (z ∷ xs) x y (suc i) e = at_front xs x y i e

  pub at_last : (xs : List X) (x : X) → slice_get (xs ++ x ∷ []) (length xs) ≡ Some x
  at_last [] x = refl
  at_last (z ∷ xs) x = at_last xs x

  -- what stands before the end is as it was when one thing more has come
  latest_front : {P : X → Type 0} (things : List X) (x : X) (end : ℕ) (place : Option ℕ) → end ≤ length things → Latest
      P things end place → Latest P (things ++ x ∷ []) end place
  latest_front {P} things x end place small l = record {
    within = l.within;
    there = λ i is. let s = l.there i is in (s.0, at_front things x s.0 i s.1, s.2);
    none_later = λ i from less s. by i from less s (at_push things x s.0 i s.1);
  }
    where
      by : (i : ℕ) → past place ≤ i → i < end → (s : StandsAt P (things ++ x ∷ []) i) → (slice_get things i ≡ Some s.0) ⊎
          ((i ≡ length things) × (x ≡ s.0)) → ⊥
      by i from less s (inl e) = l.none_later i from less (s.0, e, s.2)
      by i from less s (inr e) = omega (arith, e.0)

  -- the last one with P is the same where P does not hold of the thing that has come
  latest_more : {P : X → Type 0} (things : List X) (x : X) (place : Option ℕ) → (P x → ⊥) → Latest P things
      (length things) place → Latest P (things ++ x ∷ []) (length things + 1) place
  latest_more {P} things x place not l = record {
    within = omega (arith, l.within);
    there = λ i is. let s = l.there i is in (s.0, at_front things x s.0 i s.1, s.2);
    none_later = λ i from less s. by i from s (at_push things x s.0 i s.1);
  }
    where
      by : (i : ℕ) → past place ≤ i → (s : StandsAt P (things ++ x ∷ []) i) → (slice_get things i ≡ Some s.0) ⊎
          ((i ≡ length things) × (x ≡ s.0)) → ⊥
      by i from s (inl e) = l.none_later i from (slice_get_within things i s.0 e) (s.0, e, s.2)
      by i from s (inr e) = not (subst P (sym e.1) s.2)

  latest_here : {P : X → Type 0} (things : List X) (x : X) → P x → Latest P (things ++ x ∷ []) (length things + 1) (Some
      (length things))
  latest_here things x p = record {
    within = omega arith;
    there = λ i is.
        let same : length things ≡ i = cc in
        (x, subst (λ j. slice_get (things ++ x ∷ []) j ≡ Some x) same (at_last things x), p);
    none_later = λ i from less s. omega arith;
  }

module _ {X : Type 0} (hash : X → ℕ) where
  -- the same where both lists and the map say what they said before
  pub hashed_same : (things others : List X) (earlier links : List (Option ℕ)) (latest lasts : ℕ → Option ℕ) → others ≡
      things → links ≡ earlier → ((w : ℕ) → lasts w ≡ latest w) → Hashed hash things earlier latest → Hashed hash others
      links lasts
  hashed_same things others earlier links latest lasts t e l h =
      subst (λ ts. Hashed hash ts links lasts) (sym t) (subst (λ es. Hashed hash things es lasts) (sym e) (record {
        beside = h.beside;
        chained = h.chained;
        lasts = λ w. subst (Latest (λ y. hash y ≡ w) things (length things)) (sym (l w)) (h.lasts w);
      }))

  -- beside the thing that a search has come to stands the last place before it with the hash that is looked for
  pub sought_earlier : {Q : X → Type 0} (word : ℕ) (things : List X) (earlier : List (Option ℕ))
      (latest : ℕ → Option ℕ) (at : Option ℕ) (place : ℕ) (x : X) (next : Option ℕ) → Hashed hash things earlier latest
      → IsSought (λ y. hash y ≡ word) Q things at → at ≡ Some place → x ≡ get_or things place x → next ≡ get_or earlier
      place next → Latest (λ y. hash y ≡ word) things place next
  sought_earlier word things earlier latest at place x next h sought is read link =
      let here : slice_get things place ≡ Some x = sought_at things at place x sought is read in
      let s = sought.there place is in
      let one : s.0 ≡ x = cc (s.1, here) in
      let same : hash x ≡ word = ap hash (sym one) ∙ s.2 in
      let within : place < length things = slice_get_within things place x here in
      subst (λ w. Latest (λ y. hash y ≡ w) things place next) same (h.chained place x next here
      (slice_get_read earlier (length things) place next (sym h.beside) within link))

  -- One thing more comes last: beside it stands the place that was the last with its hash, and its own place is the
  -- last with its hash now.
  hashed_push : (things : List X) (x : X) (earlier : List (Option ℕ)) (latest lasts : ℕ → Option ℕ) → ((w : ℕ) →
      lasts w ≡ cond (nat_eq (hash x) w) (Some (length things)) (latest w)) → Hashed hash things earlier latest → Hashed
      hash (things ++ x ∷ []) (earlier ++ latest (hash x) ∷ []) lasts
  hashed_push things x earlier latest lasts updates h = record {
    beside = simp length-append (ap (λ n. n + 1) h.beside);
    chained = λ i y place at link. chained i y place (at_push things x y i at)
        (at_push earlier (latest (hash x)) place i link);
    lasts = λ w. subst (λ n. Latest (λ y. hash y ≡ w) (things ++ x ∷ []) n (lasts w)) (sym longer)
        (last w (eqb_tells (hash x) w));
  }
    where
      longer : length (things ++ x ∷ []) ≡ length things + 1
      longer = length-append things (x ∷ [])

      chained : (i : ℕ) (y : X) (place : Option ℕ) → (slice_get things i ≡ Some y) ⊎ ((i ≡ length things) × (x ≡ y)) →
          (slice_get earlier i ≡ Some place) ⊎ ((i ≡ length earlier) × (latest (hash x) ≡ place)) → Latest (λ z. hash
          z ≡ hash y) (things ++ x ∷ []) i place
      chained i y place (inl a) (inl b) =
          let within : i < length things = slice_get_within things i y a in
          latest_front things x i place (omega arith) (h.chained i y place a b)
      chained i y place (inl a) (inr b) =
          let within : i < length things = slice_get_within things i y a in
          absurd (omega (arith, b.0, h.beside))
      chained i y place (inr a) (inl b) =
          let within : i < length earlier = slice_get_within earlier i place b in
          absurd (omega (arith, a.0, h.beside))
      chained i y place (inr a) (inr b) =
          subst (λ z. Latest (λ u. hash u ≡ hash z) (things ++ x ∷ []) i place) a.1
          (subst (λ n. Latest (λ u. hash u ≡ hash x) (things ++ x ∷ []) n place) (sym a.0)
          (latest_front things x (length things) place (omega arith)
          (subst (Latest (λ u. hash u ≡ hash x) things (length things)) b.1 (h.lasts (hash x)))))

      last : (w : ℕ) → ((nat_eq (hash x) w ≡ true) × (hash x ≡ w)) ⊎ ((nat_eq (hash x) w ≡ false) × (hash x ≡ w → ⊥)) →
          Latest (λ y. hash y ≡ w) (things ++ x ∷ []) (length things + 1) (lasts w)
      last w (inl is) =
          subst (Latest (λ y. hash y ≡ w) (things ++ x ∷ []) (length things + 1))
          (sym (updates w ∙ ap (λ b. cond b (Some (length things)) (latest w)) is.0))
          (latest_here things x is.1)
      last w (inr not) =
          subst (Latest (λ y. hash y ≡ w) (things ++ x ∷ []) (length things + 1))
          (sym (updates w ∙ ap (λ b. cond b (Some (length things)) (latest w)) not.0))
          (latest_more things x (latest w) not.1 (h.lasts w))

  -- the same as it is put: the hash, the places and the lists, at first made longer by nothing, by other names
  pub hashed_put : (things : List X) (x : X) (earlier : List (Option ℕ)) (latest lasts : ℕ → Option ℕ) (word place : ℕ)
      (before : Option ℕ) (room values : List X) (slots links : List (Option ℕ)) → word ≡ hash x → place ≡ length things
      → before ≡ latest word → ((w : ℕ) → lasts w ≡ cond (nat_eq word w) (Some place) (latest w)) → room ≡ things →
      values ≡ room ++ x ∷ [] → slots ≡ earlier → links ≡ slots ++ before ∷ [] → Hashed hash things earlier latest →
      Hashed hash values links lasts
  hashed_put things x earlier latest lasts word place before room values slots links same last was updates r v s l h =
      hashed_same (things ++ x ∷ []) values (earlier ++ latest (hash x) ∷ []) links lasts lasts
      (v ∙ ap (λ ts. ts ++ x ∷ []) r)
      (l ∙ ap (λ es. es ++ before ∷ []) s ∙ ap (λ b. earlier ++ b ∷ []) (was ∙ ap latest same)) (λ w. refl)
      (hashed_push things x earlier latest lasts (λ w. updates w ∙ ap (λ n. cond (nat_eq word w) (Some n) (latest w))
      last ∙ ap (λ k. cond (nat_eq k w) (Some (length things)) (latest w)) same) h)
