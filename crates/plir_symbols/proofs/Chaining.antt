-- Chains of places: one place more, and what is read along the chain of an operation.
use Rattle.std.proofs.Common.{◌≡◌, ◌<◌, ◌≤◌, ◌+◌, ℕ, suc, Bool, true, false, cond, List, [], ◌∷◌, ◌++◌, length, map}
use Rattle.std.proofs.Common.{reverse, take, get_or, Option, Some, None, option_and_then, arith, inl, inr, refl, sym}
use Rattle.std.proofs.Common.{ap, subst, ◌∙◌}
use Rattle.std.specs.Prelude.{slice_get}
use Rattle.std.specs.HashMap.{get}
use Rattle.std.specs.List.{filter_map, cons_option}
use Rattle.std.proofs.lemmas.List.{append_assoc, append-nil, length-append, length-map, map-append, reverse-append}
use Rattle.std.proofs.lemmas.List.Elements.{filter_map-append}
use Rattle.std.proofs.lemmas.Option.{none-some, same_Some}
use Rattle.std.proofs.Math.Seq.{take-suc}
use Rattle.plir_data.specs.Hashed.{past}
use Rattle.plir_core.specs.declared.ptr.Ptr.{Ptr}
use Rattle.plir_core.specs.declared.ptr.Operation.{Operation as OperationKind}
use Rattle.plir_walk.specs.NodeLaws.{same_ptr_tells}
use Rattle.plir_symbols.specs.CallGraph.{is_found}
use Rattle.plir_symbols.specs.Chained.{AreChains, at_end, beyond, earlier_in, found_by, last_of, last_place}
use Rattle.plir_symbols.specs.Chained.{place_behind}
use Rattle.plir_symbols.specs.Reaching.{ptr_eq}
use Rattle.plir_symbols.specs.declared.call_edges.CallEdge.{CallEdge}
use Rattle.plir_symbols.specs.declared.call_edges.End.{End}
use Rattle.plir_symbols.specs.declared.chains.Chains.{Chains}
use Rattle.plir_symbols.proofs.Grown.{eq-same}

abbrev Ops : Type 0
Ops = List (Option (Ptr OperationKind))

-- ---- the last place in a list

behind-cond : (b c : Bool) (n : ℕ) (o : Option ℕ) →
    place_behind b (cond c (Some n) o) ≡ cond c (Some (suc n)) (place_behind b o)
behind-cond b true n o = refl
behind-cond b false n o = refl

behind-within : (b : Bool) (o : Option ℕ) → past (place_behind b o) ≤ suc (past o)
behind-within b (Some i) = omega arith
behind-within true None = omega arith
behind-within false None = omega arith

module _ {X : Type 0} (test : X → Bool) where
  -- with one thing more it is that of this one, if it passes
  pub last-behind : (xs : List X) (x : X) →
      last_place test (xs ++ x ∷ []) ≡ cond (test x) (Some (length xs)) (last_place test xs)
  last-behind [] x = refl
  last-behind (y ∷ ys) x =
      ap (place_behind (test y)) (last-behind ys x)
      ∙ behind-cond (test y) (test x) (length ys) (last_place test ys)

  pub last-within : (xs : List X) → past (last_place test xs) ≤ length xs
  last-within [] = omega arith
  last-within (x ∷ xs) =
      (let rest = last-within xs in
      let more = behind-within (test x) (last_place test xs) in omega (arith, rest, more))

  -- A list is cut at the last thing in it that passes.
  pub record IsCut (xs : List X) (i : ℕ) : Type 0 where
    pub front : List X
    pub item : X
    pub back : List X
    pub parts : xs ≡ front ++ item ∷ back
    pub place : length front ≡ i
    pub passes : test item ≡ true
    pub none : last_place test back ≡ None

  pub last-cut : (xs : List X) (i : ℕ) → last_place test xs ≡ Some i → IsCut xs i
  last-cut [] i e = absurd (none-some i e)
  last-cut (x ∷ xs) i e = at (last_place test xs) refl (λ j f. last-cut xs j f) e
    where
      here : (b : Bool) → test x ≡ b → last_place test xs ≡ None → cond b (Some 0) None ≡ Some i → IsCut (x ∷ xs) i
      here true is none e = record {
        front = [];
        item = x;
        back = xs;
        parts = refl;
        place = same_Some 0 i e;
        passes = is;
        none = none;
      }
      here false is none e = absurd (none-some i e)

      at : (o : Option ℕ) → last_place test xs ≡ o → ((j : ℕ) → last_place test xs ≡ Some j → IsCut xs j) →
          place_behind (test x) o ≡ Some i → IsCut (x ∷ xs) i
      at (Some j) is rest e = (let c = rest j is in record {
        front = x ∷ c.front;
        item = c.item;
        back = c.back;
        parts = ap (λ z. x ∷ z) c.parts;
        place = ap suc c.place ∙ same_Some (suc j) i e;
        passes = c.passes;
        none = c.none;
      })
      at None is rest e = here (test x) refl is e

  -- where nothing passes, nothing is given of what is given of that alone
  pub none-given : {Y : Type 0} (h : X → Option Y) → ((x : X) → test x ≡ false → h x ≡ None) → (xs : List X) →
      last_place test xs ≡ None → filter_map h xs ≡ []
  none-given h off [] e = refl
  none-given {Y} h off (x ∷ xs) e =
      at (last_place test xs) (test x) refl (λ f. none-given h off xs f) refl e
    where
      at : (o : Option ℕ) (b : Bool) → last_place test xs ≡ o → (last_place test xs ≡ None → filter_map h xs ≡ []) →
          test x ≡ b → place_behind b o ≡ None → cons_option (h x) (filter_map h xs) ≡ []
      at (Some j) b is rest test_is e = absurd (none-some (suc j) (sym e))
      at None true is rest test_is e = absurd (none-some 0 (sym e))
      at None false is rest test_is e = ap (λ o. cons_option o (filter_map h xs)) (off x test_is) ∙ rest is

-- the same of what is told of each thing
pub last-map : {X Y : Type 0} (test : Y → Bool) (f : X → Y) (xs : List X) →
    last_place test (map f xs) ≡ last_place (λ x. test (f x)) xs
last-map test f [] = refl
last-map test f (x ∷ xs) = ap (place_behind (test (f x))) (last-map test f xs)

-- ---- one place more

-- what is put beside the next operation
earlier-behind : (before ops : Ops) (op : Option (Ptr OperationKind)) →
    earlier_in before (ops ++ op ∷ []) ≡ earlier_in before ops ++ option_and_then (last_of (before ++ ops)) op ∷ []
earlier-behind before [] op = ap (λ z. option_and_then (last_of z) op ∷ []) (sym (append-nil before))
earlier-behind before (x ∷ ops) op =
    ap (λ z. option_and_then (last_of before) x ∷ z) (earlier-behind (before ++ x ∷ []) ops op
    ∙ ap (λ z. earlier_in (before ++ x ∷ []) ops ++ option_and_then (last_of z) op ∷ [])
    (append_assoc before (x ∷ []) ops))

length-earlier : (before ops : Ops) → length (earlier_in before ops) ≡ length ops
length-earlier before [] = refl
length-earlier before (op ∷ ops) = ap suc (length-earlier (before ++ op ∷ []) ops)

-- what stands beside an operation
earlier-at : (before front back : Ops) (op : Option (Ptr OperationKind)) →
    slice_get (earlier_in before (front ++ op ∷ back)) (length front)
    ≡ Some (option_and_then (last_of (before ++ front)) op)
earlier-at before [] back op = ap (λ z. Some (option_and_then (last_of z) op)) (sym (append-nil before))
earlier-at before (x ∷ front) back op =
    earlier-at (before ++ x ∷ []) front back op
    ∙ ap (λ z. Some (option_and_then (last_of z) op)) (append_assoc before (x ∷ []) front)

-- a place that is put for an operation, as a hash map tells it
pub put-found : (q p : Ptr OperationKind) (n : ℕ) (new old : Option ℕ) →
    new ≡ cond (ptr_eq q p) (Some n) old → new ≡ cond (is_found p (Some q)) (Some n) old
put-found q p n new old e = e ∙ ap (λ b. cond b (Some n) old) (eq-same q p)

-- the last place of each operation is known with one operation more
pub put-chains : (ops : Ops) (op : Option (Ptr OperationKind)) (c d : Chains) (place : ℕ) (before : Option ℕ) →
    place ≡ length c.earlier.items → before ≡ option_and_then (get ptr_eq c.latest) op →
    ((p : Ptr OperationKind) → get ptr_eq d.latest p ≡ cond (is_found p op) (Some place) (get ptr_eq c.latest p)) →
    d.earlier.items ≡ c.earlier.items ++ before ∷ [] → AreChains ops c → AreChains (ops ++ op ∷ []) d
put-chains ops op c d place before at was updates behind chains = record {
  earlier = behind ∙ ap (λ z. z ++ before ∷ []) chains.earlier
      ∙ ap (λ o. earlier_in [] ops ++ o ∷ []) (was ∙ last-as op) ∙ sym (earlier-behind [] ops op);
  latest = λ p. updates p
      ∙ ap (λ n. cond (is_found p op) (Some n) (get ptr_eq c.latest p)) last
      ∙ ap (cond (is_found p op) (Some (length ops))) (chains.latest p)
      ∙ sym (last-behind (is_found p) ops op);
}
  where
    last : place ≡ length ops
    last = at ∙ ap length chains.earlier ∙ length-earlier [] ops

    last-as : (o : Option (Ptr OperationKind)) → option_and_then (get ptr_eq c.latest) o
        ≡ option_and_then (last_of ops) o
    last-as None = refl
    last-as (Some p) = chains.latest p

-- ---- what is read along a chain

-- where an operation is found, it is the one that is looked for
found-same : (p : Ptr OperationKind) (o : Option (Ptr OperationKind)) → is_found p o ≡ true → o ≡ Some p
found-same p None e = absurd (let z : ⊥ = cc e in z)
found-same p (Some q) e = elim (same_ptr_tells q p) [
  | inl h ↦ ap Some h.1
  | inr h ↦ absurd (let z : ⊥ = cc (e, h.0) in z)
]

module _ (es : List CallEdge) (end : End) (p : Ptr OperationKind) where
  abbrev here : CallEdge → Bool
  here e = is_found p (at_end end e)

  abbrev ends : List CallEdge → Ops
  ends xs = map (at_end end) xs

  abbrev pub given : List CallEdge → List (Ptr OperationKind)
  given xs = filter_map (found_by end p) xs

  off : (e : CallEdge) → here e ≡ false → found_by end p e ≡ None
  off e is = ap (λ b. cond b (beyond end e) None) is

  -- A look along the chain of p has come to a place, and found what is given of the edges behind it, the last first.
  pub record IsSought (at : Option ℕ) (found : List (Ptr OperationKind)) : Type 0 where
    pub left : List CallEdge
    pub passed : List CallEdge
    pub parts : es ≡ left ++ passed
    pub place : at ≡ last_of (ends left) p
    pub behind : found ++ reverse (given left) ≡ reverse (given es)

  pub sought-first : (at : Option ℕ) (c : Chains) → at ≡ get ptr_eq c.latest p → AreChains (ends es) c →
      (found : List (Ptr OperationKind)) → found ≡ [] → IsSought at found
  sought-first at c is chains found none = record {
    left = es;
    passed = [];
    parts = sym (append-nil es);
    place = is ∙ chains.latest p;
    behind = ap (λ z. z ++ reverse (given es)) none;
  }

  pub sought-all : (at : Option ℕ) (found : List (Ptr OperationKind)) → IsSought at found → at ≡ None →
      found ≡ reverse (given es)
  sought-all at found s e =
      sym (append-nil found)
      ∙ ap (λ z. found ++ reverse z) (sym (none-given here (found_by end p) off s.left
      (sym (last-map (is_found p) (at_end end) s.left) ∙ sym s.place ∙ e)))
      ∙ s.behind

  module _ (at : Option ℕ) (found : List (Ptr OperationKind)) (s : IsSought at found) (i : ℕ)
      (is : at ≡ Some i) where
    pub cut : IsCut here s.left i
    cut = last-cut here s.left i (sym (last-map (is_found p) (at_end end) s.left) ∙ sym s.place ∙ is)

    abbrev e : CallEdge
    e = cut.item

    whole : es ≡ cut.front ++ e ∷ (cut.back ++ s.passed)
    whole = s.parts ∙ ap (λ z. z ++ s.passed) cut.parts ∙ append_assoc cut.front (e ∷ cut.back) s.passed

    pub sought-within : i < length es
    sought-within =
        (let all = ap length whole ∙ length-append cut.front (e ∷ (cut.back ++ s.passed)) in
        let place = cut.place in omega (arith, all, place))

    pub sought-edge : (x : CallEdge) → slice_get es i ≡ Some x → e ≡ x
    sought-edge x at = same_Some e x (sym (subst (λ n. slice_get es n ≡ Some e) cut.place
        (ap (λ z. slice_get z (length cut.front)) whole ∙ get-mid cut.front (cut.back ++ s.passed)))
        ∙ at)
      where
        get-mid : (xs ys : List CallEdge) → slice_get (xs ++ e ∷ ys) (length xs) ≡ Some e
        get-mid [] ys = refl
        get-mid (x ∷ xs) ys = get-mid xs ys

    -- what stands beside the place is the last one before it
    before-is : (c : Chains) (next : Option ℕ) → AreChains (ends es) c → slice_get c.earlier.items i ≡ Some next →
        next ≡ last_of (ends cut.front) p
    before-is c next chains at = same_Some next (last_of (ends cut.front) p) (sym at ∙ beside)
      where
        listed : ends es ≡ ends cut.front ++ at_end end e ∷ ends (cut.back ++ s.passed)
        listed = ap ends whole ∙ map-append (at_end end) cut.front (e ∷ (cut.back ++ s.passed))

        counted : length (ends cut.front) ≡ i
        counted = length-map cut.front (at_end end) ∙ cut.place

        beside : slice_get c.earlier.items i ≡ Some (last_of (ends cut.front) p)
        beside =
            ap (λ z. slice_get z i) (chains.earlier ∙ ap (earlier_in []) listed)
            ∙ subst (λ n. slice_get (earlier_in [] (ends cut.front ++ at_end end e ∷ ends (cut.back ++ s.passed))) n
            ≡ Some (option_and_then (last_of (ends cut.front)) (at_end end e))) counted
            (earlier-at [] (ends cut.front) (ends (cut.back ++ s.passed)) (at_end end e))
            ∙ ap (λ o. Some (option_and_then (last_of (ends cut.front)) o))
            (found-same p (at_end end e) cut.passes)

    given-left : given s.left ≡ given cut.front ++ cons_option (beyond end e) []
    given-left =
        ap given cut.parts
        ∙ filter_map-append (found_by end p) cut.front (e ∷ cut.back)
        ∙ ap (λ z. given cut.front ++ cons_option (found_by end p e) z)
        (none-given here (found_by end p) off cut.back cut.none)
        ∙ ap (λ b. given cut.front ++ cons_option (cond b (beyond end e) None) []) cut.passes

    reverse-one : (o : Option (Ptr OperationKind)) → reverse (cons_option o []) ≡ cons_option o []
    reverse-one None = refl
    reverse-one (Some q) = refl

    pub sought-next : (c : Chains) (next : Option ℕ) (x : CallEdge) (more : List (Ptr OperationKind)) →
        AreChains (ends es) c → slice_get c.earlier.items i ≡ Some next → slice_get es i ≡ Some x →
        more ≡ found ++ cons_option (beyond end x) [] → IsSought next more
    sought-next c next x more chains beside at put = record {
      left = cut.front;
      passed = e ∷ (cut.back ++ s.passed);
      parts = whole;
      place = before-is c next chains beside;
      behind =
          ap (λ z. z ++ reverse (given cut.front))
          (put ∙ ap (λ y. found ++ cons_option (beyond end y) []) (sym (sought-edge x at)))
          ∙ append_assoc found (cons_option (beyond end e) []) (reverse (given cut.front))
          ∙ ap (λ z. found ++ z) (
          ap (λ z. z ++ reverse (given cut.front)) (sym (reverse-one (beyond end e)))
          ∙ sym (reverse-append (given cut.front) (cons_option (beyond end e) []))
          ∙ ap reverse (sym given-left)
          )
          ∙ s.behind;
    }

    -- and so the look ends
    pub sought-falls : (c : Chains) (next : Option ℕ) → AreChains (ends es) c →
        slice_get c.earlier.items i ≡ Some next → past next < past at
    sought-falls c next chains beside =
        let before : past next ≡ past (last_of (ends cut.front) p) = ap past (before-is c next chains beside) in
        let within : past (last_of (ends cut.front) p) ≤ length (ends cut.front) =
        last-within (is_found p) (ends cut.front) in
        let many : length (ends cut.front) ≡ length cut.front = length-map cut.front (at_end end) in
        let place : length cut.front ≡ i = cut.place in
        subst (λ o. past next < past o) (sym is) (omega (arith, before, within, many, place))

    -- beside the place stands something
    pub sought-beside : (c : Chains) → AreChains (ends es) c → i < length c.earlier.items
    sought-beside c chains =
        let many : length c.earlier.items ≡ length es =
        ap length chains.earlier ∙ length-earlier [] (ends es) ∙ length-map es (at_end end) in
        let within : i < length es = sought-within in
        omega (arith, many, within)

-- ---- one edge more, at an end

pub chains-next : (end : End) (es : List CallEdge) (i : ℕ) (d : CallEdge) (op : Option (Ptr OperationKind))
    (c e : Chains) → i < length es → op ≡ at_end end (get_or es i d) →
    ((ops : Ops) → AreChains ops c → AreChains (ops ++ op ∷ []) e) →
    AreChains (map (at_end end) (take i es)) c → AreChains (map (at_end end) (take (i + 1) es)) e
chains-next end es i d op c e below is put chains =
    subst (λ ops. AreChains ops e) (
    ap (λ o. map (at_end end) (take i es) ++ o ∷ []) is
    ∙ sym (map-append (at_end end) (take i es) (get_or es i d ∷ []))
    ∙ ap (map (at_end end)) (sym (take-suc es i d below) ∙ ap (λ n. take n es) next)
    ) (put (map (at_end end) (take i es)) chains)
  where
    next : suc i ≡ i + 1
    next = omega arith
