-- Who bears a name in a tree whose nodes have different names: one alone.
use Rattle.std.proofs.Common.{◌≡◌, ℕ, zero, suc, Bool, true, false, List, [], ◌∷◌, ◌++◌, flat_map, map, inl, inr, Option}
use Rattle.std.proofs.Common.{Some, None, refl, sym, ap, ap₂, subst, ◌∙◌}
use Rattle.std.specs.Option.{option_eq}
use Rattle.std.specs.Prelude.{slice_get, if◌then◌else◌}
use Rattle.std.specs.Str.{bytes_eq}
use Rattle.std.proofs.lemmas.Bool.{and_parts}
use Rattle.std.proofs.lemmas.List.{map-append}
use Rattle.std.proofs.lemmas.Option.{same_Some}
use Rattle.std.proofs.lemmas.Slice.Eq.{bytes_eq-Decides}
use Rattle.plir_data.specs.declared.op_set.OpSet as op_set
use Rattle.plir_names.specs.Meanings.{bearers, meaning, meaning_by}
use Rattle.plir_names.specs.declared.names.Meaning.TheVariants.{Only}
use Rattle.plir_store.specs.MemberLaws.{Distinct-append, Has-append_cases, Has-append_left, Has-append_right, Has-at}
use Rattle.plir_store.specs.MemberLaws.{Has-map, at-Has, map-Has}
use Rattle.plir_store.specs.Members.{Has, Distinct, head}
use Rattle.plir_core.specs.ContextView.{ContextView, children}
use Rattle.plir_core.specs.SameValue.{ptr-exact, same_ptr}
use Rattle.plir_core.specs.Standing.{IsStanding}
use Rattle.plir_core.specs.declared.ptr.Ptr.{Ptr}
use Rattle.plir_core.specs.declared.ptr.IRNode.{IRNode}
use Rattle.plir_walk.specs.Tree.{IsUnder, Place, node_at}
use Rattle.plir_walk.specs.TreeLaws.{child-under, under-child, under-trans}
use Rattle.plir_read_ir.specs.Mentions.{Mention, Scope, WordIn, nowhere, same_word}
use Rattle.plir_roundtrip.specs.UsesMeant.{scope_in}
use Rattle.plir_roundtrip.proofs.Bodies.{child_below, not_below, scope-step, scope_at}
use Rattle.plir_roundtrip.proofs.Children.{HasRoom, child_room, some_room}
use Rattle.plir_roundtrip.proofs.Flattened.{own_mentions, tree_mentions}
use Rattle.plir_roundtrip.proofs.OnePlace.{goes, one_place}

-- ---- lists that are joined

pub Has-flat_map : {X Y : Type 0} (f : X → List Y) (xs : List X) (y : Y) → Has (flat_map f xs) y
    → (x : X) × Has xs x × Has (f x) y
Has-flat_map f [] y h = absurd h
Has-flat_map f (x ∷ xs) y h = elim (Has-append_cases (f x) (flat_map f xs) y h) [
  | inl k ↦ (x, inl refl, k)
  | inr k ↦ let r = Has-flat_map f xs y k in (r.0, inr r.1, r.2)
]

pub flat_map-Has : {X Y : Type 0} (f : X → List Y) (xs : List X) (x : X) (y : Y) → Has xs x → Has (f x) y
    → Has (flat_map f xs) y
flat_map-Has f [] x y h k = absurd h
flat_map-Has f (z ∷ xs) x y (inl e) k =
    Has-append_left (f z) (flat_map f xs) y (subst (λ a. Has (f a) y) (sym e) k)
flat_map-Has f (z ∷ xs) x y (inr h) k = Has-append_right (f z) (flat_map f xs) y (flat_map-Has f xs x y h k)

Distinct-flat_map : {X Y : Type 0} (f : X → List Y) (xs : List X) → Distinct xs → ((x : X) → Has xs x → Distinct (f x))
    → ((x z : X) (y : Y) → Has xs x → Has xs z → Has (f x) y → Has (f z) y → x ≡ z) → Distinct (flat_map f xs)
Distinct-flat_map f [] d each apart = tt
Distinct-flat_map f (x ∷ xs) d each apart =
    Distinct-append (f x) (flat_map f xs) (each x (inl refl))
    (Distinct-flat_map f xs d.1 (λ z h. each z (inr h)) (λ a b y h k. apart a b y (inr h) (inr k)))
    (λ y h k. let r = Has-flat_map f xs y k in
    d.0 (subst (Has xs) (sym (apart x r.0 y (inl refl) (inr r.1) h r.2)) r.1))

-- ---- what alone bears a name

module _ {X : Type 0} where
  scope_itself : (a : Option (Ptr X)) → option_eq same_ptr a a ≡ true
  scope_itself None = refl
  scope_itself (Some p) = (ptr-exact p p).1 refl

  itself : (w : WordIn X) → same_word w w ≡ true
  itself w = rw (scope_itself w.0, (bytes_eq-Decides w.1 w.1).1 refl) refl

  word_same : (a b : WordIn X) → same_word a b ≡ true → a.1 ≡ b.1
  word_same a b h = (bytes_eq-Decides a.1 b.1).0 (and_parts (option_eq same_ptr a.0 b.0) (bytes_eq a.1 b.1) h).1

module _ {X V : Type 0} where
  none_bears : (l : List (WordIn X × V)) (w : WordIn X) → ((e : WordIn X × V) → Has l e → e.0.1 ≡ w.1 → ⊥)
      → bearers same_word l w ≡ []
  none_bears [] w other = refl
  none_bears (e ∷ l) w other = at (same_word e.0 w) refl (none_bears l w (λ d h. other d (inr h)))
    where
      at : (t : Bool) → same_word e.0 w ≡ t → bearers same_word l w ≡ []
          → (if t then e.1 ∷ bearers same_word l w else bearers same_word l w) ≡ []
      at true is rest = absurd (other e (inl refl) (word_same e.0 w is))
      at false is rest = rest

  one_bears : (l : List (WordIn X × V)) (w : WordIn X) (v : V) → Has l (w, v) → Distinct (map (λ e. e.1) l)
      → ((e : WordIn X × V) → Has l e → e.0.1 ≡ w.1 → e.1 ≡ v) → bearers same_word l w ≡ v ∷ []
  one_bears [] w v h d one = absurd h
  one_bears (e ∷ l) w v h d one =
      at (same_word e.0 w) refl (λ k. one_bears l w v k d.1 (λ c m. one c (inr m)))
    where
      at : (t : Bool) → same_word e.0 w ≡ t → (Has l (w, v) → bearers same_word l w ≡ v ∷ [])
          → (if t then e.1 ∷ bearers same_word l w else bearers same_word l w) ≡ v ∷ []
      at true is others =
          let same : e.1 ≡ v = one e (inl refl) (word_same e.0 w is) in
          let none : bearers same_word l w ≡ [] =
          none_bears l w (λ c m f. d.0 (subst (Has (map (λ z. z.1) l)) (one c (inr m) f ∙ sym same)
          (map-Has (λ z. z.1) l c m))) in
          ap₂ (λ a b. a ∷ b) same none
      at false is others = elim h [
        | inl f ↦
            let on : same_word e.0 w ≡ true = ap (λ (c : WordIn X × V). same_word c.0 w) f ∙ itself w in
            let off : true ≡ false = sym on ∙ is in
            absurd (let g : ⊥ = cc in g)
        | inr k ↦ others k
      ]

-- ---- what nodes of a tree bear

-- `listed` gives those that bear names, with their words; `things` gives those of a node, `home` the node of one, `name`
-- its name, and `word_scope` the scope of its word.
module _ {D K A T E : Type 0} (o : op_set.Ghosts D K A T E) (isolated : K → Bool) (s : ContextView K A T)
    (st : IsStanding s) {X V : Type 0} (listed : List Mention → List (WordIn X × V))
    (things : IRNode → List V) (home : V → IRNode) (name : V → List ℕ) (word_scope : Scope → Option (Ptr X)) where
  -- one that bears its name in a scope
  abbrev entry : Scope → V → WordIn X × V
  entry at v = ((word_scope at, name v), v)

  -- what is asked of these: nodes below a root say which bear names there, each once
  pub record AreBearers (root : IRNode) : Type 0 where
    pub nothing : listed [] ≡ []
    pub joined : (ms ns : List Mention) → listed (ms ++ ns) ≡ listed ms ++ listed ns
    pub own : (at : Scope) (n : IRNode) → IsUnder (children s) root n
        → listed (own_mentions o isolated s at n) ≡ map (entry at) (things n)
    pub once : (n : IRNode) → Distinct (things n)
    pub homes : (n : IRNode) (v : V) → Has (things n) v → home v ≡ n

  module _ (root : IRNode) (are : AreBearers root) where
    abbrev tree : ℕ → Scope → IRNode → List Mention
    tree k at x = tree_mentions o isolated s k at x

    abbrev bearing : List Mention → List V
    bearing ms = map (λ e. e.1) (listed ms)

    listed_flat : {Y : Type 0} (f : Y → List Mention) (ys : List Y)
        → listed (flat_map f ys) ≡ flat_map (λ y. listed (f y)) ys
    listed_flat f [] = are.nothing
    listed_flat f (y ∷ ys) = are.joined (f y) (flat_map f ys) ∙ ap (λ l. listed (f y) ++ l) (listed_flat f ys)

    -- what the nodes at or under a node list
    abbrev below_listed : ℕ → Scope → IRNode → List (WordIn X × V)
    below_listed k at x = flat_map (λ c. listed (tree k (scope_in o isolated s at x) c)) (children s x)

    split : (k : ℕ) (at : Scope) (x : IRNode) → IsUnder (children s) root x
        → listed (tree (suc k) at x) ≡ map (entry at) (things x) ++ below_listed k at x
    split k at x under =
        let inside = flat_map (λ c. tree k (scope_in o isolated s at x) c) (children s x) in
        are.joined (own_mentions o isolated s at x) inside
        ∙ ap₂ (λ a b. a ++ b) (are.own at x under)
        (listed_flat (λ c. tree k (scope_in o isolated s at x) c) (children s x))

    lower : (x c : IRNode) → Has (children s x) c → IsUnder (children s) root x → IsUnder (children s) root c
    lower x c h under = under-trans (children s) root x c under (child-under (children s) x c h)

    -- what is listed is of a node at or under this one, with its name
    pub record IsEntry (x : IRNode) (e : WordIn X × V) : Type 0 where
      pub word : e.0.1 ≡ name e.1
      pub thing : Has (things (home e.1)) e.1
      pub under : IsUnder (children s) x (home e.1)

    pub entries_are : (k : ℕ) (at : Scope) (x : IRNode) → IsUnder (children s) root x → (e : WordIn X × V)
        → Has (listed (tree k at x)) e → IsEntry x e
    entries_are zero at x under e h = absurd (subst (λ l. Has l e) are.nothing h)
    entries_are (suc k) at x under e h =
        elim (Has-append_cases (map (entry at) (things x)) (below_listed k at x) e
        (subst (λ l. Has l e) (split k at x under) h)) [
          | inl m ↦
              let r = Has-map (entry at) (things x) e m in
              let v = r.0 in
              let is : home v ≡ x = are.homes x v r.1.0 in
              subst (IsEntry x) r.1.1 (record {
                word = refl;
                thing = subst (λ n. Has (things n) v) (sym is) r.1.0;
                under = ([], ap (λ z. Some z) (sym is));
              })
          | inr m ↦
              let r =
              Has-flat_map (λ c. listed (tree k (scope_in o isolated s at x) c)) (children s x) e m in
              let below = entries_are k (scope_in o isolated s at x) r.0 (lower x r.0 r.1 under) e r.2 in
              record {
                word = below.word;
                thing = below.thing;
                under = under-child (children s) x r.0 (home e.1) r.1 below.under;
              }
        ]

    -- the same of one that is listed
    one_listed : (k : ℕ) (at : Scope) (x : IRNode) → IsUnder (children s) root x → (v : V)
        → Has (bearing (tree k at x)) v → IsUnder (children s) x (home v)
    one_listed k at x under v h =
        let r = Has-map (λ e. e.1) (listed (tree k at x)) v h in
        subst (λ z. IsUnder (children s) x (home z)) r.1.1 (entries_are k at x under r.0 r.1.0).under

    -- nodes under two children of a node are not the same
    one_child : (x c d n : IRNode) → Has (children s x) c → Has (children s x) d → IsUnder (children s) c n
        → IsUnder (children s) d n → c ≡ d
    one_child x c d n h k u v =
        let i = at-Has (children s x) c h in
        let j = at-Has (children s x) d k in
        let first : node_at (children s) x (i.0 ∷ u.0) ≡ Some n = rw i.1 u.1 in
        let second : node_at (children s) x (j.0 ∷ v.0) ≡ Some n = rw j.1 v.1 in
        let index : i.0 ≡ j.0 =
        same_Some i.0 j.0 (ap head (one_place s st x n (i.0 ∷ u.0) (j.0 ∷ v.0) first second)) in
        same_Some c d (sym i.1 ∙ ap (slice_get (children s x)) index ∙ j.1)

    map_flat : {Y : Type 0} (f : Y → List (WordIn X × V)) (ys : List Y)
        → map (λ e. e.1) (flat_map f ys) ≡ flat_map (λ y. map (λ e. e.1) (f y)) ys
    map_flat f [] = refl
    map_flat f (y ∷ ys) =
        map-append (λ e. e.1) (f y) (flat_map f ys) ∙ ap (λ l. map (λ e. e.1) (f y) ++ l) (map_flat f ys)

    bearers_again : (at : Scope) (vs : List V) → map (λ e. e.1) (map (entry at) vs) ≡ vs
    bearers_again at [] = refl
    bearers_again at (v ∷ vs) = ap (λ l. v ∷ l) (bearers_again at vs)

    bearing_split : (k : ℕ) (at : Scope) (x : IRNode) → IsUnder (children s) root x → bearing (tree (suc k) at x)
        ≡ things x ++ flat_map (λ c. bearing (tree k (scope_in o isolated s at x) c)) (children s x)
    bearing_split k at x under =
        ap (map (λ e. e.1)) (split k at x under)
        ∙ map-append (λ e. e.1) (map (entry at) (things x)) (below_listed k at x)
        ∙ ap₂ (λ a b. a ++ b) (bearers_again at (things x))
        (map_flat (λ c. listed (tree k (scope_in o isolated s at x) c)) (children s x))

    -- none is listed twice
    bearing_once : (k : ℕ) (at : Scope) (x : IRNode) → IsUnder (children s) root x → Distinct (bearing (tree k at x))
    bearing_once zero at x under = subst (λ l. Distinct (map (λ e. e.1) l)) (sym are.nothing) tt
    bearing_once (suc k) at x under =
        let inside = scope_in o isolated s at x in
        subst Distinct (sym (bearing_split k at x under))
        (Distinct-append (things x) (flat_map (λ c. bearing (tree k inside c)) (children s x)) (are.once x)
        (Distinct-flat_map (λ c. bearing (tree k inside c)) (children s x) (st.forest.once x)
        (λ c h. bearing_once k inside c (lower x c h under))
        (λ c d v h m a b. one_child x c d (home v) h m (one_listed k inside c (lower x c h under) v a)
        (one_listed k inside d (lower x d m under) v b)))
        (λ v h m. let r = Has-flat_map (λ c. bearing (tree k inside c)) (children s x) v m in
        let u = one_listed k inside r.0 (lower x r.0 r.1 under) v r.2 in
        not_below s st r.0 x (subst (IsUnder (children s) r.0) (are.homes x v h) u) (child_below s st x r.0 r.1)))

    -- what a node has is listed, in the scope of its place
    is_listed : (place : Place) (k : ℕ) (at : Scope) (x n : IRNode) (v : V) → IsUnder (children s) root x
        → HasRoom s x k → node_at (children s) x place ≡ Some n → Has (things n) v
        → Has (listed (tree k at x)) (entry (scope_at o isolated s place at x) v)
    is_listed place zero at x n v under room e h = absurd (some_room s st x room)
    is_listed [] (suc k) at x n v under room e h =
        subst (λ l. Has l (entry at v)) (sym (split k at x under))
        (Has-append_left (map (entry at) (things x)) (below_listed k at x) (entry at v)
        (map-Has (entry at) (things x) v (subst (λ z. Has (things z) v) (sym (same_Some x n e)) h)))
    is_listed (i ∷ place) (suc k) at x n v under room e h =
        let g = goes s st i place x n e in
        let m = Has-at (children s x) i g.child g.there in
        let inside = scope_in o isolated s at x in
        let mine = entry (scope_at o isolated s (i ∷ place) at x) v in
        let below : Has (listed (tree k inside g.child)) mine =
        subst (λ z. Has (listed (tree k inside g.child)) (entry z v))
        (sym (scope-step o isolated s i place at x g.child g.there))
        (is_listed place k inside g.child n v (lower x g.child m under) (child_room s st x g.child k m room) g.below h)
        in
        subst (λ l. Has l mine) (sym (split k at x under))
        (Has-append_right (map (entry at) (things x)) (below_listed k at x) mine
        (flat_map-Has (λ c. listed (tree k inside c)) (children s x) g.child mine m below))

    -- Where no two of them have one name, the name of one means it, in the scope of its node's place.
    pub means_it : ((v z : V) → Has (things (home v)) v → Has (things (home z)) z → IsUnder (children s) root (home v)
        → IsUnder (children s) root (home z) → name v ≡ name z → v ≡ z)
        → (k : ℕ) → HasRoom s root k → (place : Place) (v : V) → node_at (children s) root place ≡ Some (home v)
        → Has (things (home v)) v
        → meaning same_word (listed (tree k nowhere root))
        (word_scope (scope_at o isolated s place nowhere root), name v) ≡ Only v
    means_it apart k room place v e h =
        let at = scope_at o isolated s place nowhere root in
        let here : IsUnder (children s) root root = ([], refl) in
        ap meaning_by (one_bears (listed (tree k nowhere root)) (word_scope at, name v) v
        (is_listed place k nowhere root (home v) v here room e h) (bearing_once k nowhere root here)
        (λ c m f. let r = entries_are k nowhere root here c m in
        apart c.1 v r.thing h r.under (place, e) (sym r.word ∙ f)))
