-- What each change does to the lists that give children to parents.
use Rattle.std.proofs.Common.{◌≡◌, ℕ, ◌+◌, ◌<◌, ◌≤◌, List, [], ◌∷◌, ◌++◌, length, Option, Some, None, IsSome, ◌⊎◌, inl}
use Rattle.std.proofs.Common.{inr, refl, sym, ◌∙◌, ap, subst, arith, set, length-set}
use Rattle.std.proofs.lemmas.Bool.{cases_eq, cases_lt}
use Rattle.std.proofs.lemmas.List.{get_or_past, get_or-set_same, get_or-set_other, get_or_append_left, length-append}
use Rattle.std.proofs.lemmas.Option.{same_Some, none-some}
use Rattle.plir_store.specs.Members.{Has}
use Rattle.plir_store.specs.Lists.{Lists, IsAgreed, children_at, parent_at, put_in, put_in_after, without, with_first}
use Rattle.plir_store.specs.Lists.{with_last, with_before, with_before_under, with_after, with_after_under}
use Rattle.plir_store.specs.Lists.{without_child, without_under}
use Rattle.plir_store.specs.Table.{Table, Cell, no_cell, cell_at, content_at, version_at, slot_after, next_slot}
use Rattle.plir_store.specs.Table.{with_new, with_new_in, without_slot}
use Rattle.plir_store.specs.ListLaws.{get_or-push_default}
use Rattle.plir_core.specs.Stored.{IsListing}
use Rattle.plir_core.specs.Edits.{room_child, room_list}

pub some_none : {T : Type 0} (o : Option T) → IsSome o → o ≡ None → ⊥
some_none None w e = cc
some_none (Some v) w e = none-some v (sym e)

pub some_is : {T : Type 0} (o : Option T) (v : T) → o ≡ Some v → IsSome o
some_is o v e = rw e refl

pub some_value : {T : Type 0} (o : Option T) → IsSome o → (v : T) × (o ≡ Some v)
some_value None e = absurd (let f : ⊥ = cc in f)
some_value (Some v) e = (v, refl)

pub none_or_some : {T : Type 0} (o : Option T) → (o ≡ None) ⊎ IsSome o
none_or_some None = inl refl
none_or_some (Some v) = inr refl

-- lists with room for one more
pub parent_at-room_child : (l : Lists) (fs : List ℕ) (c : ℕ) → parent_at (room_child l fs) c ≡ parent_at l c
parent_at-room_child l [] c = get_or-push_default l.parents None c
parent_at-room_child l (f ∷ fs) c = refl

pub parent_at-room_list : (l : Lists) (fs : List ℕ) (c : ℕ) → parent_at (room_list l fs) c ≡ parent_at l c
parent_at-room_list l [] c = refl
parent_at-room_list l (f ∷ fs) c = refl

pub children_at-room_child : (l : Lists) (fs : List ℕ) (p : ℕ) → children_at (room_child l fs) p ≡ children_at l p
children_at-room_child l [] p = refl
children_at-room_child l (f ∷ fs) p = refl

pub children_at-room_list : (l : Lists) (fs : List ℕ) (p : ℕ) → children_at (room_list l fs) p ≡ children_at l p
children_at-room_list l [] p = get_or-push_default l.children [] p
children_at-room_list l (f ∷ fs) p = refl

pub children-room_child : (l : Lists) (fs : List ℕ) → (room_child l fs).children ≡ l.children
children-room_child l [] = refl
children-room_child l (f ∷ fs) = refl

parents-room_list : (l : Lists) (fs : List ℕ) → (room_list l fs).parents ≡ l.parents
parents-room_list l [] = refl
parents-room_list l (f ∷ fs) = refl

module _ {T : Type 0} where
  parents-room : (l : Lists) (t : Table T) (v : T) (fs : List ℕ) → length l.parents ≡ length t.slots → length
      (room_child l fs).parents ≡ length (with_new_in t v fs).slots
  parents-room l t v [] e = omega (
    arith,
    length-append l.parents (None ∷ []),
    length-append t.slots
        (record { version = 1; content = Some v } ∷ []),
  )
  parents-room l t v (f ∷ fs) e = e ∙ sym (length-set t.slots f _)

  children-room : (l : Lists) (t : Table T) (v : T) (fs : List ℕ) → length l.children ≡ length t.slots → length
      (room_list l fs).children ≡ length (with_new_in t v fs).slots
  children-room l t v [] e = omega (
    arith,
    length-append l.children ([] ∷ []),
    length-append t.slots
        (record { version = 1; content = Some v } ∷ []),
  )
  children-room l t v (f ∷ fs) e = e ∙ sym (length-set t.slots f _)

  pub within_content : (t : Table T) (i : ℕ) → IsSome (content_at t i) → i < length t.slots
  within_content t i some = elim (cases_lt i (length t.slots)) [
    | inl h ↦ h
    | inr h ↦ absurd (some_none (content_at t i) some (ap (λ (z : Cell T). z.content)
        (get_or_past t.slots i no_cell h)))
  ]

  -- the other slots after an insertion
  cell_new_other_in : (t : Table T) (v : T) (fs : List ℕ) (i : ℕ) → (i ≡ slot_after (length t.slots) fs → ⊥) → cell_at
      (with_new_in t v fs) i ≡ cell_at t i
  cell_new_other_in t v [] i n = elim (cases_lt i (length t.slots)) [
    | inl h ↦ get_or_append_left t.slots (record { version = 1; content = Some v } ∷ []) no_cell i h
    | inr h ↦
        get_or_past (t.slots ++ record { version = 1; content = Some v } ∷ []) i no_cell
        (omega (
          arith,
          length-append t.slots (record { version = 1; content = Some v } ∷ []),
          apart_le i
              (length t.slots) n h,
        ))
        ∙ sym (get_or_past t.slots i no_cell h)
  ]
    where
      apart_le : (a b : ℕ) → (a ≡ b → ⊥) → b ≤ a → b + 1 ≤ a
      apart_le a b ne le = omega arith
  cell_new_other_in t v (f ∷ fs) i n = get_or-set_other t.slots f i (record {
    version = version_at t f + 1;
    content =
        Some v;
  }) no_cell n

  pub cell_new_other : (t : Table T) (v : T) (i : ℕ) → (i ≡ next_slot t → ⊥) → cell_at (with_new t v) i ≡ cell_at t i
  cell_new_other t v i n = cell_new_other_in t v t.free i n

  pub content_new_other : (t : Table T) (v : T) (i : ℕ) → (i ≡ next_slot t → ⊥) → content_at (with_new t v) i ≡
      content_at t i
  content_new_other t v i n = ap (λ (z : Cell T). z.content) (cell_new_other t v i n)

  pub version_new_other : (t : Table T) (v : T) (i : ℕ) → (i ≡ next_slot t → ⊥) → version_at (with_new t v) i ≡
      version_at t i
  version_new_other t v i n = ap (λ (z : Cell T). z.version) (cell_new_other t v i n)

  -- a live slot is not the next one
  pub not_next : (t : Table T) (i : ℕ) → content_at t (next_slot t) ≡ None → IsSome (content_at t i) → i ≡ next_slot t →
      ⊥
  not_next t i vacant some e = some_none (content_at t i) some (ap (content_at t) e ∙ vacant)

  pub some_kept : (t : Table T) (v : T) (i : ℕ) → content_at t (next_slot t) ≡ None → IsSome (content_at t i) → IsSome
      (content_at (with_new t v) i)
  some_kept t v i vacant some = rw (content_new_other t v i (not_next t i vacant some)) some

  pub content_without : (t : Table T) (i c : ℕ) → (c ≡ i → ⊥) → content_at (without_slot t i) c ≡ content_at t c
  content_without t i c n =
      ap (λ (z : Cell T). z.content) (get_or-set_other t.slots i c (record { version = version_at t i; content = None })
      no_cell n)

  pub version_without : (t : Table T) (i c : ℕ) → version_at (without_slot t i) c ≡ version_at t c
  version_without t i c = elim (cases_eq c i) [
    | inl q ↦ elim (cases_lt i (length t.slots)) [
      | inl h ↦ subst (λ z. version_at (without_slot t i) z ≡ version_at t z) (sym q)
          (ap (λ (z : Cell T). z.version) (get_or-set_same t.slots i (record {
            version = version_at t i;
            content = None;
          }) no_cell h))
      | inr h ↦ ap (λ (z : Cell T). z.version) (get_or_past (set t.slots i (record
          { version = version_at t i; content = None })) c no_cell (omega (
            arith,
            length-set t.slots i
                (record { version = version_at t i; content = None }),
          )) ∙ sym (get_or_past t.slots c no_cell (omega arith)))
    ]
    | inr n ↦ ap (λ (z : Cell T). z.version) (get_or-set_other t.slots i c (record
        { version = version_at t i; content = None }) no_cell n)
  ]

  pub content_gone : (t : Table T) (i : ℕ) → IsSome (content_at t i) → content_at (without_slot t i) i ≡ None
  content_gone t i some =
      ap (λ (z : Cell T). z.content) (get_or-set_same t.slots i (record { version = version_at t i; content = None })
      no_cell (within_content t i some))

-- What becomes of lists when c is put under p, or taken out.
pub record IsMoved (l l' : Lists) (c : ℕ) (p : Option ℕ) : Type 0 where
  pub parents : length l'.parents ≡ length l.parents
  pub children : length l'.children ≡ length l.children
  pub here : parent_at l' c ≡ p
  pub other : (x : ℕ) → (x ≡ c → ⊥) → parent_at l' x ≡ parent_at l x

IsMoved-under : (l : Lists) (c p : ℕ) (ks : List ℕ) → c < length l.parents → IsMoved l
    (record { children = set l.children p ks; parents = set l.parents c (Some p) }) c (Some p)
IsMoved-under l c p ks h = record {
  parents = length-set l.parents c (Some p);
  children = length-set l.children p ks;
  here = get_or-set_same l.parents c (Some p) None h;
  other = λ x n. get_or-set_other l.parents c x (Some p) None n;
}

pub IsMoved-first : (l : Lists) (c p : ℕ) → c < length l.parents → IsMoved l (with_first l p c) c (Some p)
IsMoved-first l c p h = IsMoved-under l c p (c ∷ children_at l p) h

pub IsMoved-last : (l : Lists) (c p : ℕ) → c < length l.parents → IsMoved l (with_last l p c) c (Some p)
IsMoved-last l c p h = IsMoved-under l c p (children_at l p ++ c ∷ []) h

pub IsMoved-before : (l : Lists) (c m p : ℕ) → c < length l.parents → parent_at l m ≡ Some p → IsMoved l
    (with_before l c m) c (Some p)
IsMoved-before l c m p h e = subst (λ o. IsMoved l (with_before_under l c m o) c (Some p)) (sym e)
    (IsMoved-under l c p (put_in c m (children_at l p)) h)

pub IsMoved-after : (l : Lists) (c m p : ℕ) → c < length l.parents → parent_at l m ≡ Some p → IsMoved l
    (with_after l c m) c (Some p)
IsMoved-after l c m p h e = subst (λ o. IsMoved l (with_after_under l c m o) c (Some p)) (sym e)
    (IsMoved-under l c p (put_in_after c m (children_at l p)) h)

IsMoved-out_under : (l : Lists) (c : ℕ) (o : Option ℕ) → c < length l.parents → parent_at l c ≡ o → IsMoved l
    (without_under l c o) c None
IsMoved-out_under l c None h e = record { parents = refl; children = refl; here = e; other = λ x n. refl }
IsMoved-out_under l c (Some p) h e = record {
  parents = length-set l.parents c None;
  children = length-set l.children p (without c (children_at l p));
  here = get_or-set_same l.parents c None None h;
  other = λ x n. get_or-set_other l.parents c x None None n;
}

pub IsMoved-out : (l : Lists) (c : ℕ) → c < length l.parents → IsMoved l (without_child l c) c None
IsMoved-out l c h = IsMoved-out_under l c (parent_at l c) h refl

module _ {C P : Type 0} (l : Lists) (t : Table C) (u : Table P) (w : IsListing l t u) where
  -- what is not live is not linked
  loose_in : (c : ℕ) (p : Option ℕ) → parent_at l c ≡ p → content_at t c ≡ None → p ≡ None
  loose_in c None e f = refl
  loose_in c (Some q) e f = absurd (some_none (content_at t c) ((w.linked_live c q e).0) f)

  pub loose : (c : ℕ) → content_at t c ≡ None → parent_at l c ≡ None
  loose c f = loose_in c (parent_at l c) refl f

  -- what is not live has nothing under it
  childless_in : (p : ℕ) (ks : List ℕ) → children_at l p ≡ ks → content_at u p ≡ None → ks ≡ []
  childless_in p [] e f = refl
  childless_in p (k ∷ ks) e f =
      let x = w.linked_live k p (w.agreed.owned p k (rw e (inl refl))) in
      absurd (some_none (content_at u p) x.1 f)

  pub childless : (p : ℕ) → content_at u p ≡ None → children_at l p ≡ []
  childless p f = childless_in p (children_at l p) refl f

  -- room for one more child, and for one more parent
  pub IsListing-child : (v : C) → content_at t (next_slot t) ≡ None → IsAgreed (room_child l t.free) → IsListing
      (room_child l t.free) (with_new t v) u
  IsListing-child v vacant a = record {
    child_places = parents-room l t v t.free w.child_places;
    parent_places = ap length (children-room_child l t.free) ∙ w.parent_places;
    agreed = a;
    linked_live = λ c p e. let x = w.linked_live c p (sym (parent_at-room_child l t.free c) ∙ e) in
        (some_kept t v c vacant x.0, x.1);
  }

  pub IsListing-parent : (v : P) → content_at u (next_slot u) ≡ None → IsAgreed (room_list l u.free) → IsListing
      (room_list l u.free) t (with_new u v)
  IsListing-parent v vacant a = record {
    child_places = ap length (parents-room_list l u.free) ∙ w.child_places;
    parent_places = children-room l u v u.free w.parent_places;
    agreed = a;
    linked_live = λ c p e. let x = w.linked_live c p (sym (parent_at-room_list l u.free c) ∙ e) in
        (x.0, some_kept u v p vacant x.1);
  }

  -- a child is put under a parent, or taken out
  pub IsListing-link : (m : Lists) (i q : ℕ) → IsMoved l m i (Some q) → IsAgreed m → IsSome (content_at t i) → IsSome
      (content_at u q) → IsListing m t u
  IsListing-link m i q v a live_i live_q = record {
    child_places = v.parents ∙ w.child_places;
    parent_places = v.children ∙ w.parent_places;
    agreed = a;
    linked_live = λ c p e. elim (cases_eq c i) [
      | inl f ↦
          let g : q ≡ p = same_Some q p (sym v.here ∙ ap (parent_at m) (sym f) ∙ e) in
          (subst (λ z. IsSome (content_at t z)) (sym f) live_i, subst (λ z. IsSome (content_at u z)) g live_q)
      | inr f ↦ w.linked_live c p (sym (v.other c f) ∙ e)
    ];
  }

  pub IsListing-unlink : (m : Lists) (i : ℕ) → IsMoved l m i None → IsAgreed m → IsListing m t u
  IsListing-unlink m i v a = record {
    child_places = v.parents ∙ w.child_places;
    parent_places = v.children ∙ w.parent_places;
    agreed = a;
    linked_live = λ c p e. elim (cases_eq c i) [
      | inl f ↦ absurd (none-some p (sym v.here ∙ ap (parent_at m) (sym f) ∙ e))
      | inr f ↦ w.linked_live c p (sym (v.other c f) ∙ e)
    ];
  }

  -- a child that is not linked is freed, and a parent that has no child
  pub IsListing-free_child : (i : ℕ) → parent_at l i ≡ None → IsListing l (without_slot t i) u
  IsListing-free_child i none = record {
    child_places = w.child_places ∙ sym (length-set t.slots i _);
    parent_places = w.parent_places;
    agreed = w.agreed;
    linked_live = λ c p e.
        let x = w.linked_live c p e in
        (rw (content_without t i c (λ q. none-some p (sym none ∙ ap (parent_at l) (sym q) ∙ e))) x.0, x.1);
  }

  pub IsListing-free_parent : (i : ℕ) → children_at l i ≡ [] → IsListing l t (without_slot u i)
  IsListing-free_parent i none = record {
    child_places = w.child_places;
    parent_places = w.parent_places ∙ sym (length-set u.slots i _);
    agreed = w.agreed;
    linked_live = λ c p e.
        let x = w.linked_live c p e in
        let k : Has (children_at l p) c = w.agreed.held p c e in
        (x.0, rw (content_without u i p (λ q. subst (λ (xs : List ℕ). Has xs c) (ap (children_at l) q ∙ none) k)) x.1);
  }
