-- What each change of the fields of `Chains` does to its lists.
use Rattle.std.proofs.Common.{◌≡◌, ℕ, ◌+◌, ◌<◌, ◌^◌, List, [], ◌∷◌, ◌++◌, length, Option, Some, None, IfSome, inl, inr}
use Rattle.std.proofs.Common.{refl, sym, ◌∙◌, ap, subst, arith, get_or, set, take, ◌-◌, append_assoc}
use Rattle.std.proofs.lemmas.Bool.{cases_lt}
use Rattle.std.proofs.lemmas.List.{take_more, take_all, length-take-le, take-map, append-nil, map-append, map-set}
use Rattle.std.proofs.lemmas.List.{set-get_or, get_or_past, length-map, get_or-map, length-append, get_or_read}
use Rattle.std.proofs.lemmas.Option.{none-some}
use Rattle.plir_store.specs.Members.{Distinct, head}
use Rattle.plir_store.specs.ListLaws.{get_or-push_default}
use Rattle.plir_store.specs.declared.chains.Link.{Link}
use Rattle.plir_store.specs.declared.chains.Ends.{Ends}
use Rattle.plir_store.specs.Lists.{Lists, children_at, parent_at, last_of, next_of, prev_of, next_under, prev_under}
use Rattle.plir_store.specs.Lists.{put_in, put_in_after, without, with_before, with_before_under, with_after}
use Rattle.plir_store.specs.Lists.{with_after_under, without_child, without_under, with_list, with_child}
use Rattle.plir_store.specs.Lists.{without_last_list, without_last_child, IsAgreed}
use Rattle.plir_store.specs.Links.{no_link, no_ends, link_at, ends_at, after, before, put_next, put_prev, ends_in}
use Rattle.plir_store.specs.Links.{links_in, ends_out, links_out, Joined, children_of, parents_of, lists_of, IsLinked}
use Rattle.plir_store.proofs.Members.{cut, put_in-cut, put_in_after-cut, without-cut, Distinct-mid_left}
use Rattle.plir_store.proofs.Writes.{within_from_parent}
use Rattle.plir_store.proofs.Joined.{back_is, front_is, next_is, prev_is, Joined-cut, Joined-frame, last_from-push}
use Rattle.plir_store.proofs.Steps.{children_of_is, held_within, gap_l_in, gap_r_in, IsLinked-insert, IsLinked-remove}
use Rattle.plir_store.proofs.Steps.{IfSome-within, remove_l_in, remove_r_in}

-- the fields are sound, and these are their lists
pub record IsStore (es : List Ends) (ls : List Link) (s : Lists) : Type 0 where
  pub sound : IsLinked es ls (children_of es ls)
  pub view : lists_of es ls ≡ s

IsStore-from : (es : List Ends) (ls : List Link) (ks : List (List ℕ)) (ps : List (Option ℕ)) → IsLinked es ls ks →
    parents_of ls ≡ ps → IsStore es ls (record { children = ks; parents = ps })
IsStore-from es ls ks ps k e = record {
  sound = subst (λ z. IsLinked es ls z) (sym (children_of_is es ls ks k)) k;
  view = let f = children_of_is es ls ks k in cc;
}

-- Two places of the list xs of p that stand next to each other: where the list is cut between them, and
-- what it becomes once c is put there.
pub record IsGap (es : List Ends) (ls : List Link) (xs : List ℕ) (grown : ℕ → List ℕ) (p : ℕ) (l r : Option ℕ) : Type 0
  where
    pub front : List ℕ
    pub back : List ℕ
    pub whole : xs ≡ front ++ back
    pub grows : (c : ℕ) → grown c ≡ front ++ c ∷ back
    pub right : r ≡ head back
    pub left : l ≡ before es ls p r

parents_of-set : (ls : List Link) (c : ℕ) (l : Link) → parents_of (set ls c l) ≡ set (parents_of ls) c l.parent
parents_of-set ls c l = map-set (λ (z : Link). z.parent) ls c l

at_parents : (ls : List Link) (c : ℕ) → get_or (parents_of ls) c None ≡ (link_at ls c).parent
at_parents ls c = elim (cases_lt c (length ls)) [
  | inl h ↦ get_or-map (λ (z : Link). z.parent) ls c no_link None h
  | inr h ↦ get_or_past (parents_of ls) c None (omega (
    arith,
    length-map ls
        (λ (z : Link). z.parent),
  )) ∙ ap (λ z. z.parent) (sym (get_or_past ls c no_link h))
]

-- the parent of a child, by the lists
pub parent_at_is : (es : List Ends) (ls : List Link) (c : ℕ) → parent_at (lists_of es ls) c ≡ (link_at ls c).parent
parent_at_is es ls c = at_parents ls c

parents_of-same : (ls : List Link) (c : ℕ) (l : Link) → l.parent ≡ (link_at ls c).parent → parents_of (set ls c l) ≡
    parents_of ls
parents_of-same ls c l e =
    parents_of-set ls c l ∙ ap (λ z. set (parents_of ls) c z) (e ∙ sym (at_parents ls c)) ∙ set-get_or (parents_of ls) c
    None

parents_of-put_next : (ls : List Link) (a v : Option ℕ) → parents_of (put_next ls a v) ≡ parents_of ls
parents_of-put_next ls None v = refl
parents_of-put_next ls (Some x) v = parents_of-same ls x (record (link_at ls x) { next = v }) refl

parents_of-put_prev : (ls : List Link) (a v : Option ℕ) → parents_of (put_prev ls a v) ≡ parents_of ls
parents_of-put_prev ls None v = refl
parents_of-put_prev ls (Some x) v = parents_of-same ls x (record (link_at ls x) { prev = v }) refl

module _ (es : List Ends) (ls : List Link) (k : IsLinked es ls (children_of es ls)) where
  abbrev now : Lists
  now = lists_of es ls

  pub first_is : (p : ℕ) → (ends_at es p).first ≡ head (children_at now p)
  first_is p = front_is (after es ls p) (before es ls p) None None (children_at now p) (k.joined p)

  pub last_is : (p : ℕ) → (ends_at es p).last ≡ last_of (children_at now p)
  last_is p = back_is (after es ls p) (before es ls p) None None (children_at now p) (k.joined p)

  next_under_is : (c : ℕ) (o : Option ℕ) → (link_at ls c).parent ≡ o → (link_at ls c).next ≡ next_under now c o
  next_under_is c None e = k.loose_next c e
  next_under_is c (Some p) e = next_is (after es ls p) (before es ls p) None (children_at now p) c (k.joined p)
      (k.held p c e)

  prev_under_is : (c : ℕ) (o : Option ℕ) → (link_at ls c).parent ≡ o → (link_at ls c).prev ≡ prev_under now c o
  prev_under_is c None e = k.loose_prev c e
  prev_under_is c (Some p) e = prev_is (after es ls p) (before es ls p) None None (children_at now p) c (k.joined p)
      (k.held p c e)

  pub next_of_is : (c : ℕ) → (link_at ls c).next ≡ next_of now c
  next_of_is c = next_under_is c (parent_at now c) (sym (at_parents ls c))

  pub prev_of_is : (c : ℕ) → (link_at ls c).prev ≡ prev_of now c
  prev_of_is c = prev_under_is c (parent_at now c) (sym (at_parents ls c))

  parents_in : (p c : ℕ) (l r : Option ℕ) → parents_of (links_in ls p c l r) ≡ set (parents_of ls) c (Some p)
  parents_in p c l r =
      let ls₁ = set ls c (record { prev = l; next = r; parent = Some p }) in
      parents_of-put_prev (put_next ls₁ l (Some c)) r (Some c) ∙ parents_of-put_next ls₁ l (Some c) ∙ parents_of-set ls
      c (record { prev = l; next = r; parent = Some p })

  parents_out : (c : ℕ) (l r : Option ℕ) → parents_of (links_out ls c l r) ≡ set (parents_of ls) c None
  parents_out c l r =
      parents_of-set (put_prev (put_next ls l r) r l) c no_link ∙ ap
      (λ z. set z c None) (parents_of-put_prev (put_next ls l r) r l ∙ parents_of-put_next ls l r)

  -- c is put into a gap
  pub insert_is : (p c : ℕ) (l r : Option ℕ) (grown : ℕ → List ℕ) → IsGap es ls (children_at now p) grown p l r → p <
      length es → c < length ls → (link_at ls c).parent ≡ None → IsStore (ends_in es p c l r) (links_in ls p c l r)
      (record { children = set now.children p (grown c); parents = set now.parents c (Some p) })
  insert_is p c l r grown gap h i free =
      IsStore-from (ends_in es p c l r) (links_in ls p c l r) (set now.children p (grown c))
      (set now.parents c (Some p))
      (subst (λ z. IsLinked (ends_in es p c l r) (links_in ls p c l r) (set (children_of es ls) p z))
      (sym (gap.grows c)) (IsLinked-insert es ls (children_of es ls) p c l r gap.front gap.back k gap.whole h i free
      gap.right gap.left))
      (parents_in p c l r)

  -- the gaps at the start and at the end of a list, and before and after a child
  pub first_gap_is : (p : ℕ) → IsGap es ls (children_at now p) (λ c. c ∷ children_at now p) p None (ends_at es p).first
  first_gap_is p =
      let t = Joined-cut (after es ls p) (before es ls p) None [] (children_at now p) (k.joined p) in
      record {
        front = [];
        back = children_at now p;
        whole = refl;
        grows = λ c. refl;
        right = first_is p;
        left = sym (ap (before es ls p) (first_is p) ∙ t.0.1);
      }

  pub last_gap_is : (p : ℕ) → IsGap es ls (children_at now p)
      (λ c. children_at now p ++ c ∷ []) p (ends_at es p).last None
  last_gap_is p = record {
    front = children_at now p;
    back = [];
    whole = sym (append-nil (children_at now p));
    grows = λ c. refl;
    right = refl;
    left = refl;
  }

  pub before_gap_is : (p m : ℕ) → (link_at ls m).parent ≡ Some p → IsGap es ls (children_at now p)
      (λ c. put_in c m (children_at now p)) p (link_at ls m).prev (Some m)
  before_gap_is p m linked =
      let t = cut m (children_at now p) (k.held p m linked) in
      record {
        front = t.front;
        back = m ∷ t.back;
        whole = t.whole;
        grows = λ c. ap (put_in c m) t.whole ∙ put_in-cut c m t.front t.back (Distinct-mid_left m t.front t.back
            (subst Distinct t.whole (k.apart p)));
        right = refl;
        left = refl;
      }

  pub after_gap_is : (p m : ℕ) → (link_at ls m).parent ≡ Some p → IsGap es ls (children_at now p)
      (λ c. put_in_after c m (children_at now p)) p (Some m) (link_at ls m).next
  after_gap_is p m linked =
      let t = cut m (children_at now p) (k.held p m linked) in
      let whole : children_at now p ≡ (t.front ++ m ∷ []) ++ t.back = t.whole ∙ sym
      (append_assoc t.front (m ∷ []) t.back) in
      let joined : Joined (after es ls p) (before es ls p) None ((t.front ++ m ∷ []) ++ t.back) None =
      subst (λ xs. Joined (after es ls p) (before es ls p) None xs None) whole (k.joined p) in
      let u = Joined-cut (after es ls p) (before es ls p) None (t.front ++ m ∷ []) t.back joined in
      let v = Joined-cut (after es ls p) (before es ls p) None t.front (m ∷ t.back)
      (subst (λ xs. Joined (after es ls p) (before es ls p) None xs None) t.whole (k.joined p)) in
      let next : (link_at ls m).next ≡ head t.back = front_is (after es ls p) (before es ls p) (Some m) None t.back v.1
      in
      record {
        front = t.front ++ m ∷ [];
        back = t.back;
        whole = whole;
        grows = λ c. ap (put_in_after c m) t.whole ∙ put_in_after-cut c m t.front t.back
            (Distinct-mid_left m t.front t.back (subst Distinct t.whole (k.apart p)));
        right = next;
        left = sym (ap (before es ls p) next ∙ back_is (after es ls p) (before es ls p) None (head t.back)
            (t.front ++ m ∷ []) u.0 ∙ last_from-push None t.front m);
      }

  gap_left_is : (p : ℕ) (l r : Option ℕ) (grown : ℕ → List ℕ) → IsGap es ls (children_at now p) grown p l r → IfSome l
      (λ x. x < length ls)
  gap_left_is p l r grown gap =
      IfSome-within ls (children_of es ls) p l k.owned (gap_l_in es ls (children_of es ls) p l r gap.front gap.back k
      gap.whole gap.right gap.left)

  gap_right_is : (p : ℕ) (l r : Option ℕ) (grown : ℕ → List ℕ) → IsGap es ls (children_at now p) grown p l r → IfSome r
      (λ x. x < length ls)
  gap_right_is p l r grown gap =
      IfSome-within ls (children_of es ls) p r k.owned (gap_r_in es ls (children_of es ls) p l r gap.front gap.back k
      gap.whole gap.right gap.left)

  pub remove_is : (p c : ℕ) → (link_at ls c).parent ≡ Some p → IsStore (ends_out es p (link_at ls c).prev
      (link_at ls c).next) (links_out ls c (link_at ls c).prev (link_at ls c).next) (without_child now c)
  remove_is p c linked =
      let l = (link_at ls c).prev in
      let r = (link_at ls c).next in
      let t = cut c (children_at now p) (k.held p c linked) in
      let new : without c (children_at now p) ≡ t.front ++ t.back =
      ap (without c) t.whole ∙ without-cut c t.front t.back (Distinct-mid_left c t.front t.back
      (subst Distinct t.whole (k.apart p))) in
      let s = without_under now c (Some p) in
      let parent : parent_at now c ≡ Some p = at_parents ls c ∙ linked in
      let kept = IsLinked-remove es ls (children_of es ls) p c t.front t.back k t.whole linked in
      subst (λ o. IsStore (ends_out es p l r) (links_out ls c l r) (without_under now c o)) (sym parent)
      (IsStore-from (ends_out es p l r) (links_out ls c l r) s.children s.parents
      (subst (λ z. IsLinked (ends_out es p l r) (links_out ls c l r) (set (children_of es ls) p z)) (sym new) kept)
      (parents_out c l r))

after_same : (es es' : List Ends) (ls ls' : List Link) → ((p : ℕ) → ends_at es' p ≡ ends_at es p) →
    ((x : ℕ) → link_at ls' x ≡ link_at ls x) → (p : ℕ) (a : Option ℕ) → after es' ls' p a ≡ after es ls p a
after_same es es' ls ls' e l p None = ap (λ z. z.first) (e p)
after_same es es' ls ls' e l p (Some x) = ap (λ z. z.next) (l x)

before_same : (es es' : List Ends) (ls ls' : List Link) → ((p : ℕ) → ends_at es' p ≡ ends_at es p) →
    ((x : ℕ) → link_at ls' x ≡ link_at ls x) → (p : ℕ) (a : Option ℕ) → before es' ls' p a ≡ before es ls p a
before_same es es' ls ls' e l p None = ap (λ z. z.last) (e p)
before_same es es' ls ls' e l p (Some x) = ap (λ z. z.prev) (l x)

-- the same reads hold the same lists
IsLinked-same : (es es' : List Ends) (ls ls' : List Link) (ks ks' : List (List ℕ)) → length ks' ≡ length es' → length
    es' < 2 ^ 32 → length ls' < 2 ^ 32 → ((p : ℕ) → ends_at es' p ≡ ends_at es p) →
    ((x : ℕ) → link_at ls' x ≡ link_at ls x) → ((p : ℕ) → get_or ks' p [] ≡ get_or ks p []) → IsLinked es ls ks →
    IsLinked es' ls' ks'
IsLinked-same es es' ls ls' ks ks' many few_lists few_children e l same k = record {
  as_many = many;
  joined = λ p. rw (same p) (Joined-frame (after es ls p) (before es ls p) (after es' ls' p) (before es' ls' p) None
      None (get_or ks p []) (after_same es es' ls ls' e l p None) (before_same es es' ls ls' e l p None)
      (λ x i. (after_same es es' ls ls' e l p (Some x), before_same es es' ls ls' e l p (Some x))) (k.joined p));
  apart = λ p. rw (same p) (k.apart p);
  owned = λ p x i. ap (λ z. z.parent) (l x) ∙ k.owned p x (rw (same p) at i);
  held = λ p x e. rw (same p) (k.held p x (ap (λ z. z.parent) (sym (l x)) ∙ e));
  loose_next = λ x e. ap (λ z. z.next) (l x) ∙ k.loose_next x (ap (λ z. z.parent) (sym (l x)) ∙ e);
  loose_prev = λ x e. ap (λ z. z.prev) (l x) ∙ k.loose_prev x (ap (λ z. z.parent) (sym (l x)) ∙ e);
  num_lists = few_lists;
  num_children = few_children;
}

module _ (es : List Ends) (ls : List Link) (k : IsLinked es ls (children_of es ls)) where
  pub add_list_is : length es < 2 ^ 32 - 1 → IsStore (es ++ no_ends ∷ []) ls (with_list (lists_of es ls))
  add_list_is room =
      let s = with_list (lists_of es ls) in
      IsStore-from (es ++ no_ends ∷ []) ls s.children s.parents
      (IsLinked-same es (es ++ no_ends ∷ []) ls ls (children_of es ls) s.children
      (omega (arith, length-append es (no_ends ∷ []), length-append (children_of es ls) ([] ∷ []), k.as_many))
      (omega (arith, length-append es (no_ends ∷ []))) k.num_children
      (λ p. get_or-push_default es no_ends p) (λ x. refl) (λ p. get_or-push_default (children_of es ls) [] p) k)
      refl

  pub add_child_is : length ls < 2 ^ 32 - 1 → IsStore es (ls ++ no_link ∷ []) (with_child (lists_of es ls))
  add_child_is room =
      let s = with_child (lists_of es ls) in
      IsStore-from es (ls ++ no_link ∷ []) s.children s.parents
      (IsLinked-same es es ls (ls ++ no_link ∷ []) (children_of es ls) s.children k.as_many k.num_lists
      (omega (arith, length-append ls (no_link ∷ []))) (λ p. refl) (λ x. get_or-push_default ls no_link x)
      (λ p. refl) k)
      (map-append (λ (z : Link). z.parent) ls (no_link ∷ []))

-- each neighbour is a child
module _ (es : List Ends) (ls : List Link) (k : IsLinked es ls (children_of es ls)) where
  pub prev_within : (p c : ℕ) → (link_at ls c).parent ≡ Some p → IfSome (link_at ls c).prev (λ x. x < length ls)
  prev_within p c linked =
      let t = cut c (children_at (lists_of es ls) p) (k.held p c linked) in
      IfSome-within ls (children_of es ls) p (link_at ls c).prev k.owned (remove_l_in es ls (children_of es ls) p c
      t.front t.back k t.whole linked)

  pub next_within : (p c : ℕ) → (link_at ls c).parent ≡ Some p → IfSome (link_at ls c).next (λ x. x < length ls)
  next_within p c linked =
      let t = cut c (children_at (lists_of es ls) p) (k.held p c linked) in
      IfSome-within ls (children_of es ls) p (link_at ls c).next k.owned (remove_r_in es ls (children_of es ls) p c
      t.front t.back k t.whole linked)

-- The same facts as the functions have them: s is the value, and an element that was read is x ≡ get_or xs i x.
module _ (es : List Ends) (ls : List Link) (s : Lists) (k : IsLinked es ls (children_of es ls))
    (view : lists_of es ls ≡ s) where
  pub num_lists_is : length s.children ≡ length es
  num_lists_is = ap (λ z. length z.children) (sym view) ∙ k.as_many

  pub num_children_is : length s.parents ≡ length ls
  num_children_is = ap (λ z. length z.parents) (sym view) ∙ length-map ls (λ (z : Link). z.parent)

  pub list_within : (p : ℕ) → p < length s.children → p < length es
  list_within p h = omega (arith, k.as_many, ap (λ z. length z.children) view)

  pub child_within : (c : ℕ) → c < length s.parents → c < length ls
  child_within c h = omega (arith, length-map ls (λ (z : Link). z.parent), ap (λ z. length z.parents) view)

  pub link_read : (c : ℕ) (x : Link) → c < length s.parents → x ≡ get_or ls c x → x ≡ link_at ls c
  link_read c x h e = get_or_read ls c x (child_within c h) e no_link

  pub ends_read : (p : ℕ) (x : Ends) → p < length s.children → x ≡ get_or es p x → x ≡ ends_at es p
  ends_read p x h e = get_or_read es p x (list_within p h) e no_ends

  pub parent_read : (c : ℕ) (o : Option ℕ) → parent_at s c ≡ o → (link_at ls c).parent ≡ o
  parent_read c o e = sym (parent_at_is es ls c) ∙ ap (λ z. parent_at z c) view ∙ e

  pub first_done : (p : ℕ) (x : Ends) → p < length s.children → x ≡ get_or es p x → x.first ≡ head (children_at s p)
  first_done p x h e = ap (λ z. z.first) (ends_read p x h e) ∙ first_is es ls k p ∙ ap (λ z. head (children_at z p))
      view

  first_none : (xs : List ℕ) → head xs ≡ None → xs ≡ []
  first_none [] e = refl
  first_none (x ∷ xs) e = absurd (none-some x (sym e))

  pub empty_done : (p : ℕ) (x : Ends) → p < length s.children → x ≡ get_or es p x → x.first ≡ None → children_at s p ≡
      []
  empty_done p x h e none = first_none (children_at s p) (sym (first_done p x h e) ∙ none)

  pub filled_done : (p c : ℕ) (x : Ends) → p < length s.children → x ≡ get_or es p x → x.first ≡ Some c → children_at s
      p ≡ [] → ⊥
  filled_done p c x h e some empty = none-some c (ap head (sym empty) ∙ sym (first_done p x h e) ∙ some)

  pub parent_done : (c : ℕ) (x : Link) → c < length s.parents → x ≡ get_or ls c x → x.parent ≡ parent_at s c
  parent_done c x h e = ap (λ z. z.parent) (link_read c x h e) ∙ parent_read c (parent_at s c) refl

  pub last_done : (p : ℕ) (x : Ends) → p < length s.children → x ≡ get_or es p x → x.last ≡ last_of (children_at s p)
  last_done p x h e = ap (λ z. z.last) (ends_read p x h e) ∙ last_is es ls k p ∙ ap (λ z. last_of (children_at z p))
      view

  pub next_done : (c : ℕ) (x : Link) → c < length s.parents → x ≡ get_or ls c x → x.next ≡ next_of s c
  next_done c x h e = ap (λ z. z.next) (link_read c x h e) ∙ next_of_is es ls k c ∙ ap (λ z. next_of z c) view

  pub prev_done : (c : ℕ) (x : Link) → c < length s.parents → x ≡ get_or ls c x → x.prev ≡ prev_of s c
  prev_done c x h e = ap (λ z. z.prev) (link_read c x h e) ∙ prev_of_is es ls k c ∙ ap (λ z. prev_of z c) view

  pub prev_read_within : (c p : ℕ) (x : Link) → c < length s.parents → x ≡ get_or ls c x → x.parent ≡ Some p → IfSome
      x.prev (λ y. y < length ls)
  prev_read_within c p x h e q =
      let r = link_read c x h e in
      subst (λ z. IfSome z.prev (λ y. y < length ls)) (sym r) (prev_within es ls k p c (ap (λ z. z.parent) (sym r) ∙ q))

  pub next_read_within : (c p : ℕ) (x : Link) → c < length s.parents → x ≡ get_or ls c x → x.parent ≡ Some p → IfSome
      x.next (λ y. y < length ls)
  next_read_within c p x h e q =
      let r = link_read c x h e in
      subst (λ z. IfSome z.next (λ y. y < length ls)) (sym r) (next_within es ls k p c (ap (λ z. z.parent) (sym r) ∙ q))

  pub parent_list_within : (c p : ℕ) (x : Link) → c < length s.parents → x ≡ get_or ls c x → x.parent ≡ Some p → p <
      length es
  parent_list_within c p x h e q = held_within es ls (children_of es ls) k p c (ap
      (λ z. z.parent) (sym (link_read c x h e)) ∙ q)

  -- the gaps, as they are read
  pub first_gap : (p : ℕ) (x : Ends) → p < length s.children → x ≡ get_or es p x → IsGap es ls (children_at s p)
      (λ c. c ∷ children_at s p) p None x.first
  first_gap p x h e = rw (ap (λ (z : Ends). z.first) (ends_read p x h e), ← view) (first_gap_is es ls k p)

  pub last_gap : (p : ℕ) (x : Ends) → p < length s.children → x ≡ get_or es p x → IsGap es ls (children_at s p)
      (λ c. children_at s p ++ c ∷ []) p x.last None
  last_gap p x h e = rw (ap (λ (z : Ends). z.last) (ends_read p x h e), ← view) (last_gap_is es ls k p)

  pub before_gap : (m p : ℕ) (x : Link) → m < length s.parents → x ≡ get_or ls m x → x.parent ≡ Some p → IsGap es ls
      (children_at s p) (λ c. put_in c m (children_at s p)) p x.prev (Some m)
  before_gap m p x h e q =
      let r = link_read m x h e in
      rw (ap (λ (z : Link). z.prev) r, ← view) (before_gap_is es ls k p m (ap (λ z. z.parent) (sym r) ∙ q))

  pub after_gap : (m p : ℕ) (x : Link) → m < length s.parents → x ≡ get_or ls m x → x.parent ≡ Some p → IsGap es ls
      (children_at s p) (λ c. put_in_after c m (children_at s p)) p (Some m) x.next
  after_gap m p x h e q =
      let r = link_read m x h e in
      rw (ap (λ (z : Link). z.next) r, ← view) (after_gap_is es ls k p m (ap (λ z. z.parent) (sym r) ∙ q))

  -- what is in a gap's neighbourhood is within, and what the lists are once the gap is filled
  module _ (p : ℕ) (l r : Option ℕ) (grown : ℕ → List ℕ) (gap : IsGap es ls (children_at s p) grown p l r) where
    pub gap_left : IfSome l (λ x. x < length ls)
    gap_left = gap_left_is es ls k p l r grown (subst (λ z. IsGap es ls (children_at z p) grown p l r) (sym view) gap)

    pub gap_right : IfSome r (λ x. x < length ls)
    gap_right = gap_right_is es ls k p l r grown (subst (λ z. IsGap es ls (children_at z p) grown p l r) (sym view) gap)

    pub insert_done : (c : ℕ) (es' : List Ends) (ls' : List Link) → p < length es → c < length s.parents → parent_at s c
        ≡ None → es' ≡ ends_in es p c l r → ls' ≡ links_in ls p c l r → IsStore es' ls'
        (record { children = set s.children p (grown c); parents = set s.parents c (Some p) })
    insert_done c es' ls' h i free ends links =
        rw (ends, links, ← view)
        (insert_is es ls k p c l r grown (subst (λ z. IsGap es ls (children_at z p) grown p l r) (sym view) gap) h
        (child_within c i) (parent_read c None free))

  pub parent_at_read : (m p : ℕ) (x : Link) → m < length s.parents → x ≡ get_or ls m x → x.parent ≡ Some p → parent_at s
      m ≡ Some p
  parent_at_read m p x h e q = sym (parent_done m x h e) ∙ q

  pub insert_before_done : (c m p : ℕ) (x : Link) (es' : List Ends) (ls' : List Link) → c < length s.parents → m <
      length s.parents → parent_at s c ≡ None → x ≡ get_or ls m x → x.parent ≡ Some p → es' ≡ ends_in es p c x.prev
      (Some m) → ls' ≡ links_in ls p c x.prev (Some m) → IsStore es' ls' (with_before s c m)
  insert_before_done c m p x es' ls' h i free read linked ends links =
      subst (λ o. IsStore es' ls' (with_before_under s c m o)) (sym (parent_at_read m p x i read linked))
      (insert_done p x.prev (Some m) (λ c. put_in c m (children_at s p)) (before_gap m p x i read linked) c es' ls'
      (parent_list_within m p x i read linked) h free ends links)

  pub insert_after_done : (c m p : ℕ) (x : Link) (es' : List Ends) (ls' : List Link) → c < length s.parents → m < length
      s.parents → parent_at s c ≡ None → x ≡ get_or ls m x → x.parent ≡ Some p → es' ≡ ends_in es p c (Some m) x.next →
      ls' ≡ links_in ls p c (Some m) x.next → IsStore es' ls' (with_after s c m)
  insert_after_done c m p x es' ls' h i free read linked ends links =
      subst (λ o. IsStore es' ls' (with_after_under s c m o)) (sym (parent_at_read m p x i read linked))
      (insert_done p (Some m) x.next (λ c. put_in_after c m (children_at s p)) (after_gap m p x i read linked) c es' ls'
      (parent_list_within m p x i read linked) h free ends links)

  pub remove_done : (p c : ℕ) (x : Link) (es' : List Ends) (ls' : List Link) → c < length s.parents → x ≡ get_or ls c x
      → x.parent ≡ Some p → es' ≡ ends_out es p x.prev x.next → ls' ≡ links_out ls c x.prev x.next → IsStore es' ls'
      (without_child s c)
  remove_done p c x es' ls' h read linked ends links =
      let r = link_read c x h read in
      let done = remove_is es ls k p c (ap (λ z. z.parent) (sym r) ∙ linked) in
      rw (ends, links, ap (λ (z : Link). z.prev) r, ap (λ (z : Link). z.next) r, ← view) done

pub IsAgreed-now : (es : List Ends) (ls : List Link) → IsLinked es ls (children_of es ls) → IsAgreed (lists_of es ls)
IsAgreed-now es ls k = record {
  apart = k.apart;
  owned = λ p c i. at_parents ls c ∙ k.owned p c i;
  held = λ p c e. k.held p c (sym (at_parents ls c) ∙ e);
  within = λ p c i. let h = within_from_parent ls c p (k.owned p c i) in omega (
    arith,
    length-map ls
        (λ (z : Link). z.parent),
  );
  num_lists = rw k.as_many k.num_lists;
  num_children = rw (length-map ls (λ (z : Link). z.parent)) k.num_children;
}

pub IsAgreed-seen : (es : List Ends) (ls : List Link) (s : Lists) → IsLinked es ls (children_of es ls) → lists_of es ls
    ≡ s → IsAgreed s
IsAgreed-seen es ls s k view = subst IsAgreed view (IsAgreed-now es ls k)

link_none : (x : Link) → x.parent ≡ None → x.next ≡ None → x.prev ≡ None → x ≡ no_link
link_none x p n q = let e : x ≡ record { prev = x.prev; next = x.next; parent = x.parent } = refl in e ∙ rw (p, n, q)
    refl

ends_none : (x : Ends) → x.first ≡ None → x.last ≡ None → x ≡ no_ends
ends_none x p n = let e : x ≡ record { first = x.first; last = x.last } = refl in e ∙ rw (p, n) refl

-- a list is its front and its last element
front_last : {X : Type 0} (xs : List X) (d : X) → 0 < length xs → xs ≡ take (length xs - 1) xs ++ get_or xs
    (length xs - 1) d ∷ []
front_last xs d h =
    let e : length xs - 1 + 1 ≡ length xs = omega arith in
    sym (take_all (length xs - 1 + 1) xs (omega arith)) ∙ take_more xs (length xs - 1) d (omega arith)

module _ (es : List Ends) (ls : List Link) (s : Lists) (k : IsLinked es ls (children_of es ls))
    (view : lists_of es ls ≡ s) where
  pub drop_child_done : 0 < length s.parents → parent_at s (length s.parents - 1) ≡ None → IsStore es
      (take (length ls - 1) ls) (without_last_child s)
  drop_child_done h free =
      let n : length s.parents ≡ length ls = ap (λ z. length z.parents) (sym view) ∙ length-map ls
      (λ (z : Link). z.parent) in
      let i = length ls - 1 in
      let ls' = take i ls in
      let none : (link_at ls i).parent ≡ None = parent_read es ls s k view i None
      (subst (λ (m : ℕ). parent_at s (m - 1) ≡ None) n free) in
      let last : link_at ls i ≡ no_link = link_none (link_at ls i) none (k.loose_next i none) (k.loose_prev i none) in
      let whole : ls ≡ ls' ++ no_link ∷ [] = front_last ls no_link (omega (arith, n)) ∙ ap (λ z. ls' ++ z ∷ []) last in
      let same : (x : ℕ) → link_at ls' x ≡ link_at ls x = λ x. sym (ap (λ z. link_at z x) whole ∙ get_or-push_default
      ls' no_link x) in
      let done = IsStore-from es ls' (children_of es ls) (parents_of ls') (IsLinked-same es es ls ls'
      (children_of es ls) (children_of es ls) k.as_many k.num_lists (omega (
        arith,
        length-take-le i ls
            (omega arith),
        k.num_children,
      )) (λ p. refl) same (λ p. refl) k) refl in
      let parents : parents_of ls' ≡ take (length s.parents - 1) s.parents =
      sym (take-map (λ (z : Link). z.parent) i ls) ∙ ap (λ (m : ℕ). take (m - 1) (parents_of ls)) (sym n) ∙ ap
      (λ z. take (length s.parents - 1) z.parents) view in
      record { sound = done.sound; view = done.view ∙ rw (parents, ← view) refl }

  pub drop_list_done : 0 < length s.children → children_at s (length s.children - 1) ≡ [] → IsStore
      (take (length es - 1) es) ls (without_last_list s)
  drop_list_done h none =
      let n : length s.children ≡ length es = ap (λ z. length z.children) (sym view) ∙ k.as_many in
      let i = length es - 1 in
      let es' = take i es in
      let ks = children_of es ls in
      let none' : children_at (lists_of es ls) i ≡ [] = ap (λ z. children_at z i) view ∙ subst
      (λ (m : ℕ). children_at s (m - 1) ≡ []) n none in
      let first : (ends_at es i).first ≡ None = first_is es ls k i ∙ ap head none' in
      let final : (ends_at es i).last ≡ None = last_is es ls k i ∙ ap last_of none' in
      let last : ends_at es i ≡ no_ends = ends_none (ends_at es i) first final in
      let whole : es ≡ es' ++ no_ends ∷ [] = front_last es no_ends (omega (arith, n)) ∙ ap (λ z. es' ++ z ∷ []) last in
      let same : (x : ℕ) → ends_at es' x ≡ ends_at es x = λ x. sym (ap (λ z. ends_at z x) whole ∙ get_or-push_default
      es' no_ends x) in
      let children : ks ≡ take i ks ++ [] ∷ [] =
      front_last ks [] (omega (arith, k.as_many, n)) ∙ ap (λ (m : ℕ). take (m - 1) ks ++ get_or ks (m - 1) [] ∷ [])
      k.as_many ∙ ap (λ z. take i ks ++ z ∷ []) none' in
      let lists : (x : ℕ) → get_or (take i ks) x [] ≡ get_or ks x [] =
      λ x. sym (ap (λ z. get_or z x []) children ∙ get_or-push_default (take i ks) [] x) in
      let many : length (take i ks) ≡ length es' = length-take-le i ks (omega (arith, k.as_many)) ∙ sym
      (length-take-le i es (omega arith)) in
      let done = IsStore-from es' ls (take i ks) (parents_of ls) (IsLinked-same es es' ls ls ks (take i ks) many
      (omega (arith, length-take-le i es (omega arith), k.num_lists)) k.num_children same
      (λ x. refl) lists k) refl in
      let shown : take i ks ≡ take (length s.children - 1) s.children = ap
      (λ (m : ℕ). take (m - 1) ks) (sym n) ∙ ap (λ z. take (length s.children - 1) z.children) view in
      record { sound = done.sound; view = done.view ∙ rw (shown, ← view) refl }
