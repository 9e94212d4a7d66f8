-- Each change of the links, as a change of the lists.
use Rattle.std.proofs.Common.{◌≡◌, ℕ, ◌<◌, ◌≤◌, List, [], ◌∷◌, ◌++◌, length, Option, Some, None, IfSome, ◌⊎◌, inl, inr}
use Rattle.std.proofs.Common.{refl, sym, ◌∙◌, ap, subst, arith, get_or, set, length-set}
use Rattle.std.proofs.lemmas.Bool.{cases_eq, cases_lt}
use Rattle.std.proofs.lemmas.List.{get_or-set_same, get_or-set_other, get_or_past, length-map, get_or-map, same_lists}
use Rattle.std.proofs.lemmas.List.{get_or_default}
use Rattle.std.proofs.lemmas.Option.{same_Some, none-some}
use Rattle.plir_store.specs.Members.{Has, Distinct, head}
use Rattle.plir_store.specs.declared.chains.Link.{Link}
use Rattle.plir_store.specs.declared.chains.Ends.{Ends}
use Rattle.plir_store.specs.Links.{no_link, no_ends, link_at, ends_at, after, before, put_first, put_last, put_next}
use Rattle.plir_store.specs.Links.{put_prev, ends_in, links_in, ends_out, links_out, Joined, children_from, children_of}
use Rattle.plir_store.specs.Links.{IsLinked}
use Rattle.plir_store.proofs.Members.{Distinct-insert, Distinct-remove, Distinct-mid}
use Rattle.plir_store.specs.ListLaws.{length-le_from_Distinct}
use Rattle.plir_store.proofs.Joined.{Joined-cut, back_is_in, walk_is, Joined-frame, Joined-insert, Joined-remove}
use Rattle.plir_store.proofs.Writes.{after_put_same, after_put_other, after_put_elsewhere, after_put_back}
use Rattle.plir_store.proofs.Writes.{before_put_same, before_put_other, before_put_elsewhere, before_put_front}
use Rattle.plir_store.proofs.Writes.{after_set_other, before_set_other, parent_put_next, parent_put_prev}
use Rattle.plir_store.proofs.Writes.{length-put_first, length-put_last, length-put_next, length-put_prev}
use Rattle.plir_store.proofs.Writes.{within_from_parent}
use Rattle.plir_store.specs.MemberLaws.{Has-append_left, Has-append_right, Has-append_cases}

Has-past : (ks : List (List ℕ)) (p x : ℕ) → Has (get_or ks p []) x → p < length ks
Has-past ks p x i = elim (cases_lt p (length ks)) [
  | inl h ↦ h
  | inr h ↦ absurd (subst (λ xs. Has xs x) (get_or_past ks p [] h) i)
]

module _ (es : List Ends) (ls : List Link) (ks : List (List ℕ)) (k : IsLinked es ls ks) where
  -- the lists are what a walk finds
  pub children_of_is : children_of es ls ≡ ks
  children_of_is =
      same_lists (children_of es ls) ks (length-map es (children_from ls) ∙ sym k.as_many) (λ p d h.
      let within : p < length es = omega (arith, length-map es (children_from ls)) in
      let short : length (get_or ks p []) ≤ length ls =
      length-le_from_Distinct (get_or ks p []) (length ls) (k.apart p)
      (λ x i. within_from_parent ls x p (k.owned p x i)) in
      let walked : children_from ls (ends_at es p) ≡ get_or ks p [] =
      walk_is (after es ls p) (before es ls p) (length ls) None (get_or ks p []) (k.joined p) short in
      get_or-map (children_from ls) es p no_ends d within ∙ walked ∙ get_or_default ks p [] d
      (omega (arith, k.as_many)))

  pub held_within : (p c : ℕ) → (link_at ls c).parent ≡ Some p → p < length es
  held_within p c e = let h : p < length ks = Has-past ks p c (k.held p c e) in omega (arith, k.as_many)

-- what an insertion and a removal have in common: only l, r, c and the list p change
record IsPatch (es es' : List Ends) (ls ls' : List Link) (p c : ℕ) (l r : Option ℕ) : Type 0 where
  pub same_after : (q : ℕ) (k : Option ℕ) → (k ≡ l → ⊥) → (k ≡ Some c → ⊥) → after es' ls' q k ≡ after es ls q k
  pub same_before : (q : ℕ) (k : Option ℕ) → (k ≡ r → ⊥) → (k ≡ Some c → ⊥) → before es' ls' q k ≡ before es ls q k
  pub else_after : (q : ℕ) → (q ≡ p → ⊥) → after es' ls' q None ≡ after es ls q None
  pub else_before : (q : ℕ) → (q ≡ p → ⊥) → before es' ls' q None ≡ before es ls q None
  pub parents : (x : ℕ) → (x ≡ c → ⊥) → (link_at ls' x).parent ≡ (link_at ls x).parent

module _ (es es' : List Ends) (ls ls' : List Link) (ks : List (List ℕ)) (p c : ℕ) (l r : Option ℕ)
    (k : IsLinked es ls ks) (patch : IsPatch es es' ls ls' p c l r) (l_in : (y : ℕ) → l ≡ Some y → Has (get_or ks p [])
    y) (r_in : (y : ℕ) → r ≡ Some y → Has (get_or ks p []) y) where
  -- nothing in another list is a neighbour
  apart_from : (q x : ℕ) (n : Option ℕ) → ((y : ℕ) → n ≡ Some y → Has (get_or ks p []) y) → (q ≡ p → ⊥) →
      (link_at ls x).parent ≡ Some q → Some x ≡ n → ⊥
  apart_from q x n n_in other e s = other (sym (same_Some p q (sym (k.owned p x (n_in x (sym s))) ∙ e)))

  loose_from : (x : ℕ) (n : Option ℕ) → ((y : ℕ) → n ≡ Some y → Has (get_or ks p []) y) → (link_at ls x).parent ≡ None →
      Some x ≡ n → ⊥
  loose_from x n n_in e s = none-some p (sym e ∙ k.owned p x (n_in x (sym s)))

  -- the other lists stay joined
  joined_elsewhere : (q : ℕ) → (q ≡ p → ⊥) → (Has (get_or ks q []) c → ⊥) → Joined (after es' ls' q) (before es' ls' q)
      None (get_or ks q []) None
  joined_elsewhere q other absent =
      Joined-frame (after es ls q) (before es ls q) (after es' ls' q) (before es' ls' q) None None (get_or ks q [])
      (patch.else_after q other) (patch.else_before q other)
      (λ x i.
      let nc : Some x ≡ Some c → ⊥ = λ e. absent (subst (λ z. Has (get_or ks q []) z) (same_Some x c e) i) in (
        patch.same_after q (Some x) (apart_from q x l l_in other (k.owned q x i)) nc,
        patch.same_before q (Some x)
            (apart_from q x r r_in other (k.owned q x i)) nc,
      ))
      (k.joined q)

  next_elsewhere : (x : ℕ) → (x ≡ c → ⊥) → (link_at ls x).parent ≡ None → (link_at ls' x).next ≡ None
  next_elsewhere x n e = patch.same_after p (Some x) (loose_from x l l_in e)
      (λ s. n (same_Some x c s)) ∙ k.loose_next x e

  prev_elsewhere : (x : ℕ) → (x ≡ c → ⊥) → (link_at ls x).parent ≡ None → (link_at ls' x).prev ≡ None
  prev_elsewhere x n e = patch.same_before p (Some x) (loose_from x r r_in e)
      (λ s. n (same_Some x c s)) ∙ k.loose_prev x e

-- a write to one list of the lists
at_set : (ks : List (List ℕ)) (p : ℕ) (new : List ℕ) → p < length ks → get_or (set ks p new) p [] ≡ new
at_set ks p new h = get_or-set_same ks p new [] h

Has-insert : (x c : ℕ) (us bs : List ℕ) → Has (us ++ bs) x → Has (us ++ c ∷ bs) x
Has-insert x c us bs i = elim (Has-append_cases us bs x i) [
  | inl k ↦ Has-append_left us (c ∷ bs) x k
  | inr k ↦ Has-append_right us (c ∷ bs) x (inr k)
]

Has-uninsert : (x c : ℕ) (us bs : List ℕ) → Has (us ++ c ∷ bs) x → (c ≡ x) ⊎ Has (us ++ bs) x
Has-uninsert x c us bs i = elim (Has-append_cases us (c ∷ bs) x i) [
  | inl k ↦ inr (Has-append_left us bs x k)
  | inr k ↦ elim k [ inl e ↦ inl e | inr j ↦ inr (Has-append_right us bs x j) ]
]

Has-head : (y : ℕ) (us bs : List ℕ) → head bs ≡ Some y → Has (us ++ bs) y
Has-head y us [] e = absurd (none-some y e)
Has-head y us (b ∷ bs) e = Has-append_right us (b ∷ bs) y (inl (same_Some b y e))

pub Has-back : (N P : Option ℕ → Option ℕ) (r : Option ℕ) (us bs : List ℕ) (y : ℕ) → Joined N P None us r → P r ≡ Some y
    → Has (us ++ bs) y
Has-back N P r [] bs y j e = absurd (none-some y (sym j.1 ∙ e))
Has-back N P r (u ∷ us) bs y j e =
    let t = back_is_in N P None r u us j in
    Has-append_left (u ∷ us) bs y (subst (λ z. Has (u ∷ us) z) (same_Some t.0 y (sym t.1.1 ∙ e)) t.1.0)

-- each link within
pub IfSome-within : (ls : List Link) (ks : List (List ℕ)) (p : ℕ) (a : Option ℕ) →
    ((p c : ℕ) → Has (get_or ks p []) c → (link_at ls c).parent ≡ Some p) → ((y : ℕ) → a ≡ Some y → Has (get_or ks p [])
    y) → IfSome a (λ x. x < length ls)
IfSome-within ls ks p None owned inside = tt
IfSome-within ls ks p (Some y) owned inside = within_from_parent ls y p (owned p y (inside y refl))

-- two places l and r that stand next to each other in the list of p, which is cut between them
module _ (es : List Ends) (ls : List Link) (ks : List (List ℕ)) (p : ℕ) (l r : Option ℕ) (us bs : List ℕ)
    (k : IsLinked es ls ks) (whole : get_or ks p [] ≡ us ++ bs) (re : r ≡ head bs) (le : l ≡ before es ls p r) where
  gap_joined : Joined (after es ls p) (before es ls p) None (us ++ bs) None
  gap_joined = subst (λ xs. Joined (after es ls p) (before es ls p) None xs None) whole (k.joined p)

  pub gap_r_in : (y : ℕ) → r ≡ Some y → Has (get_or ks p []) y
  gap_r_in y e = rw whole (Has-head y us bs (sym re ∙ e))

  pub gap_l_in : (y : ℕ) → l ≡ Some y → Has (get_or ks p []) y
  gap_l_in y e =
      let t = Joined-cut (after es ls p) (before es ls p) None us bs gap_joined in
      rw whole (Has-back (after es ls p) (before es ls p) (head bs) us bs y t.0 (ap (before es ls p) (sym re) ∙ sym le ∙
      e))

module _ (es : List Ends) (ls : List Link) (ks : List (List ℕ)) (p c : ℕ) (l r : Option ℕ) (us bs : List ℕ)
    (k : IsLinked es ls ks) (whole : get_or ks p [] ≡ us ++ bs) (p_in : p < length es) (c_in : c < length ls)
    (free : (link_at ls c).parent ≡ None) (re : r ≡ head bs) (le : l ≡ before es ls p r) where
  insert_joined : Joined (after es ls p) (before es ls p) None (us ++ bs) None
  insert_joined = gap_joined es ls ks p l r us bs k whole re le

  insert_r_in : (y : ℕ) → r ≡ Some y → Has (get_or ks p []) y
  insert_r_in = gap_r_in es ls ks p l r us bs k whole re le

  insert_l_in : (y : ℕ) → l ≡ Some y → Has (get_or ks p []) y
  insert_l_in = gap_l_in es ls ks p l r us bs k whole re le

  insert_absent : (q : ℕ) → Has (get_or ks q []) c → ⊥
  insert_absent q i = none-some q (sym free ∙ k.owned q c i)

  insert_l_other : l ≡ Some c → ⊥
  insert_l_other e = insert_absent p (insert_l_in c e)

  insert_r_other : r ≡ Some c → ⊥
  insert_r_other e = insert_absent p (insert_r_in c e)

  abbrev new_link : Link
  new_link = record { prev = l; next = r; parent = Some p }

  insert_l_within : IfSome l (λ x. x < length (set ls c new_link))
  insert_l_within = rw (length-set ls c new_link) (IfSome-within ls ks p l k.owned insert_l_in)

  insert_r_within : IfSome r (λ x. x < length (put_next (set ls c new_link) l (Some c)))
  insert_r_within = rw (length-put_next (set ls c new_link) l (Some c), length-set ls c new_link)
      (IfSome-within ls ks p r k.owned insert_r_in)

  insert_patch : IsPatch es (ends_in es p c l r) ls (links_in ls p c l r) p c l r
  insert_patch =
      let ls₁ = set ls c new_link in
      let ls₂ = put_next ls₁ l (Some c) in
      let es₁ = put_first es p l (Some c) in
      record {
        same_after = λ q w nl nc. after_put_back es₁ ls₂ p q r (Some c) w ∙ after_put_other es ls₁ p q l (Some c) w nl ∙
            after_set_other es ls c new_link q w nc;
        same_before = λ q w nr nc. before_put_other es₁ ls₂ p q r (Some c) w nr ∙ before_put_front es ls₁ p q l (Some c)
            w ∙ before_set_other es ls c new_link q w nc;
        else_after = λ q n. after_put_back es₁ ls₂ p q r (Some c) None ∙ after_put_elsewhere es ls₁ p q l (Some c) n;
        else_before = λ q n. before_put_elsewhere es₁ ls₂ p q r (Some c) n ∙ before_put_front es ls₁ p q l (Some c)
            None;
        parents = λ x n. parent_put_prev ls₂ r (Some c) x ∙ parent_put_next ls₁ l (Some c) x ∙ ap (λ z. z.parent)
            (get_or-set_other ls c x new_link no_link n);
      }

  insert_parent : (link_at (links_in ls p c l r) c).parent ≡ Some p
  insert_parent =
      parent_put_prev (put_next (set ls c new_link) l (Some c)) r (Some c) c ∙ parent_put_next (set ls c new_link) l
      (Some c) c ∙ ap (λ z. z.parent) (get_or-set_same ls c new_link no_link c_in)

  insert_here : Joined (after (ends_in es p c l r) (links_in ls p c l r) p) (before (ends_in es p c l r)
      (links_in ls p c l r) p) None (us ++ c ∷ bs) None
  insert_here =
      let ls₁ = set ls c new_link in
      let ls₂ = put_next ls₁ l (Some c) in
      let es₁ = put_first es p l (Some c) in
      let p_in₁ : p < length es₁ = omega (arith, length-put_first es ls p l (Some c)) in
      Joined-insert (after es ls p) (before es ls p) (after (ends_in es p c l r) (links_in ls p c l r) p)
      (before (ends_in es p c l r) (links_in ls p c l r) p) c us bs l r insert_joined
      (subst Distinct whole (k.apart p)) (λ i. insert_absent p (rw whole i)) re le
      (insert_patch.same_after p) (insert_patch.same_before p)
      (after_put_back es₁ ls₂ p p r (Some c) l ∙ after_put_same es ls₁ p l (Some c) p_in insert_l_within)
      (before_put_other es₁ ls₂ p p r (Some c) (Some c) (λ e. insert_r_other (sym e)) ∙ before_put_front es ls₁ p p l
      (Some c) (Some c) ∙ ap (λ z. z.prev) (get_or-set_same ls c new_link no_link c_in))
      (after_put_back es₁ ls₂ p p r (Some c) (Some c) ∙ after_put_other es ls₁ p p l (Some c) (Some c)
      (λ e. insert_l_other (sym e)) ∙ ap (λ z. z.next) (get_or-set_same ls c new_link no_link c_in))
      (before_put_same es₁ ls₂ p r (Some c) p_in₁ insert_r_within)

  pub IsLinked-insert : IsLinked (ends_in es p c l r) (links_in ls p c l r) (set ks p (us ++ c ∷ bs))
  IsLinked-insert =
      let es' = ends_in es p c l r in
      let ls' = links_in ls p c l r in
      let ks' = set ks p (us ++ c ∷ bs) in
      let p_ks : p < length ks = omega (arith, k.as_many) in
      let here : get_or ks' p [] ≡ us ++ c ∷ bs = at_set ks p (us ++ c ∷ bs) p_ks in
      let other : (q : ℕ) → (q ≡ p → ⊥) → get_or ks' q [] ≡ get_or ks q [] =
      λ q n. get_or-set_other ks p q (us ++ c ∷ bs) [] n in
      record {
        as_many = length-set ks p (us ++ c ∷ bs) ∙ k.as_many ∙ sym (length-put_first es ls p l (Some c)) ∙ sym
            (length-put_last (put_first es p l (Some c)) ls p r (Some c));
        joined = λ q. elim (cases_eq q p) [
          | inl e ↦ subst (λ w. Joined (after es' ls' w) (before es' ls' w) None (get_or ks' w []) None) (sym e)
              (rw here insert_here)
          | inr n ↦ rw (other q n) (joined_elsewhere es es' ls ls' ks p c l r k insert_patch insert_l_in insert_r_in q n
              (insert_absent q))
        ];
        apart = λ q. elim (cases_eq q p) [
          | inl e ↦ subst (λ w. Distinct (get_or ks' w [])) (sym e) (rw here (Distinct-insert c us bs
              (λ i. insert_absent p (rw whole i)) (subst Distinct whole (k.apart p))))
          | inr n ↦ rw (other q n) (k.apart q)
        ];
        owned = λ q x i. elim (cases_eq x c) [
          | inl e ↦ elim (cases_eq q p) [
            | inl f ↦ subst (λ w. (link_at ls' w).parent ≡ Some q) (sym e) (insert_parent ∙ ap Some (sym f))
            | inr n ↦ absurd (insert_absent q (subst (λ w. Has (get_or ks q []) w) e (rw (other q n) at i)))
          ]
          | inr m ↦ insert_patch.parents x m ∙ elim (cases_eq q p) [
            | inl f ↦ k.owned q x (subst (λ w. Has (get_or ks w []) x) (sym f) (rw whole
                (elim (Has-uninsert x c us bs (subst (λ ws. Has ws x) here (subst (λ w. Has (get_or ks' w []) x) f i)))
                [ inl e ↦ absurd (m (sym e)) | inr j ↦ j ])))
            | inr n ↦ k.owned q x (rw (other q n) at i)
          ]
        ];
        held = λ q x e. elim (cases_eq x c) [
          | inl f ↦
              let same : q ≡ p = same_Some q p (sym (subst (λ w. (link_at ls' w).parent ≡ Some q) f e) ∙ insert_parent)
              in
              subst (λ w. Has (get_or ks' w []) x) (sym same) (rw here (Has-append_right us (c ∷ bs) x (inl (sym f))))
          | inr m ↦
              let i : Has (get_or ks q []) x = k.held q x (sym (insert_patch.parents x m) ∙ e) in
              elim (cases_eq q p) [
                | inl f ↦ subst (λ w. Has (get_or ks' w []) x) (sym f) (rw here (Has-insert x c us bs
                    (subst (λ ws. Has ws x) whole (subst (λ w. Has (get_or ks w []) x) f i))))
                | inr n ↦ rw (other q n) i
              ]
        ];
        loose_next = λ x e. elim (cases_eq x c) [
          | inl f ↦ absurd (none-some p (sym (subst (λ w. (link_at ls' w).parent ≡ None) f e) ∙ insert_parent))
          | inr m ↦ next_elsewhere es es' ls ls' ks p c l r k insert_patch insert_l_in insert_r_in x m
              (sym (insert_patch.parents x m) ∙ e)
        ];
        loose_prev = λ x e. elim (cases_eq x c) [
          | inl f ↦ absurd (none-some p (sym (subst (λ w. (link_at ls' w).parent ≡ None) f e) ∙ insert_parent))
          | inr m ↦ prev_elsewhere es es' ls ls' ks p c l r k insert_patch insert_l_in insert_r_in x m
              (sym (insert_patch.parents x m) ∙ e)
        ];
        num_lists = rw (
          length-put_last (put_first es p l (Some c)) ls p r (Some c),
          length-put_first es ls p l
              (Some c),
        ) k.num_lists;
        num_children = rw (
          length-put_prev (put_next (set ls c new_link) l (Some c)) r (Some c),
          length-put_next
              (set ls c new_link) l (Some c),
          length-set ls c new_link,
        ) k.num_children;
      }

module _ (es : List Ends) (ls : List Link) (ks : List (List ℕ)) (p c : ℕ) (us bs : List ℕ) (k : IsLinked es ls ks)
    (whole : get_or ks p [] ≡ us ++ c ∷ bs) (linked : (link_at ls c).parent ≡ Some p) where
  abbrev remove_l : Option ℕ
  remove_l = (link_at ls c).prev

  abbrev remove_r : Option ℕ
  remove_r = (link_at ls c).next

  remove_joined : Joined (after es ls p) (before es ls p) None (us ++ c ∷ bs) None
  remove_joined = subst (λ xs. Joined (after es ls p) (before es ls p) None xs None) whole (k.joined p)

  remove_apart : Distinct (us ++ c ∷ bs)
  remove_apart = subst Distinct whole (k.apart p)

  remove_p_in : p < length es
  remove_p_in = held_within es ls ks k p c linked

  remove_c_in : c < length ls
  remove_c_in = within_from_parent ls c p linked

  remove_l_among : (y : ℕ) → remove_l ≡ Some y → Has (us ++ bs) y
  remove_l_among y e =
      let t = Joined-cut (after es ls p) (before es ls p) None us (c ∷ bs) remove_joined in
      Has-back (after es ls p) (before es ls p) (Some c) us bs y t.0 e

  remove_r_among : (y : ℕ) → remove_r ≡ Some y → Has (us ++ bs) y
  remove_r_among y e =
      let t = Joined-cut (after es ls p) (before es ls p) None us (c ∷ bs) remove_joined in
      let u = Joined-cut (after es ls p) (before es ls p) (Some c) [] bs t.1 in
      Has-head y us bs (sym u.0.0 ∙ e)

  pub remove_l_in : (y : ℕ) → remove_l ≡ Some y → Has (get_or ks p []) y
  remove_l_in y e = rw whole (Has-insert y c us bs (remove_l_among y e))

  pub remove_r_in : (y : ℕ) → remove_r ≡ Some y → Has (get_or ks p []) y
  remove_r_in y e = rw whole (Has-insert y c us bs (remove_r_among y e))

  remove_l_other : remove_l ≡ Some c → ⊥
  remove_l_other e = Distinct-mid c us bs remove_apart (remove_l_among c e)

  remove_r_other : remove_r ≡ Some c → ⊥
  remove_r_other e = Distinct-mid c us bs remove_apart (remove_r_among c e)

  remove_l_within : IfSome remove_l (λ x. x < length ls)
  remove_l_within = IfSome-within ls ks p remove_l k.owned remove_l_in

  remove_r_within : IfSome remove_r (λ x. x < length (put_next ls remove_l remove_r))
  remove_r_within = rw (length-put_next ls remove_l remove_r) (IfSome-within ls ks p remove_r k.owned remove_r_in)

  abbrev es_out : List Ends
  es_out = ends_out es p remove_l remove_r

  abbrev ls_out : List Link
  ls_out = links_out ls c remove_l remove_r

  remove_patch : IsPatch es es_out ls ls_out p c remove_l remove_r
  remove_patch =
      let l = remove_l in
      let r = remove_r in
      let ls₁ = put_next ls l r in
      let ls₂ = put_prev ls₁ r l in
      let es₁ = put_first es p l r in
      record {
        same_after = λ q w nl nc. after_set_other (put_last es₁ p r l) ls₂ c no_link q w nc ∙ after_put_back es₁ ls₁ p q
            r l w ∙ after_put_other es ls p q l r w nl;
        same_before = λ q w nr nc. before_set_other (put_last es₁ p r l) ls₂ c no_link q w nc ∙ before_put_other es₁ ls₁
            p q r l w nr ∙ before_put_front es ls p q l r w;
        else_after = λ q n. after_set_other (put_last es₁ p r l) ls₂ c no_link q None (none-some c) ∙ after_put_back es₁
            ls₁ p q r l None ∙ after_put_elsewhere es ls p q l r n;
        else_before = λ q n. before_set_other (put_last es₁ p r l) ls₂ c no_link q None (none-some c) ∙
            before_put_elsewhere es₁ ls₁ p q r l n ∙ before_put_front es ls p q l r None;
        parents = λ x n. ap (λ z. z.parent) (get_or-set_other ls₂ c x no_link no_link n) ∙ parent_put_prev ls₁ r l x ∙
            parent_put_next ls l r x;
      }

  remove_length : length (put_prev (put_next ls remove_l remove_r) remove_r remove_l) ≡ length ls
  remove_length = length-put_prev (put_next ls remove_l remove_r) remove_r remove_l ∙ length-put_next ls remove_l
      remove_r

  remove_link : link_at ls_out c ≡ no_link
  remove_link =
      get_or-set_same (put_prev (put_next ls remove_l remove_r) remove_r remove_l) c no_link no_link
      (rw remove_length remove_c_in)

  remove_here : Joined (after es_out ls_out p) (before es_out ls_out p) None (us ++ bs) None
  remove_here =
      let l = remove_l in
      let r = remove_r in
      let ls₁ = put_next ls l r in
      let ls₂ = put_prev ls₁ r l in
      let es₁ = put_first es p l r in
      let p_in₁ : p < length es₁ = omega (arith, remove_p_in, length-put_first es ls p l r) in
      Joined-remove (after es ls p) (before es ls p) (after es_out ls_out p) (before es_out ls_out p) c us bs l r
      remove_joined remove_apart refl refl (remove_patch.same_after p) (remove_patch.same_before p)
      (after_set_other (put_last es₁ p r l) ls₂ c no_link p l remove_l_other ∙ after_put_back es₁ ls₁ p p r l l ∙
      after_put_same es ls p l r remove_p_in remove_l_within)
      (before_set_other (put_last es₁ p r l) ls₂ c no_link p r remove_r_other ∙ before_put_same es₁ ls₁ p r l p_in₁
      remove_r_within)

  pub IsLinked-remove : IsLinked es_out ls_out (set ks p (us ++ bs))
  IsLinked-remove =
      let ks' = set ks p (us ++ bs) in
      let p_ks : p < length ks = omega (arith, remove_p_in, k.as_many) in
      let here : get_or ks' p [] ≡ us ++ bs = at_set ks p (us ++ bs) p_ks in
      let other : (q : ℕ) → (q ≡ p → ⊥) → get_or ks' q [] ≡ get_or ks q [] =
      λ q n. get_or-set_other ks p q (us ++ bs) [] n in
      let gone : (q : ℕ) → (q ≡ p → ⊥) → Has (get_or ks q []) c → ⊥ =
      λ q n i. n (same_Some q p (sym (k.owned q c i) ∙ linked)) in
      let parentless : (link_at ls_out c).parent ≡ None = ap (λ z. z.parent) remove_link in
      record {
        as_many = length-set ks p (us ++ bs) ∙ k.as_many ∙ sym (length-put_first es ls p remove_l remove_r) ∙ sym
            (length-put_last (put_first es p remove_l remove_r) ls p remove_r remove_l);
        joined = λ q. elim (cases_eq q p) [
          | inl e ↦ subst (λ w. Joined (after es_out ls_out w) (before es_out ls_out w) None (get_or ks' w []) None)
              (sym e) (rw here remove_here)
          | inr n ↦ rw (other q n) (joined_elsewhere es es_out ls ls_out ks p c remove_l remove_r k remove_patch
              remove_l_in remove_r_in q n (gone q n))
        ];
        apart = λ q. elim (cases_eq q p) [
          | inl e ↦ subst (λ w. Distinct (get_or ks' w [])) (sym e) (rw here (Distinct-remove c us bs remove_apart))
          | inr n ↦ rw (other q n) (k.apart q)
        ];
        owned = λ q x i. elim (cases_eq q p) [
          | inl f ↦
              let i' : Has (us ++ bs) x = subst (λ ws. Has ws x) here (subst (λ w. Has (get_or ks' w []) x) f i) in
              let m : x ≡ c → ⊥ = λ e. Distinct-mid c us bs remove_apart (subst (λ z. Has (us ++ bs) z) e i') in
              remove_patch.parents x m ∙ k.owned q x (subst (λ w. Has (get_or ks w []) x) (sym f)
              (rw whole (Has-insert x c us bs i')))
          | inr n ↦
              let i' : Has (get_or ks q []) x = rw (other q n) at i in
              remove_patch.parents x (λ e. gone q n (subst (λ z. Has (get_or ks q []) z) e i')) ∙ k.owned q x i'
        ];
        held = λ q x e. elim (cases_eq x c) [
          | inl f ↦ absurd (none-some q (sym parentless ∙ subst (λ w. (link_at ls_out w).parent ≡ Some q) f e))
          | inr m ↦
              let i : Has (get_or ks q []) x = k.held q x (sym (remove_patch.parents x m) ∙ e) in
              elim (cases_eq q p) [
                | inl f ↦ subst (λ w. Has (get_or ks' w []) x) (sym f) (rw here (elim
                    (Has-uninsert x c us bs (subst (λ ws. Has ws x) whole (subst (λ w. Has (get_or ks w []) x) f i)))
                    [ inl g ↦ absurd (m (sym g)) | inr j ↦ j ]))
                | inr n ↦ rw (other q n) i
              ]
        ];
        loose_next = λ x e. elim (cases_eq x c) [
          | inl f ↦ subst (λ w. (link_at ls_out w).next ≡ None) (sym f) (ap (λ z. z.next) remove_link)
          | inr m ↦ next_elsewhere es es_out ls ls_out ks p c remove_l remove_r k remove_patch remove_l_in remove_r_in x
              m (sym (remove_patch.parents x m) ∙ e)
        ];
        loose_prev = λ x e. elim (cases_eq x c) [
          | inl f ↦ subst (λ w. (link_at ls_out w).prev ≡ None) (sym f) (ap (λ z. z.prev) remove_link)
          | inr m ↦ prev_elsewhere es es_out ls ls_out ks p c remove_l remove_r k remove_patch remove_l_in remove_r_in x
              m (sym (remove_patch.parents x m) ∙ e)
        ];
        num_lists = rw (
          length-put_last (put_first es p remove_l remove_r) ls p remove_r remove_l,
          length-put_first es
              ls p remove_l remove_r,
        ) k.num_lists;
        num_children = rw (
          length-set (put_prev (put_next ls remove_l remove_r) remove_r remove_l) c no_link,
          remove_length,
        ) k.num_children;
      }
