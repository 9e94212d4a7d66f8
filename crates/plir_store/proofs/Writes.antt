-- What is read from the links and the ends after a write.
use Rattle.std.proofs.Common.{◌≡◌, ℕ, zero, suc, ◌<◌, List, [], ◌∷◌, length, Option, Some, None, IfSome, inl, inr, refl}
use Rattle.std.proofs.Common.{sym, ◌∙◌, ap, get_or, set, length-set}
use Rattle.std.proofs.lemmas.Bool.{cases_lt}
use Rattle.std.proofs.lemmas.List.{get_or-set_same, get_or-set_other, get_or_past}
use Rattle.std.proofs.lemmas.Option.{none-some}
use Rattle.plir_store.specs.declared.chains.Link.{Link}
use Rattle.plir_store.specs.declared.chains.Ends.{Ends}
use Rattle.plir_store.specs.Links.{no_link, no_ends, link_at, ends_at, after, before, put_first, put_last, put_next}
use Rattle.plir_store.specs.Links.{put_prev}

-- a write that keeps f of the element keeps f of each element
pub field-set : {X Y : Type 0} (f : X → Y) (xs : List X) (i j : ℕ) (y d : X) → f y ≡ f (get_or xs i d) → f
    (get_or (set xs i y) j d) ≡ f (get_or xs j d)
field-set f [] i j y d e = refl
field-set f (x ∷ xs) zero zero y d e = e
field-set f (x ∷ xs) zero (suc j) y d e = refl
field-set f (x ∷ xs) (suc i) zero y d e = refl
field-set f (x ∷ xs) (suc i) (suc j) y d e = field-set f xs i j y d e

module _ (es : List Ends) (ls : List Link) (p : ℕ) where
  pub after_put_same : (a v : Option ℕ) → p < length es → IfSome a
      (λ x. x < length ls) → after (put_first es p a v) (put_next ls a v) p a ≡ v
  after_put_same None v h k = ap (λ e. e.first) (get_or-set_same es p (record (ends_at es p) { first = v }) no_ends h)
  after_put_same (Some x) v h k = ap (λ l. l.next) (get_or-set_same ls x (record (link_at ls x) { next = v }) no_link k)

  pub after_put_other : (q : ℕ) (a v k : Option ℕ) → (k ≡ a → ⊥) → after (put_first es p a v) (put_next ls a v) q k ≡
      after es ls q k
  after_put_other q None v None n = absurd (n refl)
  after_put_other q None v (Some x) n = refl
  after_put_other q (Some y) v None n = refl
  after_put_other q (Some y) v (Some x) n =
      ap (λ l. l.next) (get_or-set_other ls y x (record (link_at ls y) { next = v }) no_link (λ e. n (ap Some e)))

  pub after_put_elsewhere : (q : ℕ) (a v : Option ℕ) → (q ≡ p → ⊥) → after (put_first es p a v) (put_next ls a v) q None
      ≡ after es ls q None
  after_put_elsewhere q None v n = ap (λ e. e.first) (get_or-set_other es p q (record (ends_at es p) { first = v })
      no_ends n)
  after_put_elsewhere q (Some y) v n = refl

  pub after_put_back : (q : ℕ) (a v k : Option ℕ) → after (put_last es p a v) (put_prev ls a v) q k ≡ after es ls q k
  after_put_back q None v None = field-set (λ e. e.first) es p q (record (ends_at es p) { last = v }) no_ends refl
  after_put_back q None v (Some x) = refl
  after_put_back q (Some y) v None = refl
  after_put_back q (Some y) v (Some x) = field-set (λ l. l.next) ls y x (record (link_at ls y) { prev = v }) no_link
      refl

  pub before_put_same : (a v : Option ℕ) → p < length es → IfSome a
      (λ x. x < length ls) → before (put_last es p a v) (put_prev ls a v) p a ≡ v
  before_put_same None v h k = ap (λ e. e.last) (get_or-set_same es p (record (ends_at es p) { last = v }) no_ends h)
  before_put_same (Some x) v h k = ap (λ l. l.prev) (get_or-set_same ls x (record (link_at ls x) { prev = v }) no_link
      k)

  pub before_put_other : (q : ℕ) (a v k : Option ℕ) → (k ≡ a → ⊥) → before (put_last es p a v) (put_prev ls a v) q k ≡
      before es ls q k
  before_put_other q None v None n = absurd (n refl)
  before_put_other q None v (Some x) n = refl
  before_put_other q (Some y) v None n = refl
  before_put_other q (Some y) v (Some x) n =
      ap (λ l. l.prev) (get_or-set_other ls y x (record (link_at ls y) { prev = v }) no_link (λ e. n (ap Some e)))

  pub before_put_elsewhere : (q : ℕ) (a v : Option ℕ) → (q ≡ p → ⊥) → before (put_last es p a v) (put_prev ls a v) q
      None ≡ before es ls q None
  before_put_elsewhere q None v n = ap (λ e. e.last) (get_or-set_other es p q (record (ends_at es p) { last = v })
      no_ends n)
  before_put_elsewhere q (Some y) v n = refl

  pub before_put_front : (q : ℕ) (a v k : Option ℕ) → before (put_first es p a v) (put_next ls a v) q k ≡ before es ls q
      k
  before_put_front q None v None = field-set (λ e. e.last) es p q (record (ends_at es p) { first = v }) no_ends refl
  before_put_front q None v (Some x) = refl
  before_put_front q (Some y) v None = refl
  before_put_front q (Some y) v (Some x) = field-set (λ l. l.prev) ls y x (record (link_at ls y) { next = v }) no_link
      refl

  pub length-put_first : (a v : Option ℕ) → length (put_first es p a v) ≡ length es
  length-put_first None v = length-set es p _
  length-put_first (Some x) v = refl

  pub length-put_last : (a v : Option ℕ) → length (put_last es p a v) ≡ length es
  length-put_last None v = length-set es p _
  length-put_last (Some x) v = refl

module _ (es : List Ends) (ls : List Link) (c : ℕ) (l : Link) where
  pub after_set_other : (q : ℕ) (k : Option ℕ) → (k ≡ Some c → ⊥) → after es (set ls c l) q k ≡ after es ls q k
  after_set_other q None n = refl
  after_set_other q (Some x) n = ap (λ z. z.next) (get_or-set_other ls c x l no_link (λ e. n (ap Some e)))

  pub before_set_other : (q : ℕ) (k : Option ℕ) → (k ≡ Some c → ⊥) → before es (set ls c l) q k ≡ before es ls q k
  before_set_other q None n = refl
  before_set_other q (Some x) n = ap (λ z. z.prev) (get_or-set_other ls c x l no_link (λ e. n (ap Some e)))

module _ (ls : List Link) where
  pub parent_put_next : (a v : Option ℕ) (x : ℕ) → (link_at (put_next ls a v) x).parent ≡ (link_at ls x).parent
  parent_put_next None v x = refl
  parent_put_next (Some y) v x = field-set (λ l. l.parent) ls y x (record (link_at ls y) { next = v }) no_link refl

  pub parent_put_prev : (a v : Option ℕ) (x : ℕ) → (link_at (put_prev ls a v) x).parent ≡ (link_at ls x).parent
  parent_put_prev None v x = refl
  parent_put_prev (Some y) v x = field-set (λ l. l.parent) ls y x (record (link_at ls y) { prev = v }) no_link refl

  pub length-put_next : (a v : Option ℕ) → length (put_next ls a v) ≡ length ls
  length-put_next None v = refl
  length-put_next (Some y) v = length-set ls y _

  pub length-put_prev : (a v : Option ℕ) → length (put_prev ls a v) ≡ length ls
  length-put_prev None v = refl
  length-put_prev (Some y) v = length-set ls y _

  -- what has a parent is within
  pub within_from_parent : (x p : ℕ) → (link_at ls x).parent ≡ Some p → x < length ls
  within_from_parent x p e = elim (cases_lt x (length ls)) [
    | inl h ↦ h
    | inr h ↦ absurd (none-some p (ap (λ l. l.parent) (sym (get_or_past ls x no_link h)) ∙ e))
  ]
