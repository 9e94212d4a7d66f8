-- Laws of tables, proved beside their words so that the crates above can cite them: what each change does to the slots,
-- and that it keeps what holds of every table. No contract cites this module.
use Rattle.std.proofs.Common.{◌≡◌, ℕ, ◌+◌, ◌-◌, ◌<◌, ◌≤◌, ◌^◌, cond, List, [], ◌∷◌, ◌++◌, length, Option, Some, None}
use Rattle.std.proofs.Common.{is_some, IsSome, inl, inr, refl, sym, ◌∙◌, ap, subst, arith, get_or, set, length-set}
use Rattle.std.proofs.Common.{eq-eqb}
use Rattle.std.proofs.lemmas.Bool.{cases_eq, cases_lt, ne_eqb}
use Rattle.std.proofs.lemmas.List.{get_or-set_same, get_or-set_other, get_or_past, length-append, get_or_append_left}
use Rattle.std.proofs.lemmas.List.{get_or_push}
use Rattle.std.proofs.lemmas.List.Sums.{sum_by-set, sum_by_push}
use Rattle.std.proofs.lemmas.Option.{none-some}
use Rattle.plir_store.specs.Members.{Has, Distinct}
use Rattle.plir_store.specs.Table.{Table, Cell, no_cell, cell_at, content_at, version_at, num_full, next_slot}
use Rattle.plir_store.specs.Table.{slot_after, with_new, with_new_in, without_slot, with_content, IsFreeSlot, IsTable}
use Rattle.plir_store.specs.Table.{MAX_VERSION}

module _ {T : Type 0} where
  full_some : (o : Option T) → IsSome o → ◌≡◌ {A = ℕ} (cond (is_some o) 1 0) 1
  full_some None w = cc
  full_some (Some v) w = refl

  some_none : (o : Option T) → IsSome o → o ≡ None → ⊥
  some_none None w e = cc
  some_none (Some v) w e = none-some v (sym e)

  -- what a slot counts for
  abbrev full : Cell T → ℕ
  full c = cond (is_some c.content) 1 0

  module _ (t : Table T) where
    -- a slot that holds a value is one of the table
    pub within_from_content : (i : ℕ) → IsSome (content_at t i) → i < length t.slots
    within_from_content i some = elim (cases_lt i (length t.slots)) [
      | inl h ↦ h
      | inr h ↦ absurd (some_none (content_at t i) some (ap (λ (z : Cell T). z.content)
          (get_or_past t.slots i no_cell h)))
    ]

    set_count : (i : ℕ) (c : Cell T) → i < length t.slots →
        num_full (record t { slots = set t.slots i c }) + full (cell_at t i) ≡ num_full t + full c
    set_count i c h = sum_by-set full t.slots i c no_cell h

    -- a free slot stays free where another is written
    IsFreeSlot-set : (i x : ℕ) (c : Cell T) (fs : List ℕ) → (x ≡ i → ⊥) → IsFreeSlot t x →
        IsFreeSlot (record { slots = set t.slots i c; free = fs }) x
    IsFreeSlot-set i x c fs n f =
        let e = get_or-set_other t.slots i x c no_cell n in
        record {
          within = rw (length-set t.slots i c) f.within;
          vacant = ap (λ (z : Cell T). z.content) e ∙
              f.vacant;
          usable = subst (λ (z : Cell T). z.version < MAX_VERSION) (sym e) f.usable;
        }

    -- what holds of the version that is written and of each version before holds of each version after
    versions_set : (P : ℕ → Type 0) (i : ℕ) (c : Cell T) → P c.version → ((x : ℕ) → x < length t.slots →
        P (version_at t x)) → (x : ℕ) → x < length (set t.slots i c) → P (get_or (set t.slots i c) x no_cell).version
    versions_set P i c p all x h =
        let h' : x < length t.slots = omega (arith, length-set t.slots i c) in
        elim (cases_eq x i) [
          | inl e ↦ subst (λ z. P (get_or (set t.slots i c) z no_cell).version) (sym e)
              (rw (get_or-set_same t.slots i c no_cell (subst (λ z. z < length t.slots) e h')) p)
          | inr n ↦ rw (get_or-set_other t.slots i x c no_cell n) (all x h')
        ]

    module _ (v : T) where
      new_cell : (fs : List ℕ) → ((i : ℕ) → Has fs i → IsFreeSlot t i) →
          cell_at (with_new_in t v fs) (slot_after (length t.slots) fs) ≡ record
          { version = version_at t (slot_after (length t.slots) fs) + 1; content = Some v }
      new_cell [] each =
          get_or_push t.slots (record { version = 1; content = Some v }) no_cell (length t.slots) refl ∙
          ap (λ (c : Cell T). record { version = c.version + 1; content = Some v })
          (sym (get_or_past t.slots (length t.slots) no_cell (omega arith)))
      new_cell (f ∷ fs) each =
          get_or-set_same t.slots f (record { version = version_at t f + 1; content = Some v }) no_cell
          ((each f (inl refl)).within)

      other_cell : (fs : List ℕ) (j : ℕ) → (j ≡ slot_after (length t.slots) fs → ⊥) →
          cell_at (with_new_in t v fs) j ≡ cell_at t j
      other_cell [] j n = elim (cases_lt j (length t.slots)) [
        | inl h ↦ get_or_append_left t.slots (record { version = 1; content = Some v } ∷ []) no_cell j h
        | inr h ↦
            let past : length (t.slots ++ record { version = 1; content = Some v } ∷ []) ≤ j =
            let m : (j ≡ length t.slots → ⊥) = n in
            elim (cases_lt (length t.slots) j) [
              | inl k ↦ omega (arith, length-append t.slots (record { version = 1; content = Some v } ∷ []))
              | inr k ↦ absurd (m (omega arith))
            ] in
            get_or_past (t.slots ++ record { version = 1; content = Some v } ∷ []) j no_cell past ∙
            sym (get_or_past t.slots j no_cell h)
      ]
      other_cell (f ∷ fs) j n = get_or-set_other t.slots f j (record { version = version_at t f + 1; content = Some v })
          no_cell n

      count_in : (fs : List ℕ) → ((i : ℕ) → Has fs i → IsFreeSlot t i) → num_full (with_new_in t v fs) ≡ num_full t + 1
      count_in [] each = sum_by_push full t.slots (record { version = 1; content = Some v })
      count_in (f ∷ fs) each =
          let was = each f (inl refl) in
          let here : full (cell_at t f) ≡ 0 = rw was.vacant refl in
          omega (arith, set_count f (record { version = version_at t f + 1; content = Some v }) was.within, here)

      versions_push : (P : ℕ → Type 0) → P 1 → ((x : ℕ) → x < length t.slots → P (version_at t x)) → (x : ℕ) →
          x < length (t.slots ++ record { version = 1; content = Some v } ∷ []) → P (version_at (with_new_in t v []) x)
      versions_push P p all x h = elim (cases_eq x (length t.slots)) [
        | inl e ↦ subst (λ (z : Cell T). P z.version)
            (sym (get_or_push t.slots (record { version = 1; content = Some v }) no_cell x (sym e))) p
        | inr n ↦ subst (λ (z : Cell T). P z.version) (sym (other_cell [] x n))
            (all x (omega (arith, n, length-append t.slots (record { version = 1; content = Some v } ∷ []))))
      ]

      whole_in : (fs : List ℕ) → Distinct fs → ((i : ℕ) → Has fs i → IsFreeSlot t i) → IsTable t →
          slot_after (length t.slots) fs < 2 ^ 32 - 1 → num_full t < 2 ^ 32 - 1 → IsTable (with_new_in t v fs)
      whole_in [] a each w room count =
          let c : Cell T = record { version = 1; content = Some v } in
          record {
            apart = tt;
            free_slots = λ i j. absurd j;
            used = versions_push (λ n. 0 < n) (omega arith) w.used;
            bounded = versions_push (λ n. n ≤ MAX_VERSION) (omega arith) w.bounded;
            num_slots = omega (arith, length-append t.slots (c ∷ []));
            num_values = omega (arith, count_in [] each);
          }
      whole_in (f ∷ fs) a each w room count =
          let c : Cell T = record { version = version_at t f + 1; content = Some v } in
          record {
            apart = a.1;
            free_slots = λ i j. IsFreeSlot-set f i c fs (λ q. a.0 (subst (λ z. Has fs z) q j)) (each i (inr j));
            used = versions_set (λ n. 0 < n) f c (omega arith) w.used;
            bounded = versions_set (λ n. n ≤ MAX_VERSION) f c (omega (arith, (each f (inl refl)).usable)) w.bounded;
            num_slots = rw (length-set t.slots f c) w.num_slots;
            num_values = omega (arith, count_in (f ∷ fs) each);
          }

    next_vacant : (fs : List ℕ) → ((i : ℕ) → Has fs i → IsFreeSlot t i) →
        content_at t (slot_after (length t.slots) fs) ≡ None
    next_vacant [] each = ap (λ (c : Cell T). c.content) (get_or_past t.slots (length t.slots) no_cell (omega arith))
    next_vacant (f ∷ fs) each = (each f (inl refl)).vacant

    next_in : (fs : List ℕ) → ((i : ℕ) → Has fs i → IsFreeSlot t i) → slot_after (length t.slots) fs ≤ length t.slots
    next_in [] each = omega arith
    next_in (f ∷ fs) each = omega (arith, (each f (inl refl)).within)

    -- a new value: its slot, the other slots, and the counts
    pub cell_at-with_new_other : (v : T) (j : ℕ) → (j ≡ next_slot t → ⊥) → cell_at (with_new t v) j ≡ cell_at t j
    cell_at-with_new_other v j n = other_cell v t.free j n

    pub cell_at-with_new : (v : T) → IsTable t →
        cell_at (with_new t v) (next_slot t) ≡ record { version = version_at t (next_slot t) + 1; content = Some v }
    cell_at-with_new v w = new_cell v t.free w.free_slots

    pub content_at-next_slot : IsTable t → content_at t (next_slot t) ≡ None
    content_at-next_slot w = next_vacant t.free w.free_slots

    pub next_slot-within : IsTable t → next_slot t ≤ length t.slots
    next_slot-within w = next_in t.free w.free_slots

    pub num_full-with_new : (v : T) → IsTable t → num_full (with_new t v) ≡ num_full t + 1
    num_full-with_new v w = count_in v t.free w.free_slots

    pub IsTable-with_new : (v : T) → IsTable t → next_slot t < 2 ^ 32 - 1 → num_full t < 2 ^ 32 - 1 →
        IsTable (with_new t v)
    IsTable-with_new v w room count = whole_in v t.free w.apart w.free_slots w room count

    -- a slot freed: its version stays, and so do the other slots
    module _ (i : ℕ) (some : IsSome (content_at t i)) where
      abbrev emptied : Cell T
      emptied = record { version = version_at t i; content = None }

      pub cell_at-without_slot : cell_at (without_slot t i) i ≡ record { version = version_at t i; content = None }
      cell_at-without_slot = get_or-set_same t.slots i emptied no_cell (within_from_content i some)

      pub num_full-without_slot : num_full (without_slot t i) + 1 ≡ num_full t
      num_full-without_slot =
          let here : full (cell_at t i) ≡ 1 = full_some (content_at t i) some in
          omega (arith, set_count i emptied (within_from_content i some), here)

      -- no free slot holds a value
      pub free-vacant : IsTable t → Has t.free i → ⊥
      free-vacant w j = some_none (content_at t i) some (w.free_slots i j).vacant

      IsTable-emptied : (fs : List ℕ) → Distinct fs →
          ((x : ℕ) → Has fs x → IsFreeSlot (record { slots = set t.slots i emptied; free = fs }) x) → IsTable t →
          IsTable (record { slots = set t.slots i emptied; free = fs })
      IsTable-emptied fs a each w = record {
        apart = a;
        free_slots = each;
        used = versions_set (λ n. 0 < n) i emptied (w.used i (within_from_content i some)) w.used;
        bounded = versions_set (λ n. n ≤ MAX_VERSION) i emptied (w.bounded i (within_from_content i some)) w.bounded;
        num_slots = rw (length-set t.slots i emptied) w.num_slots;
        num_values = omega (arith, num_full-without_slot, w.num_values);
      }

      others_free : IsTable t → (fs : List ℕ) (x : ℕ) → Has t.free x →
          IsFreeSlot (record { slots = set t.slots i emptied; free = fs }) x
      others_free w fs x j = IsFreeSlot-set i x emptied fs (λ q. free-vacant w (subst (λ z. Has t.free z) q j))
          (w.free_slots x j)

      -- whether its last version is used up
      pub IsTable-freed : IsTable t → version_at t i < MAX_VERSION →
          IsTable (record { slots = set t.slots i emptied; free = i ∷ t.free })
      IsTable-freed w small =
          let here : IsFreeSlot (record { slots = set t.slots i emptied; free = i ∷ t.free }) i = record {
            within = rw (length-set t.slots i emptied) (within_from_content i some);
            vacant = ap (λ (z : Cell T). z.content) cell_at-without_slot;
            usable = subst (λ (z : Cell T). z.version < MAX_VERSION) (sym cell_at-without_slot) small;
          } in
          IsTable-emptied (i ∷ t.free) (free-vacant w, w.apart) (λ x j. elim j [
            | inl e ↦ subst (λ z. IsFreeSlot (record { slots = set t.slots i emptied; free = i ∷ t.free }) z) e here
            | inr k ↦ others_free w (i ∷ t.free) x k
          ]) w

      pub IsTable-retired : IsTable t → IsTable (record { slots = set t.slots i emptied; free = t.free })
      IsTable-retired w = IsTable-emptied t.free w.apart (others_free w t.free) w

    pub cell_at-without_slot_other : (i j : ℕ) → (j ≡ i → ⊥) → cell_at (without_slot t i) j ≡ cell_at t j
    cell_at-without_slot_other i j n =
        get_or-set_other t.slots i j (record { version = version_at t i; content = None }) no_cell n

    -- a value replaced
    pub cell_at-with_content : (i : ℕ) (v : T) → i < length t.slots →
        cell_at (with_content t i v) i ≡ record { version = version_at t i; content = Some v }
    cell_at-with_content i v h = get_or-set_same t.slots i (record { version = version_at t i; content = Some v })
        no_cell h

    pub cell_at-with_content_other : (i : ℕ) (v : T) (j : ℕ) → (j ≡ i → ⊥) →
        cell_at (with_content t i v) j ≡ cell_at t j
    cell_at-with_content_other i v j n =
        get_or-set_other t.slots i j (record { version = version_at t i; content = Some v }) no_cell n

    pub num_full-with_content : (i : ℕ) (v : T) → IsSome (content_at t i) → num_full (with_content t i v) ≡ num_full t
    num_full-with_content i v some =
        let here : full (cell_at t i) ≡ 1 = full_some (content_at t i) some in
        omega (
          arith,
          set_count i (record { version = version_at t i; content = Some v }) (within_from_content i some),
          here,
        )

    pub IsTable-with_content : (i : ℕ) (v : T) → IsSome (content_at t i) → IsTable t → IsTable (with_content t i v)
    IsTable-with_content i v some w =
        let c : Cell T = record { version = version_at t i; content = Some v } in
        record {
          apart = w.apart;
          free_slots = λ x j. IsFreeSlot-set i x c t.free (λ q. free-vacant i some w (subst (λ z. Has t.free z) q j))
              (w.free_slots x j);
          used = versions_set (λ n. 0 < n) i c (w.used i (within_from_content i some)) w.used;
          bounded = versions_set (λ n. n ≤ MAX_VERSION) i c (w.bounded i (within_from_content i some)) w.bounded;
          num_slots = rw (length-set t.slots i c) w.num_slots;
          num_values = rw (num_full-with_content i v some) w.num_values;
        }

pub IsTable-without_slot : {T : Type 0} (t : Table T) (i : ℕ) → IsSome (content_at t i) → IsTable t →
    IsTable (without_slot t i)
IsTable-without_slot t i some w = elim (cases_eq (version_at t i) MAX_VERSION) [
  | inl e ↦ rw (eq-eqb (version_at t i) MAX_VERSION e) (IsTable-retired t i some w)
  | inr n ↦
      let most = w.bounded i (within_from_content t i some) in
      rw (ne_eqb (version_at t i) MAX_VERSION n) (IsTable-freed t i some w (omega (arith, n, most)))
]
