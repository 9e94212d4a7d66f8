-- How each change of the places keeps the versions, the values and the list of free slots.
use Rattle.std.proofs.Common.{◌≡◌, ℕ, zero, suc, ◌+◌, ◌-◌, ◌<◌, ◌≤◌, ◌^◌, true, false, ◌&&◌, is_some, List, [], ◌∷◌}
use Rattle.std.proofs.Common.{◌++◌, length, Option, Some, None, IsSome, inl, inr, refl, sym, ◌∙◌, ap, subst, arith}
use Rattle.std.proofs.Common.{get_or, set, length-set, eq-eqb}
use Rattle.std.proofs.lemmas.List.{get_or-set_same, get_or-set_other, get_or_read, get_or_past, length_push}
use Rattle.std.proofs.lemmas.Option.{same_Some, none-some}
use Rattle.std.proofs.lemmas.Bool.{ne_eqb}
use Rattle.plir_store.specs.Members.{Has, Distinct}
use Rattle.plir_store.specs.Links.{walk}
use Rattle.plir_store.specs.declared.slots.Place.{Place}
use Rattle.plir_store.specs.declared.slots.Place.TheVariants.{Vacant, Full}
use Rattle.plir_store.specs.Table.{Table, Cell, no_cell, cell_at, content_at, version_at, is_live_at, num_full}
use Rattle.plir_store.specs.Table.{next_slot, slot_after, with_new, with_new_in, without_slot, with_content, IsTable}
use Rattle.plir_store.specs.Table.{MAX_VERSION}
use Rattle.plir_store.specs.Places.{Leads, content_of, link_of, place_at, cells_of, next_free, free_of, table_of}
use Rattle.plir_store.specs.Places.{IsSound}
use Rattle.plir_store.specs.ListLaws.{length-le_from_Distinct}
use Rattle.plir_store.specs.TableLaws.{within_from_content, free-vacant, num_full-with_new, num_full-without_slot}
use Rattle.plir_store.specs.TableLaws.{num_full-with_content, IsTable-with_new, IsTable-freed, IsTable-retired}
use Rattle.plir_store.specs.TableLaws.{IsTable-with_content}

Leads-frame : (next next' : ℕ → Option ℕ) (a : Option ℕ) (xs : List ℕ) → ((x : ℕ) → Has xs x → next' x ≡ next x) → Leads
    next a xs → Leads next' a xs
Leads-frame next next' a [] same l = l
Leads-frame next next' a (x ∷ xs) same l = (
  l.0,
  subst (λ o. Leads next' o xs) (sym (same x (inl refl))) (Leads-frame next next' (next x) xs
      (λ y i. same y (inr i)) l.1),
)

Leads-walk : (next : ℕ → Option ℕ) (n : ℕ) (a : Option ℕ) (xs : List ℕ) → Leads next a xs → length xs ≤ n → walk n next
    a ≡ xs
Leads-walk next zero a [] l h = refl
Leads-walk next (suc n) a [] l h = rw l refl
Leads-walk next zero a (x ∷ xs) l h = absurd (omega arith)
Leads-walk next (suc n) a (x ∷ xs) l h = rw l.0 (ap (λ ws. x ∷ ws) (Leads-walk next n (next x) xs l.1 (omega arith)))

-- what a head says of the list
Leads-none : (next : ℕ → Option ℕ) (xs : List ℕ) → Leads next None xs → xs ≡ []
Leads-none next [] l = refl
Leads-none next (x ∷ xs) l = absurd (none-some x l.0)

pub record Headed (next : ℕ → Option ℕ) (f : ℕ) (xs : List ℕ) : Type 0 where
  pub rest : List ℕ
  pub whole : xs ≡ f ∷ rest
  pub leads : Leads next (next f) rest

Leads-some : (next : ℕ → Option ℕ) (f : ℕ) (xs : List ℕ) → Leads next (Some f) xs → Headed next f xs
Leads-some next f [] l = absurd (none-some f (sym l))
Leads-some next f (x ∷ xs) l =
    let e : x ≡ f = sym (same_Some f x l.0) in
    record { rest = xs; whole = ap (λ z. z ∷ xs) e; leads = subst (λ z. Leads next (next z) xs) e l.1 }

module _ {T : Type 0} where
  -- the cells of the versions and the places, after each kind of write
  pub length-cells_of : (vs : List ℕ) (ps : List (Place T)) → length vs ≡ length ps → length (cells_of vs ps) ≡ length
      ps
  length-cells_of [] [] e = refl
  length-cells_of [] (p ∷ ps) e = absurd (omega arith)
  length-cells_of (v ∷ vs) [] e = refl
  length-cells_of (v ∷ vs) (p ∷ ps) e = ap suc (length-cells_of vs ps (omega arith))

  pub get_or-cells_of : (vs : List ℕ) (ps : List (Place T)) (i : ℕ) → length vs ≡ length ps → get_or (cells_of vs ps) i
      no_cell ≡ record { version = get_or vs i 0; content = content_of (place_at ps i) }
  get_or-cells_of [] [] i e = refl
  get_or-cells_of [] (p ∷ ps) i e = absurd (omega arith)
  get_or-cells_of (v ∷ vs) [] i e = absurd (omega arith)
  get_or-cells_of (v ∷ vs) (p ∷ ps) zero e = refl
  get_or-cells_of (v ∷ vs) (p ∷ ps) (suc i) e = get_or-cells_of vs ps i (omega arith)

  cells_of-set : (vs : List ℕ) (ps : List (Place T)) (i v : ℕ) (p : Place T) → cells_of (set vs i v) (set ps i p) ≡ set
      (cells_of vs ps) i (record { version = v; content = content_of p })
  cells_of-set [] ps i v p = refl
  cells_of-set (w ∷ vs) [] zero v p = refl
  cells_of-set (w ∷ vs) [] (suc i) v p = refl
  cells_of-set (w ∷ vs) (q ∷ ps) zero v p = refl
  cells_of-set (w ∷ vs) (q ∷ ps) (suc i) v p = ap (λ cs. record { version = w; content = content_of q } ∷ cs)
      (cells_of-set vs ps i v p)

  cells_of-set_place : (vs : List ℕ) (ps : List (Place T)) (i : ℕ) (p : Place T) → cells_of vs (set ps i p) ≡ set
      (cells_of vs ps) i (record { version = get_or vs i 0; content = content_of p })
  cells_of-set_place [] ps i p = refl
  cells_of-set_place (w ∷ vs) [] i p = refl
  cells_of-set_place (w ∷ vs) (q ∷ ps) zero p = refl
  cells_of-set_place (w ∷ vs) (q ∷ ps) (suc i) p = ap (λ cs. record { version = w; content = content_of q } ∷ cs)
      (cells_of-set_place vs ps i p)

  cells_of-push : (vs : List ℕ) (ps : List (Place T)) (v : ℕ) (p : Place T) → length vs ≡ length ps → cells_of
      (vs ++ v ∷ []) (ps ++ p ∷ []) ≡ cells_of vs ps ++ record { version = v; content = content_of p } ∷ []
  cells_of-push [] [] v p e = refl
  cells_of-push [] (q ∷ ps) v p e = absurd (omega arith)
  cells_of-push (w ∷ vs) [] v p e = absurd (omega arith)
  cells_of-push (w ∷ vs) (q ∷ ps) v p e = ap (λ cs. record { version = w; content = content_of q } ∷ cs)
      (cells_of-push vs ps v p (omega arith))

  -- the fields are sound, and this is their table
  pub record IsSlots (vs : List ℕ) (ps : List (Place T)) (head : Option ℕ) (live : ℕ) (t : Table T) : Type 0 where
    pub sound : IsSound vs ps head live
    pub view : table_of vs ps head ≡ t

  IsSlots-from : (vs : List ℕ) (ps : List (Place T)) (head : Option ℕ) (live : ℕ) (t : Table T) → length vs ≡ length ps
      → Leads (next_free ps) head t.free → cells_of vs ps ≡ t.slots → IsTable t → live ≡ num_full t → IsSlots vs ps head
      live t
  IsSlots-from vs ps head live t many l slots w count =
      let n : length t.slots ≡ length ps = ap length (sym slots) ∙ length-cells_of vs ps many in
      let e : free_of ps head ≡ t.free =
      Leads-walk (next_free ps) (length ps) head t.free l (length-le_from_Distinct t.free (length ps) w.apart
      (λ x i. let h = (w.free_slots x i).within in omega (arith, n))) in
      let view : table_of vs ps head ≡ t = rw (slots, e) refl in
      record {
        sound = record {
          as_many = many;
          leads = rw e l;
          whole = subst IsTable (sym view) w;
          counted = count ∙ ap
              num_full (sym view);
        };
        view = view;
      }

  module _ (vs : List ℕ) (ps : List (Place T)) (head : Option ℕ) (live : ℕ) (t : Table T) (k : IsSound vs ps head live)
      (view : table_of vs ps head ≡ t) where
    pub whole_now : IsTable t
    whole_now = subst IsTable view k.whole

    pub counted_now : live ≡ num_full t
    counted_now = k.counted ∙ ap num_full view

    pub slots_length : length t.slots ≡ length ps
    slots_length = ap (λ z. length z.slots) (sym view) ∙ length-cells_of vs ps k.as_many

    pub cell_now : (i : ℕ) → cell_at t i ≡ record { version = get_or vs i 0; content = content_of (place_at ps i) }
    cell_now i = ap (λ z. cell_at z i) (sym view) ∙ get_or-cells_of vs ps i k.as_many

    pub version_now : (i : ℕ) → version_at t i ≡ get_or vs i 0
    version_now i = ap (λ (c : Cell T). c.version) (cell_now i)

    pub content_now : (i : ℕ) → content_at t i ≡ content_of (place_at ps i)
    content_now i = ap (λ (c : Cell T). c.content) (cell_now i)

    -- what is read at a slot
    pub versions_within : (i : ℕ) → i < length t.slots → i < length vs
    versions_within i h = omega (arith, slots_length, k.as_many)

    pub place_read : (i : ℕ) (p : Place T) → i < length ps → p ≡ get_or ps i p → p ≡ place_at ps i
    place_read i p h e = get_or_read ps i p h e (Vacant None)

    pub content_read : (i : ℕ) (p : Place T) → i < length ps → p ≡ get_or ps i p → content_at t i ≡ content_of p
    content_read i p h e = content_now i ∙ ap content_of (sym (place_read i p h e))

    pub version_read : (i n : ℕ) → i < length vs → n ≡ get_or vs i n → get_or vs i 0 ≡ n
    version_read i n h e = sym (get_or_read vs i n h e 0)

    -- whether a slot holds the value that it got under a version
    pub live_past : (i v : ℕ) → length vs ≤ i → false ≡ is_live_at t i v
    live_past i v h =
        let e : content_at t i ≡ None = ap (λ (c : Cell T). c.content) (get_or_past t.slots i no_cell
        (omega (arith, slots_length, k.as_many))) in
        rw e refl

    pub live_other : (i v n : ℕ) → i < length vs → n ≡ get_or vs i n → (n ≡ v → ⊥) → false ≡ is_live_at t i v
    live_other i v n h read other =
        let e : version_at t i ≡ n = version_now i ∙ version_read i n h read in
        rw (e, ne_eqb n v other) (elim (is_some (content_at t i)) as
        (λ b. false ≡ (b && false)) [ true ↦ refl | false ↦ refl ])

    pub live_vacant : (i v : ℕ) (p : Place T) → i < length vs → p ≡ get_or ps i p → content_of p ≡ None → false ≡
        is_live_at t i v
    live_vacant i v p h read vacant = rw (content_read i p (omega (arith, k.as_many)) read ∙ vacant) refl

    pub live_full : (i v n : ℕ) (p : Place T) (value : T) → i < length vs → n ≡ get_or vs i n → p ≡ get_or ps i p →
        content_of p ≡ Some value → n ≡ v → true ≡ is_live_at t i v
    live_full i v n p value h read_n read_p full same =
        let e : version_at t i ≡ n = version_now i ∙ version_read i n h read_n in
        rw (content_read i p (omega (arith, k.as_many)) read_p ∙ full, e, eq-eqb n v same) refl

    slots_now : cells_of vs ps ≡ t.slots
    slots_now = ap (λ z. z.slots) view

    leads_now : Leads (next_free ps) head t.free
    leads_now = subst (λ z. Leads (next_free ps) head z.free) view k.leads

    free_headed : (f : ℕ) → head ≡ Some f → Headed (next_free ps) f t.free
    free_headed f e = Leads-some (next_free ps) f t.free (subst (λ o. Leads (next_free ps) o t.free) e leads_now)

    pub none_free : head ≡ None → t.free ≡ []
    none_free e = Leads-none (next_free ps) t.free (subst (λ o. Leads (next_free ps) o t.free) e leads_now)

    pub head_is : (f : ℕ) → head ≡ Some f → f ≡ next_slot t
    head_is f e = ap (slot_after (length t.slots)) (sym (free_headed f e).whole)

    -- the first free slot is one of the table, and its version can be raised
    pub head_within : (f : ℕ) → head ≡ Some f → f < length ps
    head_within f e =
        let h = free_headed f e in
        let was = whole_now.free_slots f (rw h.whole (inl refl)) in
        let in' = was.within in
        omega (arith, slots_length)

    pub head_usable : (f : ℕ) → head ≡ Some f → get_or vs f 0 < MAX_VERSION
    head_usable f e =
        let h = free_headed f e in
        rw (← version_now f) ((whole_now.free_slots f (rw h.whole (inl refl))).usable)

    -- a value goes into the first free slot
    pub reused_done : (f : ℕ) (v : T) (next : Option ℕ) → head ≡ Some f → next ≡ next_free ps f → next_slot t < 2 ^ 32 -
        1 → num_full t < 2 ^ 32 - 1 → IsSlots (set vs f (get_or vs f 0 + 1)) (set ps f (Full v)) next (live + 1)
        (with_new t v)
    reused_done f v next e link room count =
        let h = free_headed f e in
        let new : with_new t v ≡ with_new_in t v (f ∷ h.rest) = ap (with_new_in t v) h.whole in
        let whole : IsTable (with_new_in t v (f ∷ h.rest)) = subst IsTable new (IsTable-with_new t v whole_now room
        count) in
        let apart : Distinct (f ∷ h.rest) = subst Distinct h.whole whole_now.apart in
        let slots : cells_of (set vs f (get_or vs f 0 + 1)) (set ps f (Full v)) ≡ set t.slots f
        (record { version = version_at t f + 1; content = Some v }) =
        cells_of-set vs ps f (get_or vs f 0 + 1) (Full v) ∙ ap (λ z. set z f (record
        { version = get_or vs f 0 + 1; content = Some v })) slots_now ∙ ap (λ (n : ℕ). set t.slots f
        (record { version = n + 1; content = Some v })) (sym (version_now f)) in
        let l : Leads (next_free (set ps f (Full v))) next h.rest =
        subst (λ o. Leads (next_free (set ps f (Full v))) o h.rest) (sym link)
        (Leads-frame (next_free ps) (next_free (set ps f (Full v))) (next_free ps f) h.rest
        (λ y i. ap link_of (get_or-set_other ps f y (Full v) (Vacant None) (λ q. apart.0
        (subst (λ z. Has h.rest z) q i)))) h.leads) in
        subst (λ z. IsSlots (set vs f (get_or vs f 0 + 1)) (set ps f (Full v)) next (live + 1) z) (sym new)
        (IsSlots-from (set vs f (get_or vs f 0 + 1)) (set ps f (Full v)) next (live + 1) (with_new_in t v (f ∷ h.rest))
        (length-set vs f _ ∙ k.as_many ∙ sym (length-set ps f _)) l slots whole
        (omega (arith, counted_now, num_full-with_new t v whole_now, ap num_full new)))

    pub reused_read : (f n : ℕ) (p s : Place T) (v : T) (next : Option ℕ) → head ≡ Some f → n ≡ get_or vs f n → p ≡
        get_or ps f p → s ≡ Full v → next ≡ link_of p → next_slot t < 2 ^ 32 - 1 → num_full t < 2 ^ 32 - 1 → IsSlots
        (set vs f (n + 1)) (set ps f s) next (live + 1) (with_new t v)
    reused_read f n p s v next e read_n read_p new link room count =
        let h = head_within f e in
        rw (new, ← version_read f n (omega (arith, k.as_many)) read_n)
        (reused_done f v next e (link ∙ ap link_of (place_read f p h read_p)) room count)

    -- a value goes into a new slot
    pub pushed_done : (v : T) → head ≡ None → next_slot t < 2 ^ 32 - 1 → num_full t < 2 ^ 32 - 1 → IsSlots
        (vs ++ 1 ∷ []) (ps ++ Full v ∷ []) head (live + 1) (with_new t v)
    pushed_done v e room count =
        let new : with_new t v ≡ with_new_in t v [] = ap (with_new_in t v) (none_free e) in
        let slots : cells_of (vs ++ 1 ∷ []) (ps ++ Full v ∷ []) ≡ t.slots ++ record { version = 1; content = Some v } ∷
        [] =
        cells_of-push vs ps 1 (Full v) k.as_many ∙ ap (λ z. z ++ record { version = 1; content = Some v } ∷ [])
        slots_now in
        subst (λ z. IsSlots (vs ++ 1 ∷ []) (ps ++ Full v ∷ []) head (live + 1) z) (sym new)
        (IsSlots-from (vs ++ 1 ∷ []) (ps ++ Full v ∷ []) head (live + 1) (with_new_in t v [])
        (omega (arith, length_push vs 1, length_push ps (Full v), k.as_many)) e slots
        (subst IsTable new (IsTable-with_new t v whole_now room count))
        (omega (arith, counted_now, num_full-with_new t v whole_now, ap num_full new)))

    module _ (i : ℕ) (some : IsSome (content_at t i)) where
      pub slot_within : i < length ps
      slot_within = let h = within_from_content t i some in omega (arith, slots_length)

      pub place_full : (p : Place T) → p ≡ get_or ps i p → IsSome (content_of p)
      place_full p e = subst IsSome (content_read i p slot_within e) some

      off_free : (p : Place T) (x : ℕ) → Has t.free x → next_free (set ps i p) x ≡ next_free ps x
      off_free p x j = ap link_of (get_or-set_other ps i x p (Vacant None)
          (λ q. free-vacant t i some whole_now (subst (λ z. Has t.free z) q j)))

      leads_past : (p : Place T) → Leads (next_free (set ps i p)) head t.free
      leads_past p = Leads-frame (next_free ps) (next_free (set ps i p)) head t.free (off_free p) leads_now

      slots_set : (p : Place T) → cells_of vs (set ps i p) ≡ set t.slots i (record
          { version = version_at t i; content = content_of p })
      slots_set p =
          cells_of-set_place vs ps i p ∙ ap (λ z. set z i (record { version = get_or vs i 0; content = content_of p }))
          slots_now ∙ ap (λ (n : ℕ). set t.slots i (record { version = n; content = content_of p }))
          (sym (version_now i))

      many_set : (p : Place T) → length vs ≡ length (set ps i p)
      many_set p = k.as_many ∙ sym (length-set ps i p)

      -- a value is taken out, and its slot is the next to be used
      pub freed_done : get_or vs i 0 < MAX_VERSION → IsSlots vs (set ps i (Vacant head)) (Some i) (live - 1)
          (without_slot t i)
      freed_done small =
          let small' : version_at t i < MAX_VERSION = rw (version_now i) small in
          let test = ne_eqb (version_at t i) MAX_VERSION (λ q. omega (arith, small')) in
          let link : next_free (set ps i (Vacant head)) i ≡ head = ap link_of (get_or-set_same ps i (Vacant head)
          (Vacant None) slot_within) in
          let l : Leads (next_free (set ps i (Vacant head))) (Some i) (i ∷ t.free) = (
            refl,
            subst (λ o. Leads (next_free (set ps i (Vacant head))) o t.free) (sym link)
                (leads_past (Vacant head)),
          ) in
          rw test
          (IsSlots-from vs (set ps i (Vacant head)) (Some i) (live - 1) (record {
            slots = set t.slots i
                (record { version = version_at t i; content = None });
            free = i ∷ t.free;
          }) (many_set (Vacant head)) l
          (slots_set (Vacant head)) (IsTable-freed t i some whole_now small')
          (omega (arith, counted_now, num_full-without_slot t i some)))

      -- a value is taken out, and its slot is not used again
      pub retired_done : get_or vs i 0 ≡ MAX_VERSION → IsSlots vs (set ps i (Vacant head)) head (live - 1)
          (without_slot t i)
      retired_done last =
          let test = eq-eqb (version_at t i) MAX_VERSION (version_now i ∙ last) in
          rw test
          (IsSlots-from vs (set ps i (Vacant head)) head (live - 1) (record {
            slots = set t.slots i
                (record { version = version_at t i; content = None });
            free = t.free;
          }) (many_set (Vacant head))
          (leads_past (Vacant head)) (slots_set (Vacant head)) (IsTable-retired t i some whole_now)
          (omega (arith, counted_now, num_full-without_slot t i some)))

      pub freed_read : (n : ℕ) (s : Place T) (next : Option ℕ) → n ≡ get_or vs i n → s ≡ Vacant head → next ≡ Some i →
          n < MAX_VERSION → IsSlots vs (set ps i s) next (live - 1) (without_slot t i)
      freed_read n s next read new link small =
          let e = version_read i n (omega (arith, slot_within, k.as_many)) read in
          rw (new, link) (freed_done (omega (arith, e)))

      pub retired_read : (n : ℕ) (s : Place T) → n ≡ get_or vs i n → s ≡ Vacant head → MAX_VERSION ≤ n → IsSlots vs
          (set ps i s) head (live - 1) (without_slot t i)
      retired_read n s read new last =
          let e = version_read i n (omega (arith, slot_within, k.as_many)) read in
          let most = whole_now.bounded i (within_from_content t i some) in
          rw new (retired_done (omega (arith, e, most, version_now i)))

      -- a value is replaced
      pub rewritten_done : (v : T) → IsSlots vs (set ps i (Full v)) head live (with_content t i v)
      rewritten_done v =
          IsSlots-from vs (set ps i (Full v)) head live (with_content t i v) (many_set (Full v)) (leads_past (Full v))
          (slots_set (Full v)) (IsTable-with_content t i v some whole_now) (counted_now ∙ sym
          (num_full-with_content t i v some))
