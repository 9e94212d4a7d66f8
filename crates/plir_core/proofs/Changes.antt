-- The live nodes stay a forest under each change.
use Rattle.std.proofs.Common.{length-set, ◌≡◌, ℕ, ◌+◌, ◌<◌, ◌^◌, [], Option, Some, None, IsSome, ◌⊎◌, inl, inr, refl}
use Rattle.std.proofs.Common.{sym, ◌∙◌, ap, subst, arith}
use Rattle.std.specs.Prelude.{option_map}
use Rattle.std.proofs.lemmas.Bool.{cases_eq}
use Rattle.std.proofs.lemmas.List.{get_or-set_same, get_or-set_other}
use Rattle.plir_store.specs.TableLaws.{IsTable-with_content, num_full-with_content}
use Rattle.std.proofs.lemmas.Option.{none-some}
use Rattle.plir_store.specs.Lists.{Lists, IsAgreed, parent_at, with_last}
use Rattle.plir_store.specs.Table.{Table, Cell, no_cell, IsTable, content_at, version_at, num_full, next_slot, with_new}
use Rattle.plir_store.specs.Table.{with_content}
use Rattle.plir_core.specs.declared.ptr.Region.{Region as RegionKind}
use Rattle.plir_core.specs.Above.{Reaches}
use Rattle.plir_core.specs.Nodes.{Nodes, num_nodes}
use Rattle.plir_core.specs.Stored.{Seat, op, region, block, up, IsListing, IsStored}
use Rattle.plir_core.specs.Edits.{IsFilled, room_child, room_list, with_new_op, with_new_block, with_new_region}
use Rattle.plir_core.proofs.Climbs.{climb_to, IsGrounded-cut, IsGrounded-same, IsGrounded-link}
use Rattle.plir_core.proofs.Listing.{IsMoved, IsMoved-last, IsListing-child, IsListing-parent, IsListing-link}
use Rattle.plir_core.proofs.Listing.{IsListing-unlink, parent_at-room_child, parent_at-room_list, some_none}
use Rattle.plir_core.proofs.Listing.{content_new_other, within_content}

module _ {O B : Type 0} where
  pub IsStored-empty : (n : ℕ) → n < 2 ^ 32 → IsStored {O = O} {B = B} (record {
    ops = record { slots = []; free = [] };
    regions = record { slots = []; free = [] };
    blocks = record { slots = []; free = [] };
    regions_in_op = record
        { children = []; parents = [] };
    blocks_in_region = record { children = []; parents = [] };
    ops_in_block = record
        { children = []; parents = [] };
    limit = n;
  })
  IsStored-empty n h = record {
    regions_listed = nothing;
    blocks_listed = nothing;
    ops_listed = nothing;
    regions_owned = λ r e. cc;
    grounded = record { height = 1; ends = elim [ op i ↦ refl | region i ↦ refl | block i ↦ refl ] };
    op_slots = empty;
    region_slots = empty;
    block_slots = empty;
    within = omega arith;
    limit_fits = h;
  }
    where
      nothing : {C P : Type 0} → IsListing {C = C} {P = P} (record { children = []; parents = [] })
          (record { slots = []; free = [] }) (record { slots = []; free = [] })
      nothing = record {
        child_places = refl;
        parent_places = refl;
        agreed = record {
          apart = λ p. tt;
          owned = λ p c i. absurd i;
          held = λ p c e. absurd (none-some p e);
          within =
              λ p c i. absurd i;
          num_lists = omega arith;
          num_children = omega arith;
        };
        linked_live = λ c p e. absurd (none-some p e);
      }

      empty : {C : Type 0} → IsTable {T = C} (record { slots = []; free = [] })
      empty = record {
        apart = tt;
        free_slots = λ i j. absurd j;
        used = λ i h. absurd (omega arith);
        bounded = λ i h. absurd (omega arith);
        num_slots = omega arith;
        num_values = omega arith;
      }

  module _ (s : Nodes O B) (w : IsStored s) where
    -- a region that is not live is above nothing
    region_in : (r i : ℕ) (p : Option ℕ) → content_at s.regions r ≡ None → parent_at s.blocks_in_region i ≡ p →
        option_map region p ≡ Some (region r) → ⊥
    region_in r i None none f e = none-some (region r) e
    region_in r i (Some q) none f e =
        let g : q ≡ r = cc in
        some_none (content_at s.regions q) ((w.blocks_listed.linked_live i q f).1) (ap (content_at s.regions) g ∙ none)

    other_op : (r : ℕ) (p : Option ℕ) → option_map op p ≡ Some (region r) → ⊥
    other_op r None e = none-some (region r) e
    other_op r (Some q) e = cc

    other_block : (r : ℕ) (p : Option ℕ) → option_map block p ≡ Some (region r) → ⊥
    other_block r None e = none-some (region r) e
    other_block r (Some q) e = cc

    never_over : (r : ℕ) → content_at s.regions r ≡ None → (n : Seat) → up s n ≡ Some (region r) → ⊥
    never_over r none (op i) e = other_block r (parent_at s.ops_in_block i) e
    never_over r none (region i) e = other_op r (parent_at s.regions_in_op i) e
    never_over r none (block i) e = region_in r i (parent_at s.blocks_in_region i) none refl e

    region_apart : (r o : ℕ) → content_at s.regions r ≡ None → Reaches (up s) (op o) (region r) → ⊥
    region_apart r o none x = let e = climb_to (up s) (region r) (never_over r none) x.0 (Some (op o)) x.1 in cc

    pub IsStored-new_op : (t : Table O) (l m : Lists) (v : O) → IsFilled s.ops t v → l ≡ room_child s.ops_in_block
        s.ops.free → m ≡ room_list s.regions_in_op s.ops.free → IsAgreed l → IsAgreed m → num_nodes s < s.limit →
        IsStored (record s { ops = t; ops_in_block = l; regions_in_op = m })
    IsStored-new_op t l m v x le me la ma room =
        subst (λ (z : Nodes O B). IsStored z) (let q : record s {
          ops = with_new s.ops v;
          ops_in_block = room_child
              s.ops_in_block s.ops.free;
          regions_in_op = room_list s.regions_in_op s.ops.free;
        } ≡ record s
        { ops = t; ops_in_block = l; regions_in_op = m } = rw (x.is, le, me) refl in q) whole
      where
        same : (n : Seat) → up (with_new_op s v) n ≡ up s n
        same = elim [
          | op i ↦ ap (option_map block) (parent_at-room_child s.ops_in_block s.ops.free i)
          | region i ↦ ap (option_map op) (parent_at-room_list s.regions_in_op s.ops.free i)
          | block i ↦ refl
        ]

        whole : IsStored (with_new_op s v)
        whole = record {
          regions_listed = IsListing-parent s.regions_in_op s.regions s.ops w.regions_listed v x.vacant
              (subst IsAgreed me ma);
          blocks_listed = w.blocks_listed;
          ops_listed = IsListing-child s.ops_in_block s.ops s.blocks w.ops_listed v x.vacant (subst IsAgreed le la);
          regions_owned = λ r e. rw (parent_at-room_list s.regions_in_op s.ops.free r) (w.regions_owned r e);
          grounded = IsGrounded-same (up s) (up (with_new_op s v)) same w.grounded;
          op_slots = subst IsTable x.is x.sound;
          region_slots = w.region_slots;
          block_slots = w.block_slots;
          within = let c : num_full (with_new s.ops v) ≡ num_full s.ops + 1 = ap num_full (sym x.is) ∙ x.count in omega
              arith;
          limit_fits = w.limit_fits;
        }

    pub IsStored-new_block : (t : Table B) (l m : Lists) (v : B) → IsFilled s.blocks t v → l ≡ room_child
        s.blocks_in_region s.blocks.free → m ≡ room_list s.ops_in_block s.blocks.free → IsAgreed l → IsAgreed m →
        num_nodes s < s.limit → IsStored (record s { blocks = t; blocks_in_region = l; ops_in_block = m })
    IsStored-new_block t l m v x le me la ma room =
        subst (λ (z : Nodes O B). IsStored z) (let q : with_new_block s v ≡ record s
        { blocks = t; blocks_in_region = l; ops_in_block = m } = rw (x.is, le, me) refl in q) whole
      where
        same : (n : Seat) → up (with_new_block s v) n ≡ up s n
        same = elim [
          | op i ↦ ap (option_map block) (parent_at-room_list s.ops_in_block s.blocks.free i)
          | region i ↦ refl
          | block i ↦ ap (option_map region) (parent_at-room_child s.blocks_in_region s.blocks.free i)
        ]

        whole : IsStored (with_new_block s v)
        whole = record {
          regions_listed = w.regions_listed;
          blocks_listed = IsListing-child s.blocks_in_region s.blocks s.regions w.blocks_listed v x.vacant
              (subst IsAgreed le la);
          ops_listed = IsListing-parent s.ops_in_block s.ops s.blocks w.ops_listed v x.vacant (subst IsAgreed me ma);
          regions_owned = w.regions_owned;
          grounded = IsGrounded-same (up s) (up (with_new_block s v)) same w.grounded;
          op_slots = w.op_slots;
          region_slots = w.region_slots;
          block_slots = subst IsTable x.is x.sound;
          within = let c : num_full (with_new s.blocks v) ≡ num_full s.blocks + 1 = ap num_full (sym x.is) ∙ x.count in
              omega arith;
          limit_fits = w.limit_fits;
        }

    -- a region is made: there is room for it, and it is put under a live operation
    pub IsStored-new_region : (t : Table RegionKind) (l m n : Lists) (o : ℕ) → IsFilled s.regions t (record {}) → l ≡
        room_list s.blocks_in_region s.regions.free → m ≡ room_child s.regions_in_op s.regions.free → n ≡ with_last m o
        (next_slot s.regions) → IsAgreed l → IsAgreed m → IsAgreed n → num_nodes s < s.limit → IsSome
        (content_at s.ops o) → IsStored (record s { regions = t; blocks_in_region = l; regions_in_op = n })
    IsStored-new_region t l m n o x le me ne la ma na room live =
        subst (λ (z : Nodes O B). IsStored z) (let q : with_new_region s o ≡ record s
        { regions = t; blocks_in_region = l; regions_in_op = n } = rw (x.is, le, ne, me) refl in q) whole
      where
        wide : IsListing (room_child s.regions_in_op s.regions.free) (with_new s.regions (record {})) s.ops
        wide = IsListing-child s.regions_in_op s.regions s.ops w.regions_listed (record {}) x.vacant
            (subst IsAgreed me ma)

        filled : IsSome (content_at (with_new s.regions (record {})) (next_slot s.regions))
        filled = rw (ap (λ z. content_at z (next_slot s.regions)) (sym x.is) ∙ x.here) refl

        moved : IsMoved (room_child s.regions_in_op s.regions.free) (with_last (room_child s.regions_in_op
            s.regions.free) o (next_slot s.regions)) (next_slot s.regions) (Some o)
        moved = IsMoved-last (room_child s.regions_in_op s.regions.free) (next_slot s.regions) o
            (let h = within_content (with_new s.regions (record {})) (next_slot s.regions) filled in omega
            (arith, wide.child_places))

        same : (z : Seat) → (z ≡ region (next_slot s.regions) → ⊥) → up (with_new_region s o) z ≡ up s z
        same = elim [
          | op i ↦ λ q. refl
          | region i ↦ λ q. ap (option_map op) (moved.other i (λ e. q (ap region e)) ∙ parent_at-room_child
              s.regions_in_op s.regions.free i)
          | block i ↦ λ q. ap (option_map region) (parent_at-room_list s.blocks_in_region s.regions.free i)
        ]

        agreed : IsAgreed (with_last (room_child s.regions_in_op s.regions.free) o (next_slot s.regions))
        agreed = subst IsAgreed (ne ∙ ap (λ z. with_last z o (next_slot s.regions)) me) na

        whole : IsStored (with_new_region s o)
        whole = record {
          regions_listed = IsListing-link (room_child s.regions_in_op s.regions.free) (with_new s.regions (record {}))
              s.ops wide (with_last (room_child s.regions_in_op s.regions.free) o (next_slot s.regions))
              (next_slot s.regions) o moved agreed filled live;
          blocks_listed = IsListing-parent s.blocks_in_region s.blocks s.regions w.blocks_listed (record {}) x.vacant
              (subst IsAgreed le la);
          ops_listed = w.ops_listed;
          regions_owned = λ i e. elim (cases_eq i (next_slot s.regions)) [
            | inl q ↦ subst (λ z. IsSome (parent_at (with_last (room_child s.regions_in_op s.regions.free) o
                (next_slot s.regions)) z)) (sym q) (rw moved.here refl)
            | inr q ↦ rw (moved.other i q, parent_at-room_child s.regions_in_op s.regions.free i)
                (w.regions_owned i (rw (content_new_other s.regions (record {}) i q) at e))
          ];
          grounded = IsGrounded-link (up s) (up (with_new_region s o)) (region (next_slot s.regions)) (op o)
              (ap (option_map op) moved.here) same (region_apart (next_slot s.regions) o x.vacant) w.grounded;
          op_slots = w.op_slots;
          region_slots = subst IsTable x.is x.sound;
          block_slots = w.block_slots;
          within = let c : num_full (with_new s.regions (record {})) ≡ num_full s.regions + 1 = ap num_full (sym x.is) ∙
              x.count in omega arith;
          limit_fits = w.limit_fits;
        }

    -- an operation is put into a block, and taken out
    pub IsStored-link_op : (l : Lists) (o b : ℕ) → IsMoved s.ops_in_block l o (Some b) → IsAgreed l → IsSome
        (content_at s.ops o) → IsSome (content_at s.blocks b) → (Reaches (up s) (block b) (op o) → ⊥) → IsStored
        (record s { ops_in_block = l })
    IsStored-link_op l o b v a live_o live_b away = record {
      regions_listed = w.regions_listed;
      blocks_listed = w.blocks_listed;
      ops_listed = IsListing-link s.ops_in_block s.ops s.blocks w.ops_listed l o b v a live_o live_b;
      regions_owned = w.regions_owned;
      grounded = IsGrounded-link (up s) (up (record s { ops_in_block = l })) (op o) (block b)
          (ap (option_map block) v.here) same away w.grounded;
      op_slots = w.op_slots;
      region_slots = w.region_slots;
      block_slots = w.block_slots;
      within = w.within;
      limit_fits = w.limit_fits;
    }
      where
        same : (x : Seat) → (x ≡ op o → ⊥) → up (record s { ops_in_block = l }) x ≡ up s x
        same = elim [
          | op i ↦ λ q. ap (option_map block) (v.other i (λ e. q (ap op e)))
          | region i ↦ λ q. refl
          | block i
              ↦ λ q. refl
        ]

    pub IsStored-unlink_op : (l : Lists) (o : ℕ) → IsMoved s.ops_in_block l o None → IsAgreed l → IsStored
        (record s { ops_in_block = l })
    IsStored-unlink_op l o v a = record {
      regions_listed = w.regions_listed;
      blocks_listed = w.blocks_listed;
      ops_listed = IsListing-unlink s.ops_in_block s.ops s.blocks w.ops_listed l o v a;
      regions_owned = w.regions_owned;
      grounded = IsGrounded-cut (up s) (up (record s { ops_in_block = l })) same w.grounded;
      op_slots = w.op_slots;
      region_slots = w.region_slots;
      block_slots = w.block_slots;
      within = w.within;
      limit_fits = w.limit_fits;
    }
      where
        same : (x : Seat) → (up (record s { ops_in_block = l }) x ≡ up s x) ⊎ (up (record s { ops_in_block = l }) x ≡
            None)
        same = elim [
          | op i ↦ elim (cases_eq i o) [
            | inl q ↦ inr (ap (λ z. option_map block (parent_at l z)) q ∙ ap
                (option_map block) v.here)
            | inr q ↦ inl (ap (option_map block) (v.other i q))
          ]
          | region i ↦ inl refl
          | block i ↦ inl refl
        ]

    -- a block is put into a region, and taken out
    pub IsStored-link_block : (l : Lists) (b r : ℕ) → IsMoved s.blocks_in_region l b (Some r) → IsAgreed l → IsSome
        (content_at s.blocks b) → IsSome (content_at s.regions r) → (Reaches (up s) (region r) (block b) → ⊥) → IsStored
        (record s { blocks_in_region = l })
    IsStored-link_block l b r v a live_b live_r away = record {
      regions_listed = w.regions_listed;
      blocks_listed = IsListing-link s.blocks_in_region s.blocks s.regions w.blocks_listed l b r v a live_b live_r;
      ops_listed = w.ops_listed;
      regions_owned = w.regions_owned;
      grounded = IsGrounded-link (up s) (up (record s { blocks_in_region = l })) (block b) (region r)
          (ap (option_map region) v.here) same away w.grounded;
      op_slots = w.op_slots;
      region_slots = w.region_slots;
      block_slots = w.block_slots;
      within = w.within;
      limit_fits = w.limit_fits;
    }
      where
        same : (x : Seat) → (x ≡ block b → ⊥) → up (record s { blocks_in_region = l }) x ≡ up s x
        same = elim [
          | op i ↦ λ q. refl
          | region i ↦ λ q. refl
          | block i ↦ λ q. ap (option_map region)
              (v.other i (λ e. q (ap block e)))
        ]

    pub IsStored-unlink_block : (l : Lists) (b : ℕ) → IsMoved s.blocks_in_region l b None → IsAgreed l → IsStored
        (record s { blocks_in_region = l })
    IsStored-unlink_block l b v a = record {
      regions_listed = w.regions_listed;
      blocks_listed = IsListing-unlink s.blocks_in_region s.blocks s.regions w.blocks_listed l b v a;
      ops_listed = w.ops_listed;
      regions_owned = w.regions_owned;
      grounded = IsGrounded-cut (up s) (up (record s { blocks_in_region = l })) same w.grounded;
      op_slots = w.op_slots;
      region_slots = w.region_slots;
      block_slots = w.block_slots;
      within = w.within;
      limit_fits = w.limit_fits;
    }
      where
        same : (x : Seat) → (up (record s { blocks_in_region = l }) x ≡ up s x) ⊎
            (up (record s { blocks_in_region = l }) x ≡ None)
        same = elim [
          | op i ↦ inl refl
          | region i ↦ inl refl
          | block i ↦ elim (cases_eq i b) [
            | inl q ↦ inr (ap (λ z. option_map region (parent_at l z)) q ∙ ap
                (option_map region) v.here)
            | inr q ↦ inl (ap (option_map region) (v.other i q))
          ]
        ]

-- another content in a live slot
module _ {C : Type 0} (t : Table C) (i : ℕ) (v : C) (some : IsSome (content_at t i)) where
  pub content_held : (j : ℕ) → IsSome (content_at t j) → IsSome (content_at (with_content t i v) j)
  content_held j e = elim (cases_eq j i) [
    | inl q ↦ subst (λ z. IsSome (content_at (with_content t i v) z)) (sym q) (rw
        (ap (λ (z : Cell C). z.content) (get_or-set_same t.slots i (record {
          version = version_at t i;
          content = Some v;
        }) no_cell (within_content t i some))) refl)
    | inr n ↦ rw (ap (λ (z : Cell C). z.content) (get_or-set_other t.slots i j (record
        { version = version_at t i; content = Some v }) no_cell n)) e
  ]

pub IsListing-held_child : {C P : Type 0} (l : Lists) (t : Table C) (u : Table P) (i : ℕ) (v : C) → IsSome
    (content_at t i) → IsListing l t u → IsListing l (with_content t i v) u
IsListing-held_child l t u i v some w = record {
  child_places = w.child_places ∙ sym (length-set t.slots i _);
  parent_places = w.parent_places;
  agreed = w.agreed;
  linked_live = λ c p e. let x = w.linked_live c p e in (content_held t i v some c x.0, x.1);
}

pub IsListing-held_parent : {C P : Type 0} (l : Lists) (t : Table C) (u : Table P) (i : ℕ) (v : P) → IsSome
    (content_at u i) → IsListing l t u → IsListing l t (with_content u i v)
IsListing-held_parent l t u i v some w = record {
  child_places = w.child_places;
  parent_places = w.parent_places ∙ sym (length-set u.slots i _);
  agreed = w.agreed;
  linked_live = λ c p e. let x = w.linked_live c p e in (x.0, content_held u i v some p x.1);
}

module _ {O B : Type 0} (s : Nodes O B) (w : IsStored s) where
  pub IsStored-held_op : (i : ℕ) (v : O) → IsSome (content_at s.ops i) → IsStored
      (record s { ops = with_content s.ops i v })
  IsStored-held_op i v some = record {
    regions_listed = IsListing-held_parent s.regions_in_op s.regions s.ops i v some w.regions_listed;
    blocks_listed = w.blocks_listed;
    ops_listed = IsListing-held_child s.ops_in_block s.ops s.blocks i v some w.ops_listed;
    regions_owned = w.regions_owned;
    grounded = w.grounded;
    op_slots = IsTable-with_content s.ops i v some w.op_slots;
    region_slots = w.region_slots;
    block_slots = w.block_slots;
    within = rw (num_full-with_content s.ops i v some) w.within;
    limit_fits = w.limit_fits;
  }

  pub IsStored-held_block : (i : ℕ) (v : B) → IsSome (content_at s.blocks i) → IsStored
      (record s { blocks = with_content s.blocks i v })
  IsStored-held_block i v some = record {
    regions_listed = w.regions_listed;
    blocks_listed = IsListing-held_child s.blocks_in_region s.blocks s.regions i v some w.blocks_listed;
    ops_listed = IsListing-held_parent s.ops_in_block s.ops s.blocks i v some w.ops_listed;
    regions_owned = w.regions_owned;
    grounded = w.grounded;
    op_slots = w.op_slots;
    region_slots = w.region_slots;
    block_slots = IsTable-with_content s.blocks i v some w.block_slots;
    within = rw (num_full-with_content s.blocks i v some) w.within;
    limit_fits = w.limit_fits;
  }
