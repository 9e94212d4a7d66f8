-- What a printed attribute is read as.
use Rattle.std.proofs.Common.{◌≡◌, ◌≢◌, ℕ, List, Result, Ok, Err, refl, sym, subst}
use Rattle.std.proofs.lemmas.Option.{slice_get_within}
use Rattle.plir_data.specs.AttrLive.{IsAttrLive, AreItemsLive, AreEntriesLive}
use Rattle.plir_data.specs.{OwnParts.Part, AttrSeen.attr_view}
use Rattle.plir_data.specs.AttrView as views
use Rattle.plir_data.specs.AttrView.{Leaf, AttrView, leaf, dict, vec, Items, no_items, item, Entries, no_entries, entry}
use Rattle.plir_data.specs.Laws.{IsDictOfItself}
use Rattle.plir_data.specs.Types as types
use Rattle.plir_data.specs.{Types.TypeView, Types.IsTypeTable, Types.type_at, declared.attributes.AttrObj.AttrObj}
use Rattle.plir_attr_text.specs.Writable.{IsLeafWritable, IsWritable, AreItemsWritable, AreEntriesWritable}
use Rattle.plir_attr_text.specs.{AttrReadBack.IsReadable, AttrReadBack.IsReadBack, declared.fault.ReadErr.ReadErr}
use Rattle.plir_attr_text.specs.{AttrText.attr_text, Meaning.StandsFor, Names.Grows, declared.fault.Fault.Fault}
use Rattle.plir_attr_text.specs.declared.fault.Fault.TheVariants as faults
use Rattle.plir_attr_text.specs.laws.AttrsShown.{verified_type, text_stands}
use Rattle.plir_attr_text.specs.{laws.Growth.at_grown, laws.Growth.Grows-on, laws.Meanings.one_live}
use Rattle.plir_attr_text.specs.{laws.Meanings.leaf_live, laws.SameMeanings.one_meaning}

-- what a table has grown from is a table
pub table_before : {T : Type 0} (own_handles : T → List ℕ) (old new : List (TypeView T)) → Grows old new →
    IsTypeTable own_handles new → IsTypeTable own_handles old
table_before own_handles old new g whole =
    record {
      once = λ t i j p q. whole.once t i j (at_grown old new i t g p) (at_grown old new j t g q);
      before =
          λ t i p. whole.before t i (at_grown old new i t g p);
    }

-- the handles in what can be written are of the table
module _ {A T : Type 0} (own_handles : A → List ℕ) (table : List (TypeView T)) where
  leaf_held : (x : Leaf A) → IsLeafWritable table x → IsAttrLive own_handles table (leaf x)
  leaf_held (views.identifier w) h = leaf_live own_handles table (views.identifier w) refl
  leaf_held (views.string s) h = leaf_live own_handles table (views.string s) refl
  leaf_held (views.bool b) h = leaf_live own_handles table (views.bool b) refl
  leaf_held (views.integer handle w b) h = let t = verified_type (type_at table handle) w h.3 in
      one_live own_handles table handle (slice_get_within table handle (types.integer t.0 w) t.1)
  leaf_held views.unit h = leaf_live own_handles table views.unit refl
  leaf_held (views.type_of handle) h = one_live own_handles table handle h.0
  leaf_held (views.operand_segment_sizes ns) h = leaf_live own_handles table (views.operand_segment_sizes ns) refl
  leaf_held (views.given_names ns) h = leaf_live own_handles table (views.given_names ns) refl
  leaf_held (views.own a) h = absurd h

  mutual
    pub writable_live : (x : AttrView A) → IsWritable table x → IsAttrLive own_handles table x
    writable_live (leaf x) h = leaf_held x h
    writable_live (dict es) h = entries_live es h.1
    writable_live (vec xs) h = items_live xs h

    items_live : (xs : Items A) → AreItemsWritable table xs → AreItemsLive own_handles table xs
    items_live no_items h = tt
    items_live (item x xs) h = (writable_live x h.0, items_live xs h.1)

    entries_live : (es : Entries A) → AreEntriesWritable table es → AreEntriesLive own_handles table es
    entries_live no_entries h = tt
    entries_live (entry k x es) h = (writable_live x h.0, entries_live es h.1)

-- what the text of an attribute stands for in a table that has grown on
module _ {A T : Type 0} (itself : IsDictOfItself (AttrView A)) (own_id : A → List ℕ)
    (own_body : A → List Part) (type_id : T → List ℕ) (type_body : T → List Part)
    (own_handles : T → List ℕ) (old new : List (TypeView T)) (g : Grows old new) (whole : IsTypeTable own_handles new)
    (bytes : List ℕ) (x : AttrView A) (is : bytes ≡ attr_text own_id own_body type_id type_body old x)
    (readable : IsReadable old x) where
  pub stands : StandsFor 200 new bytes x
  stands = subst (λ l. StandsFor 200 new l x) (sym is)
      (text_stands itself own_handles old (table_before own_handles old new g whole) own_id own_body type_id type_body
      200 new g x readable.0 readable.1)

  pub read_again : (y : AttrView A) → StandsFor 200 new bytes y → y ≡ x
  read_again y found = one_meaning own_handles new whole 200 200 bytes y x found stands

-- a fault that can't be another
pub memory_alone : (f : Fault) → (f ≢ faults.Memory → ⊥) → f ≡ faults.Memory
memory_alone faults.Unexpected h = absurd (h (λ e. absurd cc))
memory_alone faults.BadEscape h = absurd (h (λ e. absurd cc))
memory_alone faults.IntegerOutOfRange h = absurd (h (λ e. absurd cc))
memory_alone faults.IntegerWidthUnsupported h = absurd (h (λ e. absurd cc))
memory_alone faults.TooDeep h = absurd (h (λ e. absurd cc))
memory_alone faults.ForwardRefOpExistenceErr h = absurd (h (λ e. absurd cc))
memory_alone (faults.NResultsVerifyErr wanted found) h = absurd (h (λ e. absurd cc))
memory_alone faults.Memory h = refl
memory_alone faults.TooManyNodes h = absurd (h (λ e. absurd cc))

-- whatever the reader answers to the text of an attribute that can be read back
module _ {D K A T E : Type 0} (itself : IsDictOfItself (AttrView A)) (own_id : A → List ℕ)
    (own_body : A → List Part) (type_id : T → List ℕ) (type_body : T → List Part)
    (attr_handles : A → List ℕ) (type_handles : T → List ℕ) where
  pub read_back : (x : AttrView A) (bytes : List ℕ) (answer : Result (AttrObj D K A T E) ReadErr) →
      IsReadBack own_id own_body type_id type_body attr_handles type_handles x bytes answer
  read_back x bytes (Ok a) printed old new whole readable is grown read =
      read_again itself own_id own_body type_id type_body type_handles printed new
      (Grows-on printed old new grown read.grown) whole bytes x is readable (attr_view a) read.found
  read_back x bytes (Err e) printed old new whole readable is grown read =
      let ours = stands itself own_id own_body type_id type_body type_handles printed new
      (Grows-on printed old new grown read.grown) whole bytes x is readable in
      memory_alone e.fault (λ other. read.refused other ours.0 ours.1)
