-- That the reader of attributes reads back what was printed.
use Rattle.std.specs.Prelude.{◌≡◌, ◌≤◌, ℕ, List, Result, MatchResult}
use Rattle.plir_data.specs.declared.attributes.AttrObj.{AttrObj}
use Rattle.plir_data.specs.{OwnParts.Part, AttrSeen.attr_view, AttrView.AttrView, Types.TypeView, Types.IsTypeTable}
use Rattle.plir_attr_text.specs.declared.fault.Fault.TheVariants.{Memory}
use Rattle.plir_attr_text.specs.{AttrAnswer.IsAttrRead, AttrText.attr_text, Names.Grows, Terms.levels}
use Rattle.plir_attr_text.specs.{Writable.IsWritable, Writable.attr_term, declared.fault.ReadErr.ReadErr}

module _ {D K A T E : Type 0} where
  -- the answer is an attribute that is equal to this one, or memory was wanting
  abbrev pub IsEqualOrMemory : AttrView A → Result (AttrObj D K A T E) ReadErr → Type 0
  IsEqualOrMemory x answer = MatchResult answer (λ a. attr_view a ≡ x) (λ e. e.fault ≡ Memory)

-- An attribute that can be printed with the table `printed` and read back: nothing in it is of the user's own, its
-- integers have the widths of their types, and it has at most 200 levels.
abbrev pub IsReadable : {A T : Type 0} (printed : List (TypeView T)) → AttrView A → Type 0
IsReadable printed x = IsWritable printed x × (levels (attr_term printed x) ≤ 200)

module _ {D K A T E : Type 0} (own_id : A → List ℕ) (own_body : A → List Part) (type_id : T →
    List ℕ) (type_body : T → List Part) (attr_handles : A → List ℕ) (type_handles : T → List ℕ) where
  -- Where the text is that of an attribute x that can be read back, printed with the table `printed`, and this is the
  -- answer to it, read with a table `old` that has grown from that one, the answer is an attribute equal to x, or
  -- memory was wanting. `new` is the table that the reader left.
  abbrev pub IsReadBack : AttrView A → (text : List ℕ) → Result (AttrObj D K A T E) ReadErr → Type 0
  IsReadBack x text answer =
      (printed old new : List (TypeView T)) → IsTypeTable type_handles new → IsReadable printed x →
      text ≡ attr_text own_id own_body type_id type_body printed x → Grows printed old →
      IsAttrRead attr_handles old text answer new → IsEqualOrMemory x answer
