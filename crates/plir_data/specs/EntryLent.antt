-- What becomes of a dictionary that lends the attribute under a key.
use Rattle.std.specs.Prelude.{ℕ, Bool, List, Option, ◌≡◌}
use Rattle.std.specs.Option.{OnSome}
use Rattle.std.specs.Borrow.{LendsSo, MutBor, Fml, RattleType}
use Rattle.std.specs.declared.fmt.Debug as debug
use Rattle.std.specs.declared.fmt.Display as display
use Rattle.plir_data.specs.AttrView.{AttrView}
use Rattle.plir_data.specs.AttrSeen.{attr_view}
use Rattle.plir_data.specs.Dictionary.{dict_put}
use Rattle.plir_data.specs.declared.attributes.AttrObj.{AttrObj}
use Rattle.plir_data.specs.declared.op_set.OpSet as op_set
use Rattle.plir_data.specs.contracts.attribute_dict.AttributeDict as dictionary
use Rattle.plir_data.specs.contracts.attributes.AttrObj as attribute
use Rattle.plir_data.specs.contracts.attributes.DictAttr as dict_attr

-- what a clause has as A.Hash
abbrev pub HashMembers : Type 0 → Type 0
HashMembers A = record { eq : A → A → Bool; hash_input : A → List (List ℕ) }

module _ (D K A T E : RattleType) (o : op_set.Ghosts D.Denot K.Denot A.Denot T.Denot E.Denot) (h : HashMembers A.Denot)
    (s : debug.Ghosts A.Denot) (h' : HashMembers T.Denot) (s' : debug.Ghosts T.Denot)
    (e : debug.Ghosts E.Denot) (e' : display.Ghosts E.Denot) where
  -- an attribute as the logic holds it
  abbrev attr_row : RattleType
  attr_row = attribute.the_row D K A T E o (record { eq = h.eq }) (record { hash_input = h.hash_input }) s
      (record { eq = h'.eq }) (record { hash_input = h'.hash_input }) s' e e'

  -- where the key is there, the dictionary ends with the last attribute behind the reference under it, else as it was
  abbrev pub LendsEntry : MutBor (List (List ℕ × AttrView A.Denot)) → List ℕ →
      Option (MutBor (AttrObj D.Denot K.Denot A.Denot T.Denot E.Denot)) → Fml
  LendsEntry dict key attr =
      LendsSo (dictionary.the_row D K A T E o (record { eq = h.eq }) (record { hash_input = h.hash_input }) s
      (record { eq = h'.eq }) (record { hash_input = h'.hash_input }) s' e e') attr_row dict attr
      (λ n w. OnSome attr (n ≡ dict_put dict.now key (attr_view w))) (λ n. n ≡ dict.now)

  -- the same of a dictionary that is an attribute
  abbrev pub LendsDictEntry : MutBor (List (List ℕ × AttrView A.Denot)) → List ℕ →
      Option (MutBor (AttrObj D.Denot K.Denot A.Denot T.Denot E.Denot)) → Fml
  LendsDictEntry dict key attr =
      LendsSo (dict_attr.the_row D K A T E o (record { eq = h.eq }) (record { hash_input = h.hash_input }) s
      (record { eq = h'.eq }) (record { hash_input = h'.hash_input }) s' e e') attr_row dict attr
      (λ n w. OnSome attr (n ≡ dict_put dict.now key (attr_view w))) (λ n. n ≡ dict.now)
