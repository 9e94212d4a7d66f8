-- What the reader of attributes answers.
use Rattle.std.specs.Prelude.{◌≢◌, ℕ, List, Result, IfOk, IfErr}
use Rattle.plir_data.specs.declared.attributes.AttrObj.{AttrObj}
use Rattle.plir_data.specs.{AttrLive.IsAttrLive, AttrSeen.attr_view, Types.TypeView}
use Rattle.plir_attr_text.specs.{AttrGrammar.AttrWithin, Meaning.StandsFor, Names.Grows, Names.AreNamed, Parts.IsHeldBy}
use Rattle.plir_attr_text.specs.{Terms.AttrTerm, TypeGrammar.IsText, TypesWritten.IsWrittenIn}
use Rattle.plir_attr_text.specs.{declared.fault.Fault.TheVariants.Memory, declared.fault.ReadErr.ReadErr}

module _ {D K A T E : Type 0} where
  -- The answer to a text, read with the type table `old`, which leaves the table `new`: an attribute that the text
  -- stands for, with handles of the table; or memory was wanting, or the text stands for no attribute. Types that are
  -- written in it have come last, and no others: where the text stands for an attribute, types that this one holds.
  pub record IsAttrRead (own_handles : A → List ℕ) (old : List (TypeView T)) (text : List ℕ)
      (answer : Result (AttrObj D K A T E) ReadErr) (new : List (TypeView T)) : Type 0 where
    pub found : IfOk answer (λ a. StandsFor 200 new text (attr_view a))
    pub live : IfOk answer (λ a. IsAttrLive own_handles new (attr_view a))
    pub refused : IfErr answer (λ e. e.fault ≢ Memory → (x : AttrTerm) → IsText (AttrWithin 200) text x → ⊥)
    pub grown : Grows old new
    pub named : AreNamed (IsWrittenIn text) old new
    pub held : (x : AttrTerm) → IsText (AttrWithin 200) text x → AreNamed (λ t. IsHeldBy t x) old new
