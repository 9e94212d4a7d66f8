-- What reading makes of a context.
use Rattle.std.specs.Prelude.{◌≡◌, ℕ, List, [], ◌∷◌, Option}
use Rattle.plir_attr_text.specs.Names.{AreNamed}
use Rattle.plir_attr_text.specs.Tokens.{Token, Begins}
use Rattle.plir_attr_text.specs.TypesWritten.{IsWrittenIn}
use Rattle.plir_core.specs.ContextView.{ContextView, children}
use Rattle.plir_core.specs.Grown.{IsGrown}
use Rattle.plir_core.specs.Made.{IsMade}
use Rattle.plir_core.specs.declared.ptr.IRNode.{IRNode}
use Rattle.plir_read.specs.Keeping.{KeepsBut}
use Rattle.plir_read.specs.Slots.{AreGivenOut, IsMadeInOrder, IsGrownInOrder}

-- the rest stands behind tokens that the text begins with
abbrev pub IsBehind : (bytes rest : List ℕ) → Type 0
IsBehind bytes rest = (before : List Token) × Begins bytes before rest

module _ {K A T : Type 0} where
  -- From s to t, by what is read in a text, what was there is as it was, but that `but`, if it is a node, may have got
  -- children; types that have come are written in the text.
  pub record IsReading (bytes : List ℕ) (but : Option IRNode) (s t : ContextView K A T) : Type 0 where
    pub kept : KeepsBut s t but
    pub named : AreNamed (IsWrittenIn bytes) s.types t.types

  -- the tree at n was made, in the order of the text that stands before the rest
  pub record HasRead (bytes rest : List ℕ) (s t : ContextView K A T) (n : IRNode) : Type 0 where
    pub made : IsMade s.nodes t.nodes n
    pub in_order : IsMadeInOrder s.nodes t.nodes n
    pub behind : IsBehind bytes rest

  -- what stands below n was made, in the order of the text that stands before the rest
  pub record HasGrown (bytes rest : List ℕ) (s t : ContextView K A T) (n : IRNode) : Type 0 where
    pub grown : IsGrown s.nodes t.nodes n
    pub in_order : IsGrownInOrder s.nodes t.nodes n
    pub behind : IsBehind bytes rest

  -- the node n was made, with nothing below it, of the text that stands before the rest
  pub record HasFront (bytes rest : List ℕ) (s t : ContextView K A T) (n : IRNode) : Type 0 where
    pub made : IsMade s.nodes t.nodes n
    pub slots : AreGivenOut s.nodes (n ∷ []) t.nodes
    pub empty : children t n ≡ []
    pub behind : IsBehind bytes rest
