-- Things of one side or the other.
use Rattle.std.specs.Prelude.{◌≡◌, ℕ, List, codes}
use Rattle.plir_dialect.specs.OwnKinds.{KindAsks, KindReports}
use Rattle.plir_dialect.specs.declared.one_of.OneOf.{OneOf}
use Rattle.plir_dialect.specs.declared.one_of.OneOf.TheVariants.{First, Second}

-- what a thing answers, asked at its own side
abbrev pub at_side : {A B X : Type 0} → (A → X) → (B → X) → OneOf A B → X
at_side first second (First a) = first a
at_side first second (Second b) = second b

-- the refusal is of the side of what is refused, and one that may be given there
abbrev pub IsSidesRefusal : {A B E F : Type 0} → (A → E → Type 0) → (B → F → Type 0) → OneOf A B → OneOf E F → Type 0
IsSidesRefusal first second (First a) (First err) = first a err
IsSidesRefusal first second (Second b) (Second err) = second b err
IsSidesRefusal first second _ _ = ⊥

-- both are of one side
abbrev pub AreOfOneSide : {A B : Type 0} → OneOf A B → OneOf A B → Type 0
AreOfOneSide (First a) (First b) = Unit {0}
AreOfOneSide (Second a) (Second b) = Unit {0}
AreOfOneSide _ _ = ⊥

-- No id of one side is an id of the other, but for the id of what has no meaning.
abbrev pub AreApart : {A B : Type 0} → (first : A → List ℕ) → (second : B → List ℕ) → Type 0
AreApart {A} {B} first second = (a : A) (b : B) → first a ≡ second b → first a ≡ codes "none.meaning"

-- Where two things have one id they are of one side, if the id is not that of what has no meaning.
abbrev pub IdsTellSides : {A B : Type 0} → (OneOf A B → List ℕ) → Type 0
IdsTellSides {A} {B} id = (x y : OneOf A B) → id x ≡ id y → ¬ (id x ≡ codes "none.meaning") → AreOfOneSide x y

module _ {A B K L T : Type 0} where
  -- what the kind of one side or the other asks of an operation
  abbrev pub AsksOfSide : KindAsks A K L T → KindAsks B K L T → KindAsks (OneOf A B) K L T
  AsksOfSide first second (First a) = first a
  AsksOfSide first second (Second b) = second b

  -- what may be reported of an operation by the kind of one side or the other
  abbrev pub ReportsOfSide : {E F : Type 0} → KindReports A K L T E → KindReports B K L T F →
      KindReports (OneOf A B) K L T (OneOf E F)
  ReportsOfSide first second kind s op loc err =
      IsSidesRefusal (λ a. first a s op loc) (λ b. second b s op loc) kind err
