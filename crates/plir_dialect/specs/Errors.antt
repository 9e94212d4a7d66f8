-- Refusals of a set that is made of parts.
use Rattle.plir_dialect.specs.declared.dialect.DialectErr.{DialectErr}
use Rattle.plir_dialect.specs.declared.dialect.DialectErr.TheVariants.{Kind, Attr}

-- the refusal is that of a kind of operations, and one of these
abbrev pub IsOfKind : {K A : Type 0} → (refusal : K → Type 0) → DialectErr K A → Type 0
IsOfKind refusal (Kind err) = refusal err
IsOfKind refusal (Attr err) = ⊥

-- the refusal is that of an own attribute, and one of these
abbrev pub IsOfAttr : {K A : Type 0} → (refusal : A → Type 0) → DialectErr K A → Type 0
IsOfAttr refusal (Kind err) = ⊥
IsOfAttr refusal (Attr err) = refusal err
