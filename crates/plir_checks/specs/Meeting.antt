-- Lines meet checks, each in the first line that can.
use Rattle.std.specs.Prelude.{◌≡◌, ◌+◌, ℕ, true, false, List, [], ◌∷◌, ◌++◌, ◌⊎◌, All, length, take}
use Rattle.plir_checks.specs.declared.checks.Check.{Check}
use Rattle.plir_checks.specs.declared.checks.CheckKind.{CheckKind}
use Rattle.plir_checks.specs.declared.checks.CheckKind.TheVariants.{Behind, Next}
use Rattle.plir_checks.specs.declared.meeting.Unmet.{Unmet}
use Rattle.plir_checks.specs.Blanks.{has_text}

-- no line has a text
abbrev pub AllLack : List ℕ → List (List ℕ) → Type 0
AllLack text lines = All (λ line. has_text line text ≡ false) lines

-- lines may stand before the one that meets a check: none of them has its text, and before the next line stands none
abbrev pub CanPass : CheckKind → List ℕ → List (List ℕ) → Type 0
CanPass Behind text front = AllLack text front
CanPass Next text front = front ≡ []

-- a check is met by the line between those in front and those behind
pub record IsMet (kind : CheckKind) (text : List ℕ) (lines front : List (List ℕ)) (line : List ℕ)
    (behind : List (List ℕ)) : Type 0 where
  pub cut : lines ≡ front ++ line ∷ behind
  pub passed : CanPass kind text front
  pub met : has_text line text ≡ true

-- the line behind so many less one meets a check of a kind, and what stands behind it is left
abbrev pub IsMetBehind : CheckKind → List ℕ → List (List ℕ) → (lines_past : ℕ) → List (List ℕ) → Type 0
IsMetBehind kind text lines past behind =
    (front : List (List ℕ)) × (line : List ℕ) × IsMet kind text lines front line behind × (past ≡ length front + 1)

-- Lines meet checks: the first is met by a line, and those behind that meet the others.
abbrev pub AreMet : List Check → List (List ℕ) → Type 0
AreMet [] lines = Unit {0}
AreMet (check ∷ checks) lines =
    (front : List (List ℕ)) × (line : List ℕ) × (behind : List (List ℕ))
    × IsMet check.kind check.text.now lines front line behind × AreMet checks behind

-- no line meets a check: none has its text, or the first hasn't
abbrev pub IsMissed : CheckKind → List ℕ → List (List ℕ) → Type 0
IsMissed Behind text lines = AllLack text lines
IsMissed Next text lines = AllLack text (take 1 lines)

-- Which check lines don't meet: no line meets the first, sought from the line of a number on, or one meets it, and it
-- is one of the others, which those behind that don't meet.
abbrev pub IsUnmet : List Check → List (List ℕ) → (from : ℕ) → Unmet → Type 0
IsUnmet [] lines from unmet = ⊥
IsUnmet (check ∷ checks) lines from unmet =
    (IsMissed check.kind check.text.now lines × (unmet.check ≡ check.line) × (unmet.from ≡ from))
    ⊎ ((front : List (List ℕ)) × (line : List ℕ) × (behind : List (List ℕ))
    × IsMet check.kind check.text.now lines front line behind × IsUnmet checks behind (from + (length front + 1)) unmet)
