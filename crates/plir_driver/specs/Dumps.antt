-- What is told of passes as they run.
use Rattle.std.specs.Prelude.{◌≡◌, ◌⊎◌, ℕ, true, List, [], ◌∷◌, ◌++◌, codes, IsSome, string_bytes}
use Rattle.plir_data.specs.declared.op_set.OpSet as op_set
use Rattle.plir_core.specs.declared.ptr.Ptr.{Ptr}
use Rattle.plir_core.specs.declared.ptr.Operation.{Operation as OperationKind}
use Rattle.plir_core.specs.declared.ptr.IRNode.TheVariants.{Operation}
use Rattle.plir_core.specs.ContextView.{ContextView}
use Rattle.plir_print.specs.HeaderAttrs.{IsPrintable}
use Rattle.plir_print.specs.OpText.{op_text}
use Rattle.plir_driver.specs.declared.choices.Reports.{Reports}
use Rattle.plir_driver.specs.declared.log.Log.{Log}
use Rattle.plir_driver.specs.Counts.{AreCountsPut, IsCount}
use Rattle.plir_driver.specs.PassRules.{RunRule}
use Rattle.plir_pipelines.specs.declared.times.PassTime.{PassTime}
use Rattle.plir_pipelines.specs.Passes.{bearer}
use Rattle.plir_driver.specs.Reading.{ReadRule}

-- the line that names a moment and a pass
abbrev pub dump_head : (moment name : List ℕ) → List ℕ
dump_head moment name =
    codes "// -----// IR Dump " ++ (moment ++ (codes " " ++ (name ++ codes " //----- //\n")))

module _ {D K A T E : Type 0} (o : op_set.Ghosts D K A T E) (root : Ptr OperationKind) where
  -- the text of the operation; or, where an operation lacks an attribute that its text tells, that it does
  abbrev pub IsShown : ContextView K A T → List ℕ → Type 0
  IsShown s shown =
      (IsPrintable s (Operation root) × (shown ≡ op_text o s root))
      ⊎ ((IsPrintable s (Operation root) → ⊥) × (shown ≡ codes "an operation lacks an attribute that its text tells"))

  -- it stands behind a text, under its line and with an empty line behind it
  abbrev pub IsDumped : (moment name : List ℕ) → ContextView K A T → List ℕ → List ℕ → Type 0
  IsDumped moment name s t t' =
      (shown : List ℕ) × IsShown s shown × (t' ≡ t ++ (dump_head moment name ++ (shown ++ codes "\n\n")))

  -- it does where P holds, and else nothing is put
  pub record IsDumpedWhere (P : Type 0) (moment name : List ℕ) (s : ContextView K A T) (t t' : List ℕ) : Type 0 where
    pub asked : P → IsDumped moment name s t t'
    pub unasked : (P → ⊥) → t' ≡ t

-- behind the times of others stands that of a run of a pass of a name, which went from s to u, with how many operations
-- there were in front of it and behind it
abbrev pub IsTimed : {K A T : Type 0} → Ptr OperationKind → (name : List ℕ) → (s u : ContextView K A T) →
    List PassTime → List PassTime → Type 0
IsTimed root name s u ts ts' = (time : PassTime) × (time.name.now ≡ name) × IsCount s root time.before ×
    IsCount u root time.after × (ts' ≡ ts ++ time ∷ [])

-- `name_of` gives the names of passes.
module _ {D K A T E X : Type 0} (o : op_set.Ghosts D K A T E) (name_of : X → List ℕ) (root : Ptr OperationKind) where
  -- A pass went from s to u: the operation as it was in s stands behind a text, if it is to be told in front of
  -- passes of this name; then as it is in u, if it is to be told behind each; and then how many operations there were
  -- and are, if that is to be told; and its time stands behind those of others, if that is.
  pub record IsPassLogged (reports : Reports X) (pass : X) (s u : ContextView K A T) (t t' : Log) : Type 0 where
    pub between : List ℕ
    pub dumped : List ℕ
    pub before : IsDumpedWhere o root (IsSome (bearer name_of reports.before.items (name_of pass))) (codes "Before")
        (name_of pass) s (string_bytes t.text) between
    pub after : IsDumpedWhere o root (reports.after_all ≡ true) (codes "After") (name_of pass) u between dumped
    pub counted : reports.stats ≡ true → AreCountsPut root (name_of pass) s u dumped (string_bytes t'.text)
    pub uncounted : (reports.stats ≡ true → ⊥) → string_bytes t'.text ≡ dumped
    pub timed : reports.timing ≡ true → IsTimed root (name_of pass) s u t.times.items t'.times.items
    pub untimed : (reports.timing ≡ true → ⊥) → t'.times.items ≡ t.times.items

-- From s to t something was done for each of a list, one after another, and from w to w' a log has grown by what was
-- told of each.
abbrev pub AreDone : {C X : Type 0} → (Done : X → C → C → Log → Log → Type 0) → List X → C → C → Log → Log → Type 0
AreDone Done [] s t w w' = (t ≡ s) × (w' ≡ w)
AreDone {C} Done (x ∷ xs) s t w w' = (u : C) × (v : Log) × Done x s u w v × AreDone Done xs u t v w'

module _ {D K A T E X : Type 0} (o : op_set.Ghosts D K A T E) (name_of : X → List ℕ) (has_passed : RunRule X K A T)
    (reports : Reports X) where
  module _ (root : Ptr OperationKind) where
    -- from s to u a pass was run over the operation root, and of it is told what is to be
    abbrev pub IsRunLogged : X → ContextView K A T → ContextView K A T → Log → Log → Type 0
    IsRunLogged pass s u t t' = has_passed pass root s u × IsPassLogged o name_of root reports pass s u t t'

    -- passes were, one after another
    abbrev pub AreLogged : List X → ContextView K A T → ContextView K A T → Log → Log → Type 0
    AreLogged = AreDone IsRunLogged

  -- A text stands for an operation, and of the passes over it is told what is to be.
  pub record IsLogged (stands_for : ReadRule K A T) (passes : List X) (text : List ℕ) (w w' : Log) : Type 0 where
    pub root : Ptr OperationKind
    pub read : ContextView K A T
    pub left : ContextView K A T
    pub stands : stands_for text read root
    pub told : AreLogged root passes read left w w'
