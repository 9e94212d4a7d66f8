-- How far the dropping of arguments has come.
use Rattle.std.proofs.Common.{◌≡◌, ℕ, Bool, true, false, true≢false, List, [], ◌∷◌, ◌++◌, Option, None, Result, Ok, Err}
use Rattle.std.proofs.Common.{refl, sym, ap, subst, ◌∙◌}
use Rattle.std.specs.Prelude.{IfErr, IsErrAnd}
use Rattle.std.proofs.lemmas.Option.{slice_get_within}
use Rattle.plir_store.specs.Members.{Has}
use Rattle.plir_store.specs.MemberLaws.{Has-at}
use Rattle.plir_core.specs.declared.ptr.Ptr.{Ptr}
use Rattle.plir_core.specs.declared.ptr.Operation.{Operation as OperationKind}
use Rattle.plir_core.specs.declared.ptr.BasicBlock.{BasicBlock as BlockKind}
use Rattle.plir_core.specs.declared.ptr.IRNode.TheVariants.{Operation, BasicBlock}
use Rattle.plir_core.specs.declared.arena.making.NodeErr.{NodeErr}
use Rattle.plir_core.specs.declared.arena.making.NodeErr.TheVariants.{Memory, TooManyNodes}
use Rattle.plir_core.specs.declared.uses.Use.{Use}
use Rattle.plir_core.specs.Changes.{SameLive}
use Rattle.plir_core.specs.Contents.{OpView}
use Rattle.plir_core.specs.ContextView.{ContextView, IsLive, limit, successors_of}
use Rattle.plir_core.specs.Forest.{look}
use Rattle.plir_core.specs.Room.{IsFullForBlock}
use Rattle.plir_core.specs.Standing.{IsStanding}
use Rattle.plir_core.specs.WellFormed.{IsWellFormed}
use Rattle.plir_walk.specs.TreeLaws.{under-live}
use Rattle.plir_flow.specs.Branches.{Range as Places}
use Rattle.plir_arguments.specs.Dropped.{IsDropped}
use Rattle.plir_arguments.specs.Listed.{AreBlocksBelow, AreOfSuccessors, IsFound, IsSearched}
use Rattle.plir_arguments.specs.Steps.{AreAllDropped, AreCutShort, AreSteps, CanDropBelow, IsOneStep, IsStepRefusal, Step}
use Rattle.plir_arguments.specs.Steps.{is_any}
use Rattle.plir_arguments.specs.Turned.{AreUses}
use Rattle.plir_arguments.specs.declared.finding.Found.{Found}

-- of the error that comes holds what holds of each that may
pub if-err : {T E : Type 0} {Q : E → Type 0} (P : E → Type 0) (r : Result T E) → IsErrAnd r Q →
    ((y : E) → Q y → P y) → IfErr r P
if-err P (Ok x) h f = tt
if-err P (Err e) h f = f e h

any-more : (xs : List Step) (x : Step) → true ≡ is_any (xs ++ x ∷ [])
any-more [] x = refl
any-more (y ∷ ys) x = refl

-- nothing has changed
same-live : {K A T : Type 0} (s : ContextView K A T) → SameLive s s
same-live s = record {
  nodes = record {
    live = λ n. refl;
    children = λ n. refl;
    parents = λ n. refl;
    ops = λ p l. refl;
    blocks = λ p l. refl;
    limit = refl;
  };
  types = refl;
}

-- the blocks below a live operation are live
pub blocks-live : {K A T : Type 0} (s : ContextView K A T) → IsStanding s → (root : Ptr OperationKind) →
    IsLive s (Operation root) → (bs : List (Ptr BlockKind)) → AreBlocksBelow s root bs → (b : Ptr BlockKind) →
    Has bs b → IsLive s (BasicBlock b)
blocks-live s stands root live bs below b h =
    under-live (look s) stands.forest (Operation root) (BasicBlock b) live (below.only b h)

module _ {K A T : Type 0} (removes : ℕ → OpView K A → Bool) (forwards : ℕ → OpView K A → Option Places)
    (root : Ptr OperationKind) where
  -- what was found stands below the root
  pub can-below : (s : ContextView K A T) (bs : List (Ptr BlockKind)) (found : Found) → AreBlocksBelow s root bs →
      IsFound removes forwards s bs found → CanDropBelow removes forwards root s found.block found.place
  can-below s bs found below h =
      record { below = below.only found.block (Has-at bs found.at found.block h.at); can = h.can }

module _ {K A T : Type 0} (removes : ℕ → OpView K A → Bool) (forwards : ℕ → OpView K A → Option Places)
    (root : Ptr OperationKind) (keys : List (List ℕ)) where
  abbrev Went : ContextView K A T → List Step → ContextView K A T → Type 0
  Went = AreSteps removes forwards root keys

  steps-on : (s t u : ContextView K A T) (xs ys : List Step) → Went s xs t → Went t ys u → Went s (xs ++ ys) u
  steps-on s t u [] ys e h = subst (λ z. Went z ys u) e h
  steps-on s t u (x ∷ xs) ys h k = (h.0, h.1, h.2, steps-on h.0 t u xs ys h.3 k)

  pub one-step : (s t : ContextView K A T) (b c : Ptr BlockKind) (i : ℕ) → CanDropBelow removes forwards root s b i →
      IsDropped keys forwards s t b i c → IsOneStep removes forwards root keys s t
  one-step s t b c i can dropped = (record { block = b; place = i; new = c }, (t, can, dropped, refl))

  -- steps leave the types and the limit
  steps-types : (s t : ContextView K A T) (xs : List Step) → Went s xs t → t.types ≡ s.types
  steps-types s t [] e = ap (λ z. z.types) e
  steps-types s t (x ∷ xs) h = steps-types h.0 t xs h.3 ∙ h.2.types

  steps-limit : (s t : ContextView K A T) (xs : List Step) → Went s xs t → limit t ≡ limit s
  steps-limit s t [] e = ap limit e
  steps-limit s t (x ∷ xs) h = steps-limit h.0 t xs h.3 ∙ h.2.limit

  pub cut-types : (s t : ContextView K A T) (e : NodeErr) → AreCutShort removes forwards root keys s t e →
      t.types ≡ s.types
  cut-types s t e cut = cut.same.types ∙ steps-types s cut.before cut.steps cut.went

  pub cut-limit : (s t : ContextView K A T) (e : NodeErr) → AreCutShort removes forwards root keys s t e →
      limit t ≡ limit s
  cut-limit s t e cut = cut.same.nodes.limit ∙ steps-limit s cut.before cut.steps cut.went

  -- memory was refused at once, where nothing has changed, or behind one step
  pub cut-here : (s t : ContextView K A T) (e : NodeErr) → IsStepRefusal removes forwards root s e → SameLive s t →
      AreCutShort removes forwards root keys s t e
  cut-here s t e refused same = record { before = s; steps = []; went = refl; refused = refused; same = same }

  pub cut-at-once : (s : ContextView K A T) → AreCutShort removes forwards root keys s s Memory
  cut-at-once s = cut-here s s Memory tt (same-live s)

  pub cut-behind : (s t : ContextView K A T) → IsOneStep removes forwards root keys s t →
      AreCutShort removes forwards root keys s t Memory
  cut-behind s t one =
      record { before = t; steps = one.0 ∷ []; went = one.1; refused = tt; same = same-live t }

  -- why one argument was not dropped
  pub refusal : (s : ContextView K A T) (b : Ptr BlockKind) (i : ℕ) (e : NodeErr) →
      CanDropBelow removes forwards root s b i → (e ≡ TooManyNodes → IsFullForBlock s.nodes) →
      IsStepRefusal removes forwards root s e
  refusal s b i Memory can full = tt
  refusal s b i TooManyNodes can full = (b, i, can, full refl)

  module _ (handles : A → List ℕ) (s : ContextView K A T) where
    -- from s on it has come to t, and these are the blocks below the root
    pub record IsGoing (t : ContextView K A T) (any : Bool) (bs : List (Ptr BlockKind)) : Type 0 where
      pub steps : List Step
      pub went : AreSteps removes forwards root keys s steps t
      pub told : any ≡ is_any steps
      pub below : AreBlocksBelow t root bs
      pub live : IsLive t (Operation root)
      pub whole : IsWellFormed handles t

    pub going-start : (bs : List (Ptr BlockKind)) → AreBlocksBelow s root bs → IsLive s (Operation root) →
        IsWellFormed handles s → IsGoing s false bs
    going-start bs below live whole =
        record { steps = []; went = refl; told = refl; below = below; live = live; whole = whole }

    module _ (t : ContextView K A T) (any : Bool) (bs : List (Ptr BlockKind)) (h : IsGoing t any bs) where
      -- one step more
      pub going-on : (u : ContextView K A T) (cs : List (Ptr BlockKind)) → IsOneStep removes forwards root keys t u →
          AreBlocksBelow u root cs → IsLive u (Operation root) → IsWellFormed handles u → IsGoing u true cs
      going-on u cs one below live whole = record {
        steps = h.steps ++ one.0 ∷ [];
        went = steps-on s t u h.steps (one.0 ∷ []) h.went one.1;
        told = any-more h.steps one.0;
        below = below;
        live = live;
        whole = whole;
      }

      -- a step that was refused
      pub going-cut : (u : ContextView K A T) (e : NodeErr) → AreCutShort removes forwards root keys t u e →
          AreCutShort removes forwards root keys s u e
      going-cut u e cut = record {
        before = cut.before;
        steps = h.steps ++ cut.steps;
        went = steps-on s t cut.before h.steps cut.steps h.went cut.went;
        refused = cut.refused;
        same = cut.same;
      }

      pub going-stop : AreCutShort removes forwards root keys s t Memory
      going-stop = going-cut t Memory (cut-at-once t)

      -- and no step more
      pub going-done : (o : Option _) → o ≡ None → IsSearched removes forwards t bs o →
          AreAllDropped removes forwards root keys s t any
      going-done o none searched = record {
        steps = h.steps;
        went = h.went;
        told = h.told;
        whole = λ b i can. (let f = subst (IsSearched removes forwards t bs) none searched in
            f b (h.below.all b can.below) i can.can);
      }

      pub going-types : t.types ≡ s.types
      going-types = steps-types s t h.steps h.went

      pub going-limit : limit t ≡ limit s
      going-limit = steps-limit s t h.steps h.went

      pub going-unchanged : any ≡ false → t ≡ s
      going-unchanged off = by h.steps h.went (sym h.told ∙ off)
        where
          by : (xs : List Step) → AreSteps removes forwards root keys s xs t → is_any xs ≡ false → t ≡ s
          by [] e is = e
          by (x ∷ xs) k is = absurd (true≢false is)

-- the uses that are listed of a block are of successors
pub of-successors : {K A T : Type 0} (s : ContextView K A T) (b : Ptr BlockKind) (us : List (Use (Ptr BlockKind))) →
    AreUses s b us → AreOfSuccessors s us
of-successors s b us h = λ u has.
    (let k = h.each u has in (k.0, slice_get_within (successors_of s u.op) u.index b k.1))
