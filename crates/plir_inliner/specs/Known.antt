-- What is known of bodies, and of tables.
use Rattle.std.specs.Prelude.{◌≡◌, ℕ, Bool, true, ◌&&◌, nat_eq, Option, Some, None}
use Rattle.std.specs.HashMap.{get}
use Rattle.plir_core.specs.declared.ptr.Ptr.{Ptr}
use Rattle.plir_core.specs.declared.ptr.BasicBlock.{BasicBlock as BlockKind}
use Rattle.plir_core.specs.Contents.{OpView}
use Rattle.plir_core.specs.ContextView.{ContextView}
use Rattle.plir_builtin.specs.Agree.{AllAgree, AreGivenOut}
use Rattle.plir_builtin.specs.Table.{Tables}
use Rattle.plir_flow.specs.Branches.{Range as Places}
use Rattle.plir_flow_sets.specs.Calls.{CallView}
use Rattle.plir_inliner.specs.declared.bodies.Bodies.{Bodies}
use Rattle.plir_inliner.specs.Listed.{IsCost}
use Rattle.plir_inliner.specs.Plain.{IsPlain}

-- equality of pointers, as it is derived
abbrev pub ptr_eq : {X : Type 0} → Ptr X → Ptr X → Bool
ptr_eq p q = nat_eq p.slot q.slot && (nat_eq p.version q.version && true)

module _ {K A T : Type 0} (own_symbol : K → Bool) (calls : OpView K A → Option CallView)
    (returned : OpView K A → Option Places) (s : ContextView K A T) where
  -- a block is plain, and its copy costs this; or, where nothing is told, it is not plain
  abbrev pub IsTold : Ptr BlockKind → Option ℕ → Type 0
  IsTold b (Some n) = IsPlain own_symbol calls returned s b × IsCost s b n
  IsTold b None = IsPlain own_symbol calls returned s b → ⊥

  -- what is known of each block is so
  abbrev pub AreRight : Bodies → Type 0
  AreRight known = (b : Ptr BlockKind) (told : Option ℕ) → get ptr_eq known.told b ≡ Some told → IsTold b told

module _ {K A T : Type 0} (own_symbol own_table : K → Bool) where
  -- all tables agree, and none is cached for what is still to be given out
  pub record AreSure (s : ContextView K A T) (c : Tables) : Type 0 where
    pub agree : AllAgree own_symbol own_table s c
    pub given : AreGivenOut s c

  -- tables of which that holds in s agree in t, and it holds of them there
  abbrev pub AgreeStill : (s t : ContextView K A T) → Type 0
  AgreeStill s t = (c : Tables) → AreSure s c → AllAgree own_symbol own_table t c

  abbrev pub SureStill : (s t : ContextView K A T) → Type 0
  SureStill s t = (c : Tables) → AreSure s c → AreSure t c
