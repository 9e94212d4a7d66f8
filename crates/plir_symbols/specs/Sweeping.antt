-- What one step and one round of the pass over the symbols of a table leave.
use Rattle.std.specs.Prelude.{◌≡◌, ◌<◌, Bool, true, false, Some, ◌⊎◌}
use Rattle.plir_store.specs.Members.{Has}
use Rattle.plir_core.specs.declared.ptr.Ptr.{Ptr}
use Rattle.plir_core.specs.declared.ptr.Operation.{Operation as OperationKind}
use Rattle.plir_core.specs.declared.ptr.BasicBlock.{BasicBlock as BasicBlockKind}
use Rattle.plir_core.specs.declared.ptr.IRNode.TheVariants.{Operation, BasicBlock}
use Rattle.plir_core.specs.Contents.{OpView}
use Rattle.plir_core.specs.ContextView.{ContextView, IsLive, num_live, children}
use Rattle.plir_core.specs.Erase.{IsErased}
use Rattle.plir_core.specs.Standing.{IsStanding}
use Rattle.plir_core.specs.Unused.{without_tree}
use Rattle.plir_walk.specs.Thinned.{IsThinned}
use Rattle.plir_builtin.specs.Table.{Table}
use Rattle.plir_builtin.specs.Symbols.{body}
use Rattle.plir_builtin.specs.Agree.{KeepsAgreement, KeepsAllAgree, KeepsGivenOut}
use Rattle.plir_symbols.specs.SweptSymbols.{AreSwept, ops_that, without_each}

module _ {K A T : Type 0} (own_symbol own_table : K → Bool) where
  -- The context goes from s to t and a table from c to d: it is the same operation's, and where it agreed, alone or
  -- among all tables of a collection, it agrees.
  pub record IsTableKept (s : ContextView K A T) (c : Table) (t : ContextView K A T) (d : Table) : Type 0 where
    pub op : d.op ≡ c.op
    pub agrees : KeepsAgreement own_symbol own_table s c t d
    pub all_agree : KeepsAllAgree own_symbol own_table s c t d
    pub given : KeepsGivenOut s c t d

  -- A symbol was erased, and its name taken out of the table.
  pub record IsSymbolErased (s : ContextView K A T) (c : Table) (p : Ptr OperationKind) (t : ContextView K A T)
      (d : Table) : Type 0 where
    pub after : t ≡ without_tree s (Operation p)
    pub tree : IsErased s.nodes t.nodes (Operation p)
    pub thinned : IsThinned s t
    pub kept : IsTableKept s c t d

  -- A symbol goes and was erased, and the flag is set; or it stays, and nothing has changed.
  abbrev pub IsSweptAt : ContextView K A T → Table → (goes flag : Bool) → Ptr OperationKind → Bool →
      ContextView K A T → Table → Type 0
  IsSweptAt s c goes flag p flag' t d =
      ((goes ≡ true) × (flag' ≡ true) × IsSymbolErased s c p t d)
      ⊎ ((goes ≡ false) × (flag' ≡ flag) × (t ≡ s) × (d ≡ c))

  module _ (is_private : OpView K A → Bool) where
    -- What a round over the body b leaves: the operations there that go were erased in their order, which could go
    -- then; the table is kept, and it still has its body. Where the flag is clear none goes, and nothing has changed;
    -- where it is set there are fewer nodes.
    pub record IsRound (s : ContextView K A T) (c : Table) (b : Ptr BasicBlockKind) (goes : Ptr OperationKind → Bool)
        (flag : Bool) (t : ContextView K A T) (d : Table) : Type 0 where
      pub swept : AreSwept own_symbol is_private s t
      pub after : t ≡ without_each s (ops_that goes (children s (BasicBlock b)))
      pub kept : IsTableKept s c t d
      pub standing : IsStanding t
      pub live : IsLive t (Operation c.op)
      pub body : body t c.op ≡ Some (BasicBlock b)
      pub clear : flag ≡ false → (t ≡ s) × (d ≡ c) × ((p : Ptr OperationKind) →
          Has (children s (BasicBlock b)) (Operation p) → goes p ≡ false)
      pub set : flag ≡ true → num_live t < num_live s
