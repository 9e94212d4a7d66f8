-- Nothing that a printed operation uses has a fault where its text is read, if each name means what it was written
-- for.
use Rattle.std.proofs.Common.{◌≡◌, ℕ, zero, suc, Bool, List, [], Option, Some, None, refl, sym, subst, arith}
use Rattle.plir_data.specs.Types.{IsTypeTable}
use Rattle.plir_data.specs.declared.op_set.OpKind.{OpKind}
use Rattle.plir_data.specs.declared.op_set.OpKind.TheVariants.{Module, Func, Constant, ForwardRef, Own}
use Rattle.plir_data.specs.declared.op_set.OpSet as op_set
use Rattle.plir_store.specs.Members.{Has}
use Rattle.plir_core.specs.Contents.{OpView}
use Rattle.plir_core.specs.ContextView.{ContextView, kind_of}
use Rattle.plir_core.specs.Standing.{IsStanding}
use Rattle.plir_core.specs.WellFormed.{IsWellFormed}
use Rattle.plir_core.specs.declared.ptr.Ptr.{Ptr}
use Rattle.plir_core.specs.declared.ptr.Operation.{Operation as OperationKind}
use Rattle.plir_core.specs.declared.ptr.IRNode.{IRNode}
use Rattle.plir_core.specs.declared.ptr.IRNode.TheVariants.{Operation}
use Rattle.plir_attr_text.specs.Names.{Grows}
use Rattle.plir_attr_text.specs.TypeGrammar.{IsText}
use Rattle.plir_print.specs.OpText.{op_text, room}
use Rattle.plir_read.specs.OpsStanding.{HoldsOp}
use Rattle.plir_read_ir.specs.IrGrammar.{IrWithin}
use Rattle.plir_read_ir.specs.IrStanding.{IsIrAt}
use Rattle.plir_read_ir.specs.IrTerms.{IrOp}
use Rattle.plir_read_ir.specs.Mentions.{Mention, nowhere, op_mentions, uses_in}
use Rattle.plir_read_ir.specs.UseFaults.{HasUseFault, IsFrontMade, IsUnmeant}
use Rattle.plir_read_ir.specs.declared.fault.IrFault.{IrFault}
use Rattle.plir_roundtrip.specs.Readable.{IsKindReadable, IsOpReadable}
use Rattle.plir_roundtrip.specs.IrReadable.{HasReadableText, IsReadableAs}
use Rattle.plir_roundtrip.specs.IrWritten.{front_of, ir_term_at, ir_term_of}
use Rattle.plir_roundtrip.specs.UsesMeant.{UsesStand, mentions_of}
use Rattle.plir_roundtrip.proofs.Children.{HasRoom, some_room}
use Rattle.plir_roundtrip.proofs.IrChildren.{op_readable}
use Rattle.plir_roundtrip.proofs.IrReadBack.{IsOfOneIr}
use Rattle.plir_roundtrip.proofs.IrStands.{ir_stands}
use Rattle.plir_roundtrip.proofs.MadeTold.{IsKnown, IsTypedSame, made_told}
use Rattle.plir_roundtrip.proofs.Mentioned.{op_told}
use Rattle.plir_roundtrip.proofs.OnePlace.{one_place}
use Rattle.plir_roundtrip.proofs.OpSame.{op_held}
use Rattle.plir_roundtrip.proofs.Related.{SayAlike}
use Rattle.plir_roundtrip.proofs.UsesGood.{AreGood, good_told, refuted}

module _ {D K A T E : Type 0} (o : op_set.Ghosts D K A T E) (find : List ℕ → Option K) (isolated : K → Bool)
    (s t : ContextView K A T) (st : IsStanding s) (p : Ptr OperationKind) (readable : HasReadableText o find s p) where
  -- ---- what was made of the operation is an operation

  front_there : (n : IRNode) → IsFrontMade t nowhere n (front_of o s (kind_of s p) p)
      → (q : Ptr OperationKind) × (n ≡ Operation q)
  front_there n h = by (kind_of s p) refl (op_readable o find s p readable.nodes) h
    where
      builtin : (kind : Option (OpKind K)) → kind_of s p ≡ kind → IsOpReadable s p → IsKindReadable s kind p
      builtin kind is r = subst (λ z. IsKindReadable s z p) is r.kind

      held : (v : OpView K A) → HoldsOp t n v → (q : Ptr OperationKind) × (n ≡ Operation q)
      held v h = let q = op_held t n v h in (q.0, q.1)

      by : (kind : Option (OpKind K)) → kind_of s p ≡ kind → IsReadableAs o find s kind p
          → IsFrontMade t nowhere n (front_of o s kind p) → (q : Ptr OperationKind) × (n ≡ Operation q)
      by (Some Module) is r h = held _ h.2
      by (Some Func) is r h = let head = h.2 in held _ head.2
      by (Some Constant) is r h = held _ h.3
      by (Some ForwardRef) is r h = absurd (builtin (Some ForwardRef) is r)
      by (Some (Own k)) is r h = held _ h.holds
      by None is r h = absurd (builtin None is r)

  made_there : (n : IRNode) (k : ℕ) → HasRoom s (Operation p) k
      → IsIrAt isolated t (IsFrontMade t) nowhere n (ir_term_at o s k (Operation p))
      → (q : Ptr OperationKind) × (n ≡ Operation q)
  made_there n zero room h = absurd (some_room s st (Operation p) room)
  made_there n (suc k) room h = front_there n h.0

module _ {D K A T E : Type 0} (o : op_set.Ghosts D K A T E) (find : List ℕ → Option K) (isolated : K → Bool)
    (standing : (s : ContextView K A T) → IsWellFormed o.attr_handles s → IsStanding s) (one : IsOfOneIr find)
    (s t : ContextView K A T) (whole : IsWellFormed o.attr_handles s) (well : IsWellFormed o.attr_handles t)
    (g : Grows s.types t.types) (table : IsTypeTable o.type_handles t.types) (p : Ptr OperationKind)
    (readable : HasReadableText o find s p) (uses : UsesStand o isolated s p) where
  abbrev term : IrOp K
  term = ir_term_of o s p

  abbrev ms : List Mention
  ms = mentions_of o isolated s p

  enough : HasRoom s (Operation p) (room s (Operation p))
  enough = omega arith

  -- what an operation that was made uses has no fault
  abbrev IsRefuted : IrFault → IRNode → IrOp K → Type 0
  IsRefuted fault n w =
      IsIrAt isolated t (IsFrontMade t) nowhere n w → (m : Mention)
      → Has (uses_in (op_mentions isolated t nowhere n w)) m
      → IsUnmeant t (op_mentions isolated t nowhere n w) fault m → ⊥

  refuted_at : (fault : IrFault) (q : Ptr OperationKind) → IsRefuted fault (Operation q) term
  refuted_at fault q stands m used unmeant =
      let st = standing s whole in
      let once = one_place s st (Operation p) in
      let again = one_place t (standing t well) (Operation q) in
      let ns = op_mentions isolated t nowhere (Operation q) term in
      let known : IsKnown o find isolated s ms nowhere (Operation p) =
      record { readable = readable.nodes; meant = uses } in
      let said : SayAlike s t (Operation p) (Operation q) (IsTypedSame s t (Operation p) (Operation q)) ms ns =
      op_told o isolated s t (Operation p) (Operation q) (IsFrontMade t) st (IsKnown o find isolated s ms)
      (SayAlike s t (Operation p) (Operation q) (IsTypedSame s t (Operation p) (Operation q)))
      (made_told o find isolated s t whole g table (Operation p) (Operation q) ms) (room s (Operation p)) nowhere
      nowhere p q (record { body = tt; region = tt }) enough ([], refl, refl) known stands in
      let good =
      op_told o isolated s t (Operation p) (Operation q) (IsFrontMade t) st (IsKnown o find isolated s ms)
      (λ us vs. AreGood o find isolated s t whole g table (Operation p) (Operation q) once again ms ns said vs)
      (good_told o find isolated s t whole g table (Operation p) (Operation q) once again ms ns said)
      (room s (Operation p)) nowhere nowhere p q (record { body = tt; region = tt }) enough ([], refl, refl) known
      stands in
      refuted o find isolated s t whole g table (Operation p) (Operation q) once again ms ns said fault m
      (good m used) unmeant

  pub no_fault : (text : List ℕ) → text ≡ op_text o s p → (fault : IrFault)
      → HasUseFault find isolated 200 t text fault → ⊥
  no_fault text is fault f =
      let st = standing s whole in
      let ours =
      subst (λ l. IsText (IrWithin find 200) l term) (sym is) (ir_stands o find s whole st p readable) in
      let same : f.op ≡ term = one 200 200 text f.op term f.text ours in
      let stands = subst (λ w. IsIrAt isolated t (IsFrontMade t) nowhere f.root w) same f.stands in
      let q = made_there o find isolated s t st p readable f.root (room s (Operation p)) enough stands in
      let here : IsRefuted fault f.root f.op =
      subst (IsRefuted fault f.root) (sym same)
      (subst (λ n. IsRefuted fault n term) (sym q.1) (refuted_at fault q.0)) in
      here f.stands f.use_of f.used f.unmeant
