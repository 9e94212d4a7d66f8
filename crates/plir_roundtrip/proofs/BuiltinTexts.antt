-- A builtin operation that can be read back can be read as an operation of any kind.
use Rattle.std.proofs.Common.{◌≡◌, ℕ, zero, suc, max, ◌≤◌, Bool, List, [], ◌∷◌, map, inl, inr, Option, Some, None}
use Rattle.std.proofs.Common.{flat_map}
use Rattle.std.proofs.Common.{refl, sym, ap, subst, ◌∙◌, arith, append-nil}
use Rattle.std.specs.Prelude.{slice_get, MatchOption}
use Rattle.plir_data.specs.declared.op_set.OpKind.{OpKind}
use Rattle.plir_data.specs.declared.op_set.OpKind.TheVariants.{Module, Func, Constant, ForwardRef, Own}
use Rattle.plir_data.specs.declared.op_set.OpSet as op_set
use Rattle.plir_names.specs.declared.names.Meaning.TheVariants.{Only}
use Rattle.plir_store.specs.MemberLaws.{Has-at}
use Rattle.plir_store.specs.Members.{Has}
use Rattle.plir_core.specs.ContextView.{ContextView, children, kind_of}
use Rattle.plir_core.specs.Standing.{IsStanding}
use Rattle.plir_core.specs.declared.ptr.Ptr.{Ptr}
use Rattle.plir_core.specs.declared.ptr.Operation.{Operation as OperationKind}
use Rattle.plir_core.specs.declared.ptr.BasicBlock.{BasicBlock as BlockKind}
use Rattle.plir_core.specs.declared.ptr.IRNode.{IRNode}
use Rattle.plir_core.specs.declared.ptr.IRNode.TheVariants.{Operation, Region, BasicBlock}
use Rattle.plir_print.specs.OpText.{room}
use Rattle.plir_print.specs.ValueNames.{block_name, value_name}
use Rattle.plir_walk.specs.Tree.{Place}
use Rattle.plir_walk.specs.TreeLaws.{under-child}
use Rattle.plir_read.specs.OpTerms as terms
use Rattle.plir_read.specs.OpTerms.{OpTerm, header_levels}
use Rattle.plir_read_ir.specs.IrTerms.{IrOp, blocks_levels, blocks_of, front_levels, ir_op, op_levels, ops_levels}
use Rattle.plir_read_ir.specs.IrTerms.{ops_of, regions_levels, regions_of}
use Rattle.plir_read_ir.specs.Mentions.{Mention, Scope, block_meant, nowhere, value_meant}
use Rattle.plir_roundtrip.specs.Readable.{IsBodyReadable, IsConstantReadable, IsKindReadable}
use Rattle.plir_roundtrip.specs.Readable.{IsOpReadable, IsReadable}
use Rattle.plir_roundtrip.specs.ReadableParts.{AllReadable}
use Rattle.plir_roundtrip.specs.Written.{block_term, blocks_under, header_term, term_at, term_of_kind}
use Rattle.plir_roundtrip.specs.IrReadable.{AreIrReadable, HasReadableText, IsReadableAs}
use Rattle.plir_roundtrip.specs.IrWritten.{block_written, front_of, ir_term_at, region_written}
use Rattle.plir_roundtrip.specs.UsesMeant.{IsMeantBelow, UsesStand, mentions_of, scope_in}
use Rattle.plir_roundtrip.proofs.Children.{HasRoom, child_of_block, child_of_region, child_room, lower_room}
use Rattle.plir_roundtrip.proofs.Children.{only_region, some_room}

module _ {K A T : Type 0} (s : ContextView K A T) where
  -- what stands under one all of which can be read
  all_below : (a x : IRNode) → Has (children s a) x → AllReadable s a → AllReadable s x
  all_below a x h all = record {
    ops = λ q u. all.ops q (under-child (children s) a x (Operation q) h u);
    blocks = λ b u. all.blocks b (under-child (children s) a x (BasicBlock b) h u);
  }

  -- ---- levels

  module _ (f : IRNode → IrOp K) (g : IRNode → OpTerm) where
    ops_same : (xs : List IRNode) → ((x : IRNode) → Has xs x → op_levels (f x) ≡ terms.op_levels (g x))
        → ops_levels (ops_of (map f xs)) ≡ terms.ops_levels (terms.ops_of (map g xs))
    ops_same [] each = refl
    ops_same (x ∷ xs) each =
        ap (λ n. max n (ops_levels (ops_of (map f xs)))) (each x (inl refl))
        ∙ ap (max (terms.op_levels (g x))) (ops_same xs (λ y h. each y (inr h)))

    head_same : (x : IRNode) → (block_written s f x).0 ≡ (block_term s g x).0
    head_same (Operation p) = refl
    head_same (Region r) = refl
    head_same (BasicBlock b) = refl

    blocks_same : (xs : List IRNode)
        → ((x : IRNode) → Has xs x
        → ops_levels (ops_of (block_written s f x).1) ≡ terms.ops_levels (terms.ops_of (block_term s g x).1))
        → blocks_levels (blocks_of (map (block_written s f) xs)) ≡
        terms.blocks_levels (terms.blocks_of (map (block_term s g) xs))
    blocks_same [] each = refl
    blocks_same (x ∷ xs) each =
        let others = blocks_levels (blocks_of (map (block_written s f) xs)) in
        let inside = terms.ops_levels (terms.ops_of (block_term s g x).1) in
        ap (λ h. max (terms.block_levels h) (max (ops_levels (ops_of (block_written s f x).1)) others)) (head_same x)
        ∙ ap (λ n. max (terms.block_levels (block_term s g x).0) (max n others)) (each x (inl refl))
        ∙ ap (λ n. max (terms.block_levels (block_term s g x).0) (max inside n))
        (blocks_same xs (λ y h. each y (inr h)))

module _ {D K A T E : Type 0} (o : op_set.Ghosts D K A T E) (s : ContextView K A T) (st : IsStanding s) where
  -- an operation has as many levels in both grammars
  abbrev HasSame : ℕ → Type 0
  HasSame k = (p : Ptr OperationKind) → HasRoom s (Operation p) k → AllReadable s (Operation p) →
      op_levels (ir_term_at o s k (Operation p)) ≡ terms.op_levels (term_at o s k (Operation p))

  abbrev InBlock : ℕ → IRNode → Type 0
  InBlock k x = ops_levels (ops_of (block_written s (ir_term_at o s k) x).1) ≡
      terms.ops_levels (terms.ops_of (block_term s (term_at o s k) x).1)

  in_block : (k : ℕ) → HasSame k → (d : Ptr BlockKind) → HasRoom s (BasicBlock d) k → AllReadable s (BasicBlock d)
      → InBlock k (BasicBlock d)
  in_block k same d enough all =
      ops_same s (ir_term_at o s k) (term_at o s k) (children s (BasicBlock d)) (λ y m.
      let q = child_of_block s d y m in
      subst (λ z. op_levels (ir_term_at o s k z) ≡ terms.op_levels (term_at o s k z)) (sym q.1)
      (same q.0 (subst (λ z. HasRoom s z k) q.1 (lower_room s st (BasicBlock d) y k m enough))
      (subst (AllReadable s) q.1 (all_below s (BasicBlock d) y m all))))

  in_region : (k : ℕ) → HasSame k → (p : Ptr OperationKind) → HasRoom s (Operation p) (suc k)
      → AllReadable s (Operation p) → (b : IsBodyReadable s p)
      → regions_levels (regions_of (map (region_written s (ir_term_at o s k)) (children s (Operation p)))) ≡
      terms.blocks_levels (terms.blocks_of (map (block_term s (term_at o s k)) (blocks_under s p)))
  in_region k same p enough all b =
      let r = only_region s p b.region b.body in
      let there : Has (children s (Operation p)) b.region = subst (λ l. Has l b.region) (sym b.body) (inl refl) in
      let room_in : HasRoom s b.region k = child_room s st (Operation p) b.region k there enough in
      let all_in = all_below s (Operation p) b.region there all in
      let each : (x : IRNode) → Has (children s b.region) x → InBlock k x =
      λ x m. let d = child_of_region s r.0 x (subst (λ z. Has (children s z) x) r.1 m) in
      subst (InBlock k) (sym d.1) (in_block k same d.0
      (subst (λ z. HasRoom s z k) d.1 (lower_room s st b.region x k m room_in))
      (subst (AllReadable s) d.1 (all_below s b.region x m all_in))) in
      let blocks = blocks_levels (blocks_of (map (block_written s (ir_term_at o s k)) (children s b.region))) in
      let none : max blocks 0 ≡ blocks = omega arith in
      ap (λ l. regions_levels (regions_of (map (region_written s (ir_term_at o s k)) l))) b.body ∙ none
      ∙ blocks_same s (ir_term_at o s k) (term_at o s k) (children s b.region) each
      ∙ ap (λ l. terms.blocks_levels (terms.blocks_of (map (block_term s (term_at o s k)) l)))
      (sym (ap (flat_map (children s)) b.body ∙ append-nil (children s b.region)))

  module _ (k : ℕ) (p : Ptr OperationKind) where
    -- the operation in both grammars, if it were of a kind
    abbrev levels_as : Option (OpKind K) → ℕ
    levels_as kind =
        op_levels (ir_op (front_of o s kind p)
        (regions_of (map (region_written s (ir_term_at o s k)) (children s (Operation p)))))

    abbrev other_levels_as : Option (OpKind K) → ℕ
    other_levels_as kind =
        terms.op_levels (term_of_kind o s kind
        (terms.blocks_of (map (block_term s (term_at o s k)) (blocks_under s p))) p)

    constant_same : IsConstantReadable s p → levels_as (Some Constant) ≡ other_levels_as (Some Constant)
    constant_same r =
        let front = front_levels (front_of o s (Some Constant) p) in
        let none : suc (max front 0) ≡ suc front = omega arith in
        ap (λ l. suc (max front (regions_levels (regions_of (map (region_written s (ir_term_at o s k)) l))))) r.regions
        ∙ none

    level_step : HasSame k → HasRoom s (Operation p) (suc k) → AllReadable s (Operation p)
        → levels_as (kind_of s p) ≡ other_levels_as (kind_of s p)
    level_step same enough all = at (kind_of s p) (all.ops p ([], refl)).kind
      where
        at : (kind : Option (OpKind K)) → IsKindReadable s kind p → levels_as kind ≡ other_levels_as kind
        at (Some Module) b =
            ap (λ n. suc (max (header_levels (header_term o s (Some Module) p)) n)) (in_region k same p enough all b)
        at (Some Func) b =
            ap (λ n. suc (max (header_levels (header_term o s (Some Func) p)) n)) (in_region k same p enough all b)
        at (Some Constant) r = constant_same r
        at (Some ForwardRef) b = absurd b
        at (Some (Own x)) b = absurd b
        at None b = absurd b

  pub same_levels : (k : ℕ) → HasSame k
  same_levels zero p enough all = absurd (some_room s st (Operation p) enough)
  same_levels (suc k) p enough all = level_step k p (λ q r a. same_levels k q r a) enough all

-- ---- what is used

module _ {D K A T E : Type 0} (o : op_set.Ghosts D K A T E) (find : List ℕ → Option K) (isolated : K → Bool)
    (s : ContextView K A T) where
  -- nothing is
  meant : (ms : List Mention) (place : Place) (at : Scope) (x : IRNode) → AllReadable s x
      → IsMeantBelow o isolated s ms place at x
  meant ms [] at (Operation p) all =
      let r = all.ops p ([], refl) in
      record {
        operands =
            subst (λ l. map (λ v. value_meant ms (at.body, value_name s v)) l ≡ map Only l) (sym r.operands) refl;
        successors =
            subst (λ l. map (λ b. block_meant ms (at.region, block_name s b)) l ≡ map Only l) (sym r.successors) refl;
      }
  meant ms [] at (Region r) all = tt
  meant ms [] at (BasicBlock b) all = tt
  meant ms (i ∷ place) at x all =
      by (slice_get (children s x) i) (λ c e. meant ms place (scope_in o isolated s at x) c
      (all_below s x c (Has-at (children s x) i c e) all))
    where
      by : (c : Option IRNode)
          → ((d : IRNode) → c ≡ Some d → IsMeantBelow o isolated s ms place (scope_in o isolated s at x) d)
          → MatchOption c (Unit {0}) (λ d. IsMeantBelow o isolated s ms place (scope_in o isolated s at x) d)
      by None each = tt
      by (Some d) each = each d refl

  readable_as : (kind : Option (OpKind K)) (p : Ptr OperationKind) → kind_of s p ≡ kind → IsOpReadable s p
      → IsReadableAs o find s kind p
  readable_as (Some Module) p is r = r
  readable_as (Some Func) p is r = r
  readable_as (Some Constant) p is r = r
  readable_as (Some ForwardRef) p is r = r
  readable_as (Some (Own k)) p is r = absurd (subst (λ z. IsKindReadable s z p) is r.kind)
  readable_as None p is r = r

  pub builtin_text_read : IsStanding s → (p : Ptr OperationKind) → IsReadable o s p
      → HasReadableText o find s p × UsesStand o isolated s p
  builtin_text_read st p readable =
      let all : AllReadable s (Operation p) = record { ops = readable.ops; blocks = readable.blocks } in
      let nodes : AreIrReadable o find s (Operation p) = record {
        ops = λ q u. readable_as (kind_of s q) q refl (readable.ops q u);
        blocks = readable.blocks;
      } in
      let enough : HasRoom s (Operation p) (room s (Operation p)) = omega arith in
      let same = same_levels o s st (room s (Operation p)) p enough all in
      let few = readable.levels in (
        record { nodes = nodes; levels = subst (λ n. n ≤ 200) (sym same) few },
        λ place. meant (mentions_of o isolated s p) place nowhere (Operation p) all,
      )
