-- The text of an operation of any kind is tokens that stand for it.
use Rattle.std.proofs.Common.{◌≡◌, ℕ, zero, suc, ◌+◌, false, List, [], ◌∷◌, ◌++◌, codes, map, inl}
use Rattle.std.proofs.Common.{inr, Option, refl, sym, ap, subst, ◌∙◌, append_assoc}
use Rattle.std.proofs.Common.{flat_map}
use Rattle.plir_data.specs.TextParts.{parted, parted_from}
use Rattle.plir_data.specs.declared.op_set.OpSet as op_set
use Rattle.plir_store.specs.Members.{Has}
use Rattle.plir_core.specs.declared.ptr.Ptr.{Ptr}
use Rattle.plir_core.specs.declared.ptr.Operation.{Operation as OperationKind}
use Rattle.plir_core.specs.declared.ptr.Region.{Region as RegionKind}
use Rattle.plir_core.specs.declared.ptr.BasicBlock.{BasicBlock as BlockKind}
use Rattle.plir_core.specs.declared.ptr.IRNode.{IRNode}
use Rattle.plir_core.specs.declared.ptr.IRNode.TheVariants.{Operation, Region, BasicBlock}
use Rattle.plir_core.specs.Standing.{IsStanding}
use Rattle.plir_core.specs.ContextView.{ContextView, children, kind_of}
use Rattle.plir_attr_text.specs.Tokens.{Token, sign}
use Rattle.plir_attr_text.specs.laws.Lexing.{look-sign}
use Rattle.plir_attr_text.specs.laws.Printed.{Ends}
use Rattle.plir_attr_text.specs.laws.Runs.{Shown, Tail, Shown-as, Tail-as, nothing}
use Rattle.plir_attr_text.specs.Bytes.{is_in_word}
use Rattle.plir_print.specs.OpText.{line, text_at}
use Rattle.plir_read.specs.OpGrammar.{SpellsBlockHead}
use Rattle.plir_read.specs.OpTerms.{BlockHead}
use Rattle.plir_read_ir.specs.IrGrammar.{SpellsOp, SpellsOps, SpellsMoreOps, SpellsBlocks, SpellsRegions}
use Rattle.plir_read_ir.specs.IrTerms.{IrOp, ops_of, blocks_of, regions_of}
use Rattle.plir_roundtrip.specs.IrReadable.{AreIrReadable, IsIrOpReadable}
use Rattle.plir_roundtrip.specs.IrWritten.{block_written, region_written, ir_term_at}
use Rattle.plir_roundtrip.proofs.Children.{child_of_region, child_of_block, child_of_op}
use Rattle.plir_roundtrip.proofs.Children.{HasRoom, some_room, child_room, lower_room}
use Rattle.plir_roundtrip.proofs.IrChildren.{child_readable, op_readable, block_readable}
use Rattle.plir_roundtrip.proofs.OpParts.{block_front-shown}
use Rattle.plir_roundtrip.proofs.FrontsShown.{IsReadyAs, RegionsShown, op_front-shown}
use Rattle.plir_roundtrip.proofs.Joined.{Between, Then, both-shown, braced, line-shown, run-shown, sign-shown}
use Rattle.plir_roundtrip.proofs.Joined.{tail-shown}

-- ---- operations and blocks in a row

module _ {K : Type 0} (find : List ℕ → Option K) where
  module _ (write : IRNode → IrOp K) (text : IRNode → List ℕ) (n : ℕ) where
    more_ops-shown : (xs : List IRNode) → ((x : IRNode) → Has xs x → Shown (SpellsOp find (write x)) (text x))
        → Tail (SpellsMoreOps find (ops_of (map write xs))) (parted_from false (codes ";") (λ x. line n ++ text x) xs)
    more_ops-shown [] each = nothing
    more_ops-shown (x ∷ xs) each =
        Tail-as (λ ts s. (s.1.0, s.1.1, s.1.2, s.1.3, s.2 ∙ ap (λ l. sign 59 ∷ l) s.1.4))
        (tail-shown 59 refl (sign-shown 59 (look-sign 59 refl)
        (run-shown (both-shown (more_ops-shown xs (λ y h. each y (inr h))) (line-shown n (each x (inl refl)))))))

    pub ops-shown : (xs : List IRNode) → ((x : IRNode) → Has xs x → Shown (SpellsOp find (write x)) (text x))
        → Tail (SpellsOps find (ops_of (map write xs))) (parted (codes ";") (λ x. line n ++ text x) xs)
    ops-shown [] each = nothing
    ops-shown (x ∷ xs) each =
        tail-shown 10 refl (both-shown (more_ops-shown xs (λ y h. each y (inr h))) (line-shown n (each x (inl refl))))

  -- a block with its operations
  abbrev pub SpellsBlock : BlockHead × List (IrOp K) → List Token → Type 0
  SpellsBlock b = Then (SpellsBlockHead b.0) (SpellsOps find (ops_of b.1))

  module _ (write : IRNode → BlockHead × List (IrOp K)) (text : IRNode → List ℕ) (n : ℕ) where
    pub blocks-shown : (xs : List IRNode) → ((x : IRNode) → Has xs x → Shown (SpellsBlock (write x)) (text x))
        → Tail (SpellsBlocks find (blocks_of (map write xs))) (flat_map (λ x. line n ++ text x) xs)
    blocks-shown [] each = nothing
    blocks-shown (x ∷ xs) each =
        tail-shown 10 refl (Shown-as (λ ts s.
        (s.2.0, s.2.1, s.1, s.2.2, s.2.3, s.3, s.4 ∙ ap (λ l. l ++ s.1) s.2.4 ∙ append_assoc s.2.0 s.2.1 s.1))
        (both-shown (blocks-shown xs (λ y h. each y (inr h))) (line-shown n (each x (inl refl)))))

  -- ---- regions in a row

  module _ (write : IRNode → List (BlockHead × List (IrOp K))) (text : IRNode → List ℕ) where
    -- a region in braces
    abbrev pub RegionShown : IRNode → Type 0
    RegionShown x = Shown (Between 123 125 (SpellsBlocks find (blocks_of (write x)))) (text x) ×
        Tail (Between 123 125 (SpellsBlocks find (blocks_of (write x)))) (text x)

    regions-tail : (xs : List IRNode) → ((x : IRNode) → Has xs x → RegionShown x)
        → Tail (SpellsRegions find (regions_of (map write xs))) (flat_map text xs)
    regions-tail [] each = nothing
    regions-tail (x ∷ xs) each =
        let first = each x (inl refl) in
        let others = regions-tail xs (λ y h. each y (inr h)) in
        let all : Shown (SpellsRegions find (regions_of (map write (x ∷ xs)))) (text x ++ flat_map text xs) =
        Shown-as (λ ts q. (q.2.0, q.1, q.2.1, q.3, q.4 ∙ ap (λ l. l ++ q.1) q.2.2)) (both-shown others first.0) in
        record {
          run = run-shown all;
          ends = λ rest e. subst (Ends is_in_word) (sym (append_assoc (text x) (flat_map text xs) rest))
              (first.1.ends (flat_map text xs ++ rest) (others.ends rest e));
        }

    some-regions : (xs : List IRNode) (x : IRNode) (ys : List IRNode) → xs ≡ x ∷ ys
        → ((z : IRNode) → Has xs z → RegionShown z)
        → Shown (SpellsRegions find (regions_of (map write xs))) (flat_map text xs)
    some-regions [] x ys e each = absurd cc
    some-regions (z ∷ zs) x ys e each =
        Shown-as (λ ts q. (q.2.0, q.1, q.2.1, q.3, q.4 ∙ ap (λ l. l ++ q.1) q.2.2))
        (both-shown (regions-tail zs (λ y h. each y (inr h))) (each z (inl refl)).0)

    pub regions-shown : (xs : List IRNode) → ((x : IRNode) → Has xs x → RegionShown x)
        → RegionsShown find (regions_of (map write xs)) xs (flat_map text xs)
    regions-shown xs each = record { tail = regions-tail xs each; some = λ x ys e. some-regions xs x ys e each }

-- ---- an operation with all below it

module _ {D K A T E : Type 0} (o : op_set.Ghosts D K A T E) (find : List ℕ → Option K) (s : ContextView K A T)
    (st : IsStanding s) (ready : (p : Ptr OperationKind) → IsIrOpReadable o find s p →
    IsReadyAs o find s (kind_of s p) p) where
  -- a region, as it is written
  abbrev written : (j : ℕ) → IRNode → List (BlockHead × List (IrOp K))
  written j x = region_written s (ir_term_at o s j) x

  abbrev InBraces : (k n j : ℕ) → IRNode → Type 0
  InBraces k n j x = RegionShown find (written j) (text_at o s k n) x

  mutual
    pub op-shown : (k n j : ℕ) (p : Ptr OperationKind) → HasRoom s (Operation p) k → HasRoom s (Operation p) j
        → AreIrReadable o find s (Operation p)
        → Shown (SpellsOp find (ir_term_at o s j (Operation p))) (text_at o s k n (Operation p))
    op-shown zero n j p room enough all = absurd (some_room s st (Operation p) room)
    op-shown (suc k) n zero p room enough all = absurd (some_room s st (Operation p) enough)
    op-shown (suc k) n (suc j) p room enough all =
        op_front-shown o find s n p (written j) (flat_map (text_at o s k n) (children s (Operation p)))
        (regions-shown find (written j) (text_at o s k n) (children s (Operation p)) (λ x h.
        let r = child_of_op s p x h in
        subst (InBraces k n j) (sym r.1) (region-shown k n j r.0
        (subst (λ z. HasRoom s z k) r.1 (child_room s st (Operation p) x k h room))
        (subst (λ z. HasRoom s z j) r.1 (child_room s st (Operation p) x j h enough))
        (subst (AreIrReadable o find s) r.1 (child_readable o find s (Operation p) x h all)))))
        (ready p (op_readable o find s p all))

    region-shown : (k n j : ℕ) (r : Ptr RegionKind) → HasRoom s (Region r) k → HasRoom s (Region r) j
        → AreIrReadable o find s (Region r) → InBraces k n j (Region r)
    region-shown zero n j r room enough all = absurd (some_room s st (Region r) room)
    region-shown (suc k) n j r room enough all =
        let inside =
        braced n (blocks-shown find (block_written s (ir_term_at o s j)) (text_at o s k (n + 2)) (n + 2)
        (children s (Region r)) (λ x h. block-shown k (n + 2) j x (child_of_region s r x h)
        (child_room s st (Region r) x k h room) (lower_room s st (Region r) x j h enough)
        (child_readable o find s (Region r) x h all))).run in
        (inside, tail-shown 10 refl inside)

    block-shown : (k n j : ℕ) (x : IRNode) → (b : Ptr BlockKind) × (x ≡ BasicBlock b) → HasRoom s x k → HasRoom s x j
        → AreIrReadable o find s x
        → Shown (SpellsBlock find (block_written s (ir_term_at o s j) x)) (text_at o s k n x)
    block-shown zero n j x is room enough all = absurd (some_room s st x room)
    block-shown (suc k) n j x is room enough all =
        let b = is.0 in
        let here = subst (λ z. AreIrReadable o find s z) is.1 all in
        let front = block_front-shown o s b (block_readable o find s b here) in
        let inner =
        ops-shown find (ir_term_at o s j) (text_at o s k (n + 2)) (n + 2) (children s (BasicBlock b)) (λ y h.
        let up = subst (λ z. Has (children s z) y) (sym is.1) h in
        let q = child_of_block s b y h in
        subst (λ z. Shown (SpellsOp find (ir_term_at o s j z)) (text_at o s k (n + 2) z)) (sym q.1)
        (op-shown k (n + 2) j q.0 (subst (λ z. HasRoom s z k) q.1 (child_room s st x y k up room))
        (subst (λ z. HasRoom s z j) q.1 (lower_room s st x y j up enough))
        (subst (AreIrReadable o find s) q.1 (child_readable o find s x y up all)))) in
        subst (λ z. Shown (SpellsBlock find (block_written s (ir_term_at o s j) z)) (text_at o s (suc k) n z))
        (sym is.1) (both-shown inner front)
