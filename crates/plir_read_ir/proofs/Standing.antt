-- Operations that are read go on standing while more is read.
use Rattle.std.proofs.Common.{◌≡◌, ℕ, List, [], ◌∷◌, Option, Some, ◌∙◌}
use Rattle.plir_data.specs.AttrView.{AttrView}
use Rattle.plir_core.specs.Above.{Reaches}
use Rattle.plir_core.specs.Contents.{BlockView, OpView}
use Rattle.plir_core.specs.ContextView.{ContextView, IsLive, children, parent_of}
use Rattle.plir_core.specs.Standing.{IsStanding}
use Rattle.plir_core.specs.declared.ptr.IRNode.{IRNode}
use Rattle.plir_core.specs.declared.ptr.IRNode.TheVariants.{Operation, Region, BasicBlock}
use Rattle.plir_attr_text.specs.Names.{Grows}
use Rattle.plir_attr_text.specs.Terms.{AttrTerm, TypeTerm}
use Rattle.plir_attr_text.specs.laws.Growth.{Names-grown, NamesAll-grown}
use Rattle.plir_attr_text.specs.laws.Meanings.{IsDictMeant-grown, IsMeant-grown}
use Rattle.plir_read.specs.Heads.{argument_types, result_names, written_block}
use Rattle.plir_read.specs.Keeping.{KeepsBut}
use Rattle.plir_read.specs.OpTerms.{BlockHead, Head, module_head, func_head, Header}
use Rattle.plir_read.specs.OpsStanding.{HoldsBlock, HoldsOp, IsBlockHeadAt, IsConstantAt, IsHeadAt, IsHeaderAt}
use Rattle.plir_read.specs.laws.Frames.{IsFrame, climb_on}
use Rattle.plir_read_own.specs.OwnTerms.{Header as OwnHeader}
use Rattle.plir_read_ir.specs.IrTerms.{Front, bodied_front, constant_front, own_front}
use Rattle.plir_read_ir.specs.Mentions.{Scope}
use Rattle.plir_read_ir.specs.Readings.{IsFrontNoted, IsOwnNoted, uses_at}
use Rattle.plir_read_ir.specs.declared.notes.PendingUse.{PendingUse}

-- ---- one node

-- what the node holds in s it holds in t, and types may have come
module _ {K A T : Type 0} (s t : ContextView K A T) (grows : Grows s.types t.types) (n : IRNode) where
  module _ (holds : (v : OpView K A) → HoldsOp s n v → HoldsOp t n v) where
    head_on : (h : Head) (entries : List (List ℕ × AttrView A)) → IsHeadAt s n h entries → IsHeadAt t n h entries
    head_on (module_head w) entries e = holds _ e
    head_on (func_head w ty) entries e = (e.0, Names-grown s.types t.types e.0 ty grows e.1, holds _ e.2)

    pub header_on : (h : Header) → IsHeaderAt s n h → IsHeaderAt t n h
    header_on h e = (e.0, IsDictMeant-grown s.types t.types grows h.1 e.0 e.1, head_on h.0 e.0 e.2)

    pub constant_on : (names : List (Option (List ℕ))) (c : AttrTerm × TypeTerm) → children t n ≡ children s n →
        IsConstantAt s n names c → IsConstantAt t n names c
    constant_on names c same e = (
      e.0,
      e.1,
      record {
        meant = IsMeant-grown s.types t.types grows c.0 e.0 e.2.meant;
        typed = Names-grown s.types t.types e.1 c.1 grows e.2.typed;
      },
      holds _ e.3,
      same ∙ e.4,
    )

    -- and what it uses was noted
    pub own_on : (us vs : List PendingUse) → uses_at n vs ≡ uses_at n us → (at : Scope) (h : OwnHeader K) →
        IsOwnNoted s us at n h → IsOwnNoted t vs at n h
    own_on us vs same at h e = record {
      entries = e.entries;
      result_types = e.result_types;
      operand_types = e.operand_types;
      successors = e.successors;
      holds = holds _ e.holds;
      as_many = e.as_many;
      typed = e.typed;
      entries_meant = IsDictMeant-grown s.types t.types grows h.entries e.entries e.entries_meant;
      results_typed = NamesAll-grown s.types t.types e.result_types h.signature.result_types grows e.results_typed;
      operands_typed = NamesAll-grown s.types t.types e.operand_types h.signature.operand_types grows e.operands_typed;
      uses = same ∙ e.uses;
    }

  pub block_head_on : ((v : BlockView A) → HoldsBlock s n v → HoldsBlock t n v) → (b : BlockHead) →
      IsBlockHeadAt s n b → IsBlockHeadAt t n b
  block_head_on holds b e = (
    e.0,
    NamesAll-grown s.types t.types e.0 (argument_types b.1) grows e.1,
    holds (written_block b e.0) e.2,
  )

-- ---- whole trees

module _ {K A T : Type 0} (s t : ContextView K A T) (P : IRNode → Type 0) (f : IsFrame s t P) where
  op_holds : (n : IRNode) (v : OpView K A) → P n → HoldsOp s n v → HoldsOp t n v
  op_holds (Operation p) v h e = f.ops p h ∙ e
  op_holds (Region p) v h e = e
  op_holds (BasicBlock p) v h e = e

  block_holds : (n : IRNode) (v : BlockView A) → P n → HoldsBlock s n v → HoldsBlock t n v
  block_holds (BasicBlock p) v h e = f.blocks p h ∙ e
  block_holds (Region p) v h e = e
  block_holds (Operation p) v h e = e

  pub head_framed : (n : IRNode) (b : BlockHead) → P n → IsBlockHeadAt s n b → IsBlockHeadAt t n b
  head_framed n b h e = block_head_on s t f.types n (λ v. block_holds n v h) b e

  -- and what was noted of the nodes is as it was
  module _ (us vs : List PendingUse) (same_uses : (n : IRNode) → P n → uses_at n vs ≡ uses_at n us) where
    pub front_framed : (at : Scope) (n : IRNode) (x : Front K) → P n → IsFrontNoted s us at n x →
        IsFrontNoted t vs at n x
    front_framed at n (bodied_front h) p e =
        (header_on s t f.types n (λ v. op_holds n v p) h e.0, same_uses n p ∙ e.1)
    front_framed at n (constant_front w a ty) p e =
        (constant_on s t f.types n (λ v. op_holds n v p) (result_names (w ∷ [])) (a, ty) (f.same n p) e.0, same_uses n p ∙ e.1)
    front_framed at n (own_front h) p e =
        own_on s t f.types n (λ v. op_holds n v p) us vs (same_uses n p) at h e

-- what is not above a node that may have got children is as it was
pub frame_but : {K A T : Type 0} (s t : ContextView K A T) (over : IRNode) → IsStanding s → KeepsBut s t (Some over) →
    IsFrame s t (λ m. IsLive s m × (Reaches (parent_of s) over m → ⊥))
frame_but s t over w k = record {
  same = λ m p. k.children m p.0 (λ e. p.1 (0, e));
  ops = λ o p. k.keeps.ops o p.0;
  blocks = λ b p. k.keeps.blocks b p.0;
  down = λ m x p h. (
    w.forest.child_live m x h,
    λ r. p.1 (climb_on s r.0 (Some over) x m r.1 (1, w.forest.child_parent m x h)),
  );
  types = k.types;
}
