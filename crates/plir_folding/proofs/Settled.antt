-- Where constants have been merged, the first one of each integer in a block is used alone.
use Rattle.std.proofs.Common.{◌≡◌, zero, suc, List, [], ◌∷◌, Option, Some, None, inl, inr, refl, sym, ap, subst, ◌∙◌}
use Rattle.std.proofs.Common.{arith}
use Rattle.std.specs.Prelude.{Contains}
use Rattle.plir_core.specs.declared.ptr.IRNode.{IRNode}
use Rattle.plir_core.specs.declared.ptr.IRNode.TheVariants.{Operation, Region, BasicBlock}
use Rattle.plir_core.specs.declared.value.Value.{Value}
use Rattle.plir_core.specs.Above.{climb}
use Rattle.plir_core.specs.ButOperands.{but_operands}
use Rattle.plir_core.specs.Contents.{OpView}
use Rattle.plir_core.specs.ContextView.{ContextView, children, op_at, operands_of, parent_of}
use Rattle.plir_core.specs.Forest.{look, IsBelow, IsForest}
use Rattle.plir_folding.specs.Folded.{ArePaired}
use Rattle.plir_folding.specs.Merged.{integer_at, typed_constant, AreFirstAlone, IsMerged, IsMergedInto, IsOfFirst, IsOfFirstBelow}
use Rattle.plir_folding.proofs.Firsts.{first-itself, one-into-below}

-- what is in the second of two paired lists is there for something in the first
pub paired-from : (R : Value → Value → Type 0) (vs ws : List Value) → ArePaired R vs ws → (w : Value) → Contains ws w
    → (v : Value) × (Contains vs v × R v w)
paired-from R [] [] h w (i, below, is) = absurd (omega (arith, below))
paired-from R [] (y ∷ ws) h w c = absurd h
paired-from R (x ∷ vs) [] h w c = absurd h
paired-from R (x ∷ vs) (y ∷ ws) h w (zero, below, is) =
    (x, ((zero, omega arith, refl), subst (R x) is h.0))
paired-from R (x ∷ vs) (y ∷ ws) h w (suc i, below, is) =
    (let f = paired-from R vs ws h.1 w (i, omega (arith, below), is) in
    let c = f.1.0 in
    (f.0, ((suc c.0, (let k = c.1 in omega (arith, k)), c.2), f.1.1)))

-- operands say nothing of what an operation is a constant of
but-typed : {K A : Type 0} (o : Option (OpView K A)) → typed_constant o ≡ typed_constant (but_operands o)
but-typed None = refl
but-typed (Some o) = refl

module _ {K A T : Type 0} (s t : ContextView K A T) (r : IRNode) (m : IsMerged s r t) where
  same-integer : (x : IRNode) → integer_at t x ≡ integer_at s x
  same-integer (Operation p) = but-typed (op_at t p) ∙ ap typed_constant (m.ops p) ∙ sym (but-typed (op_at s p))
  same-integer (Region p) = refl
  same-integer (BasicBlock p) = refl

  was-first : (ns : List IRNode) (v w : Value) → IsOfFirst t ns v w → IsOfFirst s ns v w
  was-first ns v w f = record {
    constant = f.constant;
    first = f.first;
    integer = f.integer;
    value = f.value;
    result = f.result;
    among = f.among;
    worth = sym (same-integer (Operation f.constant)) ∙ f.worth;
    begins = record {
      before = f.begins.before;
      behind = f.begins.behind;
      stands = f.begins.stands;
      worth = sym (same-integer (Operation f.first)) ∙ f.begins.worth;
      none = λ x h e. f.begins.none x h (same-integer x ∙ e);
    };
  }

  pub below-before : (a n : IRNode) → IsBelow (look t) a n → IsBelow (look s) a n
  below-before a n b =
      let same : parent_of t ≡ parent_of s = λ i x. m.keeps.parents x i in
      (b.0, subst (λ up. climb up (suc b.0) (Some n) ≡ Some a) same b.1)

  was-below : (v w : Value) → IsOfFirstBelow t r v w → IsOfFirstBelow s r v w
  was-below v w f = (
    f.0,
    (
      below-before r (BasicBlock f.0) f.1.0,
      was-first (children s (BasicBlock f.0)) v w
          (subst (λ ns. IsOfFirst t ns v w) (m.keeps.children (BasicBlock f.0)) f.1.1),
    ),
  )

  pub alone-after : IsForest (look s) → AreFirstAlone t r
  alone-after forest v w used f =
      let live = sym (m.keeps.live (Operation used.0)) ∙ used.1.0 in
      let c =
      paired-from (IsMergedInto s r) (operands_of s used.0) (operands_of t used.0) (m.operands used.0 live) v used.1.1 in
      let g = was-below v w f in
      elim c.1.1 [
        | inl h ↦
            one-into-below s forest r v w v g
            (h.0, (h.1.0, first-itself s (children s (BasicBlock h.0)) c.0 v h.1.1))
        | inr h ↦ h.1 w (subst (λ z. IsOfFirstBelow s r z w) h.0 g) ∙ sym h.0
      ]
