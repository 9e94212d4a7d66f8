-- Where constants have been merged behind a folding of values, still no result is used that stands for another value.
use Rattle.std.proofs.Common.{◌≡◌, ℕ, Bool, true, false, cond, List, [], ◌∷◌, Option, Some, None, inl, inr}
use Rattle.std.proofs.Common.{refl, sym, ap, subst, ◌∙◌, slice_get}
use Rattle.std.specs.Prelude.{Contains}
use Rattle.std.proofs.lemmas.Option.{none-some, same_Some}
use Rattle.plir_data.specs.AttrView.{AttrView}
use Rattle.plir_data.specs.declared.op_set.OpKind.{OpKind}
use Rattle.plir_data.specs.declared.op_set.OpKind.TheVariants.{Module, Func, Constant, ForwardRef, Own}
use Rattle.plir_core.specs.declared.ptr.Ptr.{Ptr}
use Rattle.plir_core.specs.declared.ptr.Operation.{Operation as OperationKind}
use Rattle.plir_core.specs.declared.ptr.IRNode.{IRNode}
use Rattle.plir_core.specs.declared.ptr.IRNode.TheVariants.{Operation}
use Rattle.plir_core.specs.declared.value.Value.{Value}
use Rattle.plir_core.specs.Contents.{OpView}
use Rattle.plir_core.specs.ContextView.{ContextView, IsLive, op_at, operands_in, operands_of, type_of_value}
use Rattle.plir_core.specs.Forest.{look, IsForest}
use Rattle.plir_core.specs.ButOperands.{but_operands}
use Rattle.plir_folding.specs.declared.identity_set.Side.{Side}
use Rattle.plir_folding.specs.declared.identity_set.Side.TheVariants.{Left, Right}
use Rattle.plir_folding.specs.Worth.{Integer, constant_by, constant_in, constant_of}
use Rattle.plir_folding.specs.Folded.{ArePaired, result_of}
use Rattle.plir_folding.specs.Identities.{is_met, is_of_type, kept_of, stands_by, stands_in, typed_so, ArePassed}
use Rattle.plir_folding.specs.Merged.{integer_at, IsMerged, IsMergedInto, IsOfFirstBelow}
use Rattle.plir_folding.proofs.Below.{below-live}
use Rattle.plir_folding.proofs.Backwards.{but-some}
use Rattle.plir_folding.proofs.Firsts.{constant-apart, same-result}
use Rattle.plir_folding.proofs.Leads.{constants-kept, typed-apart, types-kept}
use Rattle.plir_folding.proofs.Settled.{paired-from, below-before}

-- one of two values is taken, by tests that do not look at them
taken : (R : Value → Value → Type 0) (p q : Bool) (a b x y w : Value) → R a x → R b y
    → cond p (Some x) (cond q (Some y) None) ≡ Some w
    → (v : Value) × ((cond p (Some a) (cond q (Some b) None) ≡ Some v) × R v w)
taken R true q a b x y w h k e = (a, (refl, subst (R a) (same_Some x w e) h))
taken R false true a b x y w h k e = (b, (refl, subst (R b) (same_Some y w e) k))
taken R false false a b x y w h k e = absurd (none-some w e)

-- which of two operands is kept, where they have become others that are the same constants
kept-before : (meets : Side → Integer → Bool) (known known' : Value → Option Integer) (R : Value → Value → Type 0)
    → ((v w : Value) → R v w → known' w ≡ known v) → (vs ws : List Value) → ArePaired R vs ws → (w : Value)
    → kept_of meets known' ws ≡ Some w → (v : Value) × ((kept_of meets known vs ≡ Some v) × R v w)
kept-before meets known known' R same [] [] h w e = absurd (none-some w e)
kept-before meets known known' R same [] (x ∷ ws) h w e = absurd h
kept-before meets known known' R same (a ∷ vs) [] h w e = absurd h
kept-before meets known known' R same (a ∷ []) (x ∷ []) h w e = absurd (none-some w e)
kept-before meets known known' R same (a ∷ []) (x ∷ y ∷ ws) h w e = absurd h.1
kept-before meets known known' R same (a ∷ b ∷ vs) (x ∷ []) h w e = absurd h.1
kept-before meets known known' R same (a ∷ b ∷ []) (x ∷ y ∷ z ∷ ws) h w e = absurd h.1.1
kept-before meets known known' R same (a ∷ b ∷ c ∷ vs) (x ∷ y ∷ []) h w e = absurd h.1.1
kept-before meets known known' R same (a ∷ b ∷ c ∷ vs) (x ∷ y ∷ z ∷ ws) h w e = absurd (none-some w e)
kept-before meets known known' R same (a ∷ b ∷ []) (x ∷ y ∷ []) h w e =
    taken R (is_met (meets Right) (known b)) (is_met (meets Left) (known a)) a b x y w h.0 h.1.0
    (sym (ap (λ o. cond (is_met (meets Right) o) (Some x) (cond (is_met (meets Left) (known a)) (Some y) None))
    (same b y h.1.0))
    ∙ sym (ap (λ o. cond (is_met (meets Right) (known' y)) (Some x) (cond (is_met (meets Left) o) (Some y) None))
    (same a x h.0)) ∙ e)

module _ {K A T : Type 0} (holds : K → Side → Integer → Bool) where
  -- what hands an operand on is no constant
  no-constant : (s : ContextView K A T) (k : OpKind K) (vs : List Value) (ts : List ℕ)
      (es : List (List ℕ × AttrView A)) (w : Value) → stands_by holds s k vs ts ≡ Some w → constant_by k es ≡ None
  no-constant s Module vs ts es w e = refl
  no-constant s Func vs ts es w e = refl
  no-constant s Constant vs ts es w e = absurd (none-some w e)
  no-constant s ForwardRef vs ts es w e = refl
  no-constant s (Own k) vs ts es w e = refl

  module _ (s t : ContextView K A T) (forest : IsForest (look s)) (r : IRNode) (m : IsMerged s r t) where
    abbrev R : Value → Value → Type 0
    R = IsMergedInto s r

    known-same : (v w : Value) → R v w → constant_of t w ≡ constant_of s v
    known-same v w (inl h) =
        let f = h.1.1 in
        constants-kept s t m.ops w ∙ ap (constant_of s) f.result
        ∙ (constant-apart (op_at s f.first) f.integer f.begins.worth).0
        ∙ sym (constant-apart (op_at s f.constant) f.integer f.worth).0 ∙ ap (constant_of s) (sym f.value)
    known-same v w (inr h) = constants-kept s t m.ops w ∙ ap (constant_of s) h.0

    type-same : (v w : Value) → R v w → type_of_value t w ≡ type_of_value s v
    type-same v w (inl h) =
        let f = h.1.1 in
        types-kept s t m.ops m.blocks w ∙ ap (type_of_value s) f.result
        ∙ ap (λ ts. slice_get ts 0) ((constant-apart (op_at s f.first) f.integer f.begins.worth).1
        ∙ sym (constant-apart (op_at s f.constant) f.integer f.worth).1) ∙ ap (type_of_value s) (sym f.value)
    type-same v w (inr h) = types-kept s t m.ops m.blocks w ∙ ap (type_of_value s) h.0

    by-before : (k : OpKind K) (vs ws : List Value) (ts : List ℕ) (w : Value) → ArePaired R vs ws
        → stands_by holds t k ws ts ≡ Some w → (v : Value) × ((stands_by holds s k vs ts ≡ Some v) × R v w)
    by-before Module vs ws ts w h e = absurd (none-some w e)
    by-before Func vs ws ts w h e = absurd (none-some w e)
    by-before Constant vs ws ts w h e = absurd (none-some w e)
    by-before ForwardRef vs ws ts w h e = absurd (none-some w e)
    by-before (Own k) vs ws ts w h e =
        let a = typed-apart holds t ts (kept_of (holds k) (constant_of t) ws) w e in
        let b = kept-before (holds k) (constant_of s) (constant_of t) R known-same vs ws h w a.0 in
        let typed : is_of_type ts (type_of_value s b.0) ≡ true =
        ap (is_of_type ts) (sym (type-same b.0 w b.1.1)) ∙ a.1 in (
          b.0,
          (
            ap (typed_so holds s ts) b.1.0 ∙ ap (λ c. cond {A = Option Value} c (Some b.0) None) typed,
            b.1.1,
          ),
        )

    -- what an operation hands on it handed on before, and it is no constant
    in-before : (p : Ptr OperationKind) (o : Option (OpView K A)) (w : Value) → IsLive s (Operation p) → op_at t p ≡ o
        → stands_in holds t o ≡ Some w
        → (v : Value) × ((stands_in holds s (op_at s p) ≡ Some v) × (R v w × (constant_in (op_at s p) ≡ None)))
    in-before p None w live at e = absurd (none-some w e)
    in-before p (Some o) w live at e =
        let was = but-some (op_at s p) o (sym (ap but_operands at) ∙ m.ops p) in
        let like = was.1.1 in
        let paired =
        subst (λ z. ArePaired R (operands_in z) o.operands) was.1.0
        (subst (λ z. ArePaired R (operands_of s p) (operands_in z)) at (m.operands p live)) in
        let b =
        by-before o.kind was.0.operands o.operands o.result_types w paired e in
        let stands =
        ap (λ z. stands_by holds s z.kind was.0.operands z.result_types) (sym like) ∙ b.1.0 in (
          b.0,
          (
            ap (stands_in holds s) was.1.0 ∙ stands,
            (
              b.1.1,
              ap constant_in was.1.0
                  ∙ no-constant s was.0.kind was.0.operands was.0.result_types was.0.attributes b.0 stands,
            ),
          ),
        )

    -- the result of what is no constant is no first one, and is merged into nothing
    no-first : (p : Ptr OperationKind) (v w : Value) → constant_in (op_at s p) ≡ None → IsOfFirstBelow s r v w
        → (v ≡ result_of p → ⊥) × (w ≡ result_of p → ⊥)
    no-first p v w none h =
        let f = h.1.1 in (
          λ e. clash f.constant f.worth (same-result f.constant p (sym f.value ∙ e)),
          λ e. clash f.first f.begins.worth (same-result f.first p (sym f.result ∙ e)),
        )
      where
        clash : (q : Ptr OperationKind) → integer_at s (Operation q) ≡ Some h.1.1.integer → q ≡ p → ⊥
        clash q worth same =
            none-some h.1.1.integer
            (sym none ∙ ap (λ z. constant_in (op_at s z)) (sym same) ∙ (constant-apart (op_at s q) h.1.1.integer worth).0)

    pub still-passed : (n : IRNode) → ArePassed holds s n → ArePassed holds t n
    still-passed n passed p below w left =
        let b = below-before s t r m n (Operation p) below in
        let live = below-live s n (Operation p) b forest in
        let h = in-before p (op_at t p) w live refl left.stands in
        let none = h.1.1.1 in
        passed p b h.0 (record {
          stands = h.1.0;
          other = λ e. elim h.1.1.0 [
            | inl f ↦ (no-first p h.0 w none f).0 e
            | inr k ↦ left.other (k.0 ∙ e)
          ];
          used =
              let u = left.used in
              let there = sym (m.keeps.live (Operation u.0)) ∙ u.1.0 in
              let c =
              paired-from R (operands_of s u.0) (operands_of t u.0) (m.operands u.0 there) (result_of p) u.1.1 in (
                u.0,
                (
                  there,
                  elim c.1.1 [
                    | inl f ↦ absurd ((no-first p c.0 (result_of p) none f).1 refl)
                    | inr k ↦ subst (Contains (operands_of s u.0)) (sym k.0) c.1.0
                  ],
                ),
              );
        })
