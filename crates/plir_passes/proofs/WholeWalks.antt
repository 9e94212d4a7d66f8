-- A whole walk that converts each block is a conversion.
use Rattle.std.proofs.Common.{◌≡◌, ℕ, Bool, false, Result, Ok, Err, refl, sym, ap, subst, ◌∙◌}
use Rattle.std.specs.declared.ops.ControlFlow.{ControlFlow}
use Rattle.std.specs.declared.ops.ControlFlow.TheVariants.{Continue, Break}
use Rattle.plir_data.specs.declared.op_set.OpKind.{OpKind}
use Rattle.plir_core.specs.declared.ptr.IRNode.{IRNode}
use Rattle.plir_core.specs.declared.ptr.IRNode.TheVariants.{Operation, Region, BasicBlock}
use Rattle.plir_core.specs.Above.{climb}
use Rattle.plir_core.specs.Forest.{look, IsBelow}
use Rattle.plir_core.specs.ContextView.{ContextView, children, parent_of}
use Rattle.plir_walk.specs.declared.interruptible.WalkContinue.{WalkContinue}
use Rattle.plir_walk.specs.declared.limit.CallLimit.{CallLimit}
use Rattle.plir_walk.specs.declared.config.TheConstants.{WALKCONFIG_PREORDER_FORWARD as pre_forward}
use Rattle.plir_walk.specs.Calls.{Relation, Chain}
use Rattle.plir_walk.specs.CallLaws.{chain-wider, kept_from_entry_to_exit}
use Rattle.plir_walk.specs.Lawful.{StandsUnder}
use Rattle.plir_walk.specs.Walk.{IsWalkWithin, Answers}
use Rattle.plir_walk.specs.Walked.{Walked, IsCallUnder}
use Rattle.plir_passes.specs.Legal.{is_illegal}
use Rattle.plir_passes.specs.Rewrites.{Rewrites, IsNodeConverted, IsConversion}
use Rattle.plir_passes.specs.Converted.{IsConvertedAt}
use Rattle.plir_passes.proofs.Handing.{block-idle}

module _ {K A T B : Type 0} (illegal : OpKind K → Bool) (rewrites : Rewrites K A T B) (r : IRNode) where
  -- what is said of each call
  abbrev Node : Relation (ContextView K A T) (Unit {0}) B
  Node c u n a c' u' = IsNodeConverted illegal rewrites c n a c'

  module _ (post : Relation (ContextView K A T) (Unit {0}) B)
      (each : (c : ContextView K A T) (s : Unit {0}) (n : IRNode) (a : ControlFlow B WalkContinue)
      (c' : ContextView K A T) (s' : Unit {0}) → post c s n a c' s' → IsConvertedAt illegal rewrites c n a c')
      (c c' : ContextView K A T) (limit : ℕ) (answer : Result (ControlFlow B WalkContinue) CallLimit)
      (walked : Walked look pre_forward post c tt r limit answer c' tt) where
    chain : Chain (IsCallUnder look r Node) c tt walked.calls c' tt
    chain =
        chain-wider (IsCallUnder look r post) (IsCallUnder look r Node)
        (λ d d' s s' n a p. record {
          stands = p.stands;
          leaves = p.leaves;
          made = (each d s n a d' s' p.made).node;
        }) c c' tt tt walked.calls walked.chain

    within : (a : ControlFlow B WalkContinue) → answer ≡ Ok a
        → IsWalkWithin pre_forward (children c') r limit walked.calls (Ok a)
    within a e =
        subst (λ z. IsWalkWithin pre_forward (children c') r limit walked.calls z) e (walked.at_exit (refl, refl, refl))

    -- where it went to its end
    pub conversion-ended : (k : WalkContinue) → answer ≡ Ok (Continue k)
        → IsConversion illegal rewrites c r (Ok tt) c'
    conversion-ended k e =
        let w = within (Continue k) e in
        record {
          calls = walked.calls;
          chain = chain;
          walk = record {
            in_order = w.in_order;
            answers =
                subst (λ z. Answers pre_forward (children c') r walked.calls (Continue z)) w.answers.0 w.answers;
          };
        }

    -- and where it was broken off
    pub conversion-broken : (b : B) → answer ≡ Ok (Break b) → IsConversion illegal rewrites c r (Err b) c'
    conversion-broken b e =
        let w = within (Break b) e in
        record {
          calls = walked.calls;
          chain = chain;
          walk = record { in_order = w.in_order; answers = w.answers };
        }

  -- no operation below the root is illegal
  abbrev AllLegal : ContextView K A T → Type 0
  AllLegal c = (n : IRNode) → IsBelow (look c) r n → is_illegal illegal c n ≡ false

  -- then a call leaves all as it was
  node-idle : (c c' : ContextView K A T) (n : IRNode) (a : ControlFlow B WalkContinue) → StandsUnder (look c) r n
      → IsNodeConverted illegal rewrites c n a c' → AllLegal c → c' ≡ c
  node-idle c c' (Operation p) a stands h legal = h.1
  node-idle c c' (Region p) a stands h legal = h.1
  node-idle c c' (BasicBlock b) a stands h legal =
      block-idle illegal rewrites c b h.0 c' h.2 (λ x k. legal x (
        stands.under_root.0,
        ap (climb (parent_of c) stands.under_root.0) (stands.forest.child_parent (BasicBlock b) x k)
            ∙ stands.under_root.1,
      ))

  -- and so does the conversion
  pub conversion-idle : (s t : ContextView K A T) (answer : Result (Unit {0}) B)
      → IsConversion illegal rewrites s r answer t → AllLegal s → t ≡ s
  conversion-idle s t answer f =
      kept_from_entry_to_exit (IsCallUnder look r Node) (λ c u c' u'. AllLegal c → c' ≡ c)
      (record {
        itself = λ d u l. refl;
        on = λ d e f u v w g k l. (let a = g l in k (subst AllLegal (sym a) l) ∙ a);
      })
      (λ d d' u u' n a p l. node-idle d d' n a p.stands p.made l) s t tt tt f.calls f.chain
