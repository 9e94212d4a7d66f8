-- What a walk adds to a list of operations, where each call at an operation adds it, if it uses a name.
use Rattle.std.proofs.Common.{◌≡◌, ◌≢◌, ◌<◌, ◌==◌, ℕ, zero, suc, Bool, true, false, true≢false, cond, List, [], ◌∷◌}
use Rattle.std.proofs.Common.{◌++◌, length, arith, inl, inr, refl, sym, ap, subst, ◌∙◌}
use Rattle.std.proofs.lemmas.Bool.{ne_eqb}
use Rattle.std.proofs.lemmas.List.{append_assoc, append-nil}
use Rattle.std.specs.declared.ops.ControlFlow.{ControlFlow}
use Rattle.std.specs.declared.ops.ControlFlow.TheVariants.{Continue, Break}
use Rattle.plir_store.specs.Members.{Has}
use Rattle.plir_core.specs.declared.ptr.Ptr.{Ptr}
use Rattle.plir_core.specs.declared.ptr.Operation.{Operation as OperationKind}
use Rattle.plir_core.specs.declared.ptr.IRNode.{IRNode}
use Rattle.plir_core.specs.declared.ptr.IRNode.TheVariants.{Operation, Region, BasicBlock}
use Rattle.plir_core.specs.Contents.{OpView}
use Rattle.plir_core.specs.ContextView.{ContextView, op_at}
use Rattle.plir_core.specs.Forest.{look}
use Rattle.plir_walk.specs.declared.config.TheConstants.{WALKCONFIG_PREORDER_FORWARD as pre_forward}
use Rattle.plir_walk.specs.declared.interruptible.WalkContinue.{WalkContinue}
use Rattle.plir_walk.specs.declared.interruptible.WalkContinue.TheVariants.{Advance, Skip}
use Rattle.plir_walk.specs.Calls.{Call, Relation, Chain, nodes_of, NoBreak}
use Rattle.plir_walk.specs.CallLaws.{chain-each}
use Rattle.plir_walk.specs.Lists.{Pairs}
use Rattle.plir_walk.specs.OperationWalks.{OperationRelation, AtOperations, IsOperationDue, WalkedOperations}
use Rattle.plir_walk.specs.Walk.{AnswersBy}
use Rattle.plir_walk.specs.Walked.{IsCallUnder}
use Rattle.plir_walk.specs.NodeLaws.{same-op}
use Rattle.plir_symbols.specs.SymbolNames.{names_in}
use Rattle.plir_symbols.specs.CallGraph.{AreUsers}
use Rattle.plir_symbols.specs.Calling.{IsUserPut, user_at}

module _ {K A T : Type 0} (names : OpView K A → List (List ℕ)) (s : ContextView K A T) where
  abbrev count : Ptr OperationKind → ℕ
  count p = length (names_in names (op_at s p))

  -- those of some nodes that use a name
  abbrev users_in : List IRNode → List (Ptr OperationKind)
  users_in [] = []
  users_in (Operation p ∷ ns) = user_at names s p ++ users_in ns
  users_in (Region p ∷ ns) = users_in ns
  users_in (BasicBlock p ∷ ns) = users_in ns

  some : (n : ℕ) → (n == 0) ≡ false → 0 < n
  some zero e = absurd (true≢false e)
  some (suc n) e = omega arith

  not-none : (n : ℕ) → 0 < n → (n == 0) ≡ true → ⊥
  not-none n h e = true≢false (sym e ∙ ne_eqb n 0 (λ z. absurd (omega (arith, h, z))))

  user-has : (ns : List IRNode) (p : Ptr OperationKind) → Has ns (Operation p) → 0 < count p → Has (users_in ns) p
  user-has [] p h uses = absurd h
  user-has (Operation q ∷ ns) p h uses = by (count q == 0) refl (λ k. user-has ns p k uses) h
    where
      by : (b : Bool) → (count q == 0) ≡ b → (Has ns (Operation p) → Has (users_in ns) p) →
          Has (Operation q ∷ ns) (Operation p) → Has (cond b [] (q ∷ []) ++ users_in ns) p
      by true e rest (inl same) = absurd (not-none (count q) (subst (λ z. 0 < count z) (sym (same-op q p same)) uses) e)
      by true e rest (inr k) = rest k
      by false e rest (inl same) = inl (same-op q p same)
      by false e rest (inr k) = inr (rest k)
  user-has (Region q ∷ ns) p h uses = elim h [
    | inl same ↦ absurd (let z : ⊥ = cc same in z)
    | inr k ↦ user-has ns p k uses
  ]
  user-has (BasicBlock q ∷ ns) p h uses = elim h [
    | inl same ↦ absurd (let z : ⊥ = cc same in z)
    | inr k ↦ user-has ns p k uses
  ]

  has-user : (ns : List IRNode) (p : Ptr OperationKind) → Has (users_in ns) p → Has ns (Operation p) × (0 < count p)
  has-user [] p h = absurd h
  has-user (Operation q ∷ ns) p h = by (count q == 0) refl (λ k. has-user ns p k) h
    where
      by : (b : Bool) → (count q == 0) ≡ b → (Has (users_in ns) p → Has ns (Operation p) × (0 < count p)) →
          Has (cond b [] (q ∷ []) ++ users_in ns) p → Has (Operation q ∷ ns) (Operation p) × (0 < count p)
      by true e rest k = (let m = rest k in (inr m.0, m.1))
      by false e rest (inl same) = (inl (ap Operation same), subst (λ z. 0 < count z) same (some (count q) e))
      by false e rest (inr k) = (let m = rest k in (inr m.0, m.1))
  has-user (Region q ∷ ns) p h = (let m = has-user ns p h in (inr m.0, m.1))
  has-user (BasicBlock q ∷ ns) p h = (let m = has-user ns p h in (inr m.0, m.1))

  user-pairs : (R : IRNode → IRNode → Type 0) (ns : List IRNode) → Pairs R ns →
      Pairs (λ p q. R (Operation p) (Operation q)) (users_in ns)
  user-pairs R [] h = tt
  user-pairs R (Operation p ∷ ns) h = by (count p == 0) (user-pairs R ns h.1)
    where
      by : (b : Bool) → Pairs (λ p q. R (Operation p) (Operation q)) (users_in ns) →
          Pairs (λ p q. R (Operation p) (Operation q)) (cond b [] (p ∷ []) ++ users_in ns)
      by true rest = rest
      by false rest = (λ q k. h.0 (Operation q) (has-user ns q k).0, rest)
  user-pairs R (Region p ∷ ns) h = user-pairs R ns h.1
  user-pairs R (BasicBlock p ∷ ns) h = user-pairs R ns h.1

  module _ {S B : Type 0} (items : S → List (Ptr OperationKind)) (root : Ptr OperationKind)
      (post : OperationRelation (ContextView K A T) S B)
      (each : (c : ContextView K A T) (u : S) (p : Ptr OperationKind) (a : ControlFlow B WalkContinue)
      (c' : ContextView K A T) (u' : S) → post c u p a c' u' →
      (c' ≡ c) × IsUserPut names c (items u) p a (items u')) where
    abbrev OneCall : Type 0
    OneCall = Call (ContextView K A T) S B

    abbrev call : Relation (ContextView K A T) S B
    call = IsCallUnder look (Operation root) (AtOperations post)

    -- what a call that did not break has done
    record IsDone (x : OneCall) : Type 0 where
      pub op : Ptr OperationKind
      pub node : x.node ≡ Operation op
      pub stays : x.after ≡ x.before
      pub put : items x.left ≡ items x.state ++ user_at names x.before op

    advanced : (c : ContextView K A T) (ps : List (Ptr OperationKind)) (p : Ptr OperationKind)
        (a : ControlFlow B WalkContinue) (ps' : List (Ptr OperationKind)) → IsUserPut names c ps p a ps' →
        ((b : B) → a ≢ Break b) → ps' ≡ ps ++ user_at names c p
    advanced c ps p (Continue Advance) ps' h k = h
    advanced c ps p (Continue Skip) ps' h k = absurd h
    advanced c ps p (Break b) ps' h k = absurd (k b refl)

    done-at : (x : OneCall) (n : IRNode) → x.node ≡ n → AtOperations post x.before x.state n x.answer x.after x.left →
        ((b : B) → x.answer ≢ Break b) → IsDone x
    done-at x (Operation p) e h k =
        let f = each x.before x.state p x.answer x.after x.left h in
        record {
          op = p;
          node = e;
          stays = f.0;
          put = advanced x.before (items x.state) p x.answer (items x.left) f.1 k;
        }
    done-at x (Region p) e h k = absurd h
    done-at x (BasicBlock p) e h k = absurd h

    no-skip : (c : ContextView K A T) (u : S) (n : IRNode) (a : ControlFlow B WalkContinue) (c' : ContextView K A T)
        (u' : S) → AtOperations post c u n a c' u' → a ≡ Continue Skip → ⊥
    no-skip c u (Operation p) a c' u' h e = subst (λ z. IsUserPut names c (items u) p z (items u')) e
        (each c u p a c' u' h).1
    no-skip c u (Region p) a c' u' h e = h
    no-skip c u (BasicBlock p) a c' u' h e = h

    all-put : (calls : List OneCall) (c : ContextView K A T) (u : S) (c' : ContextView K A T) (u' : S) → c ≡ s →
        Chain call c u calls c' u' → NoBreak calls → items u' ≡ items u ++ users_in (nodes_of calls)
    all-put [] c u c' u' e h k = ap items h.1 ∙ sym (append-nil (items u))
    all-put (y ∷ ys) c u c' u' e h k =
        let d = done-at y y.node refl h.2.made k.0 in
        let at = h.0 ∙ e in
        let put = d.put ∙ ap (λ z. items z ++ user_at names y.before d.op) h.1
        ∙ ap (λ z. items u ++ user_at names z d.op) at in
        let rest = all-put ys y.after y.left c' u' (d.stays ∙ at) h.3 k.1 in
        rest
        ∙ ap (λ z. z ++ users_in (nodes_of ys)) put
        ∙ append_assoc (items u) (user_at names s d.op) (users_in (nodes_of ys))
        ∙ ap (λ z. items u ++ users_in (z ∷ nodes_of ys)) (sym d.node)

    -- a walk that began with none and went to its end has added exactly those that use a name, in order
    pub walked-users : (answer : ControlFlow B WalkContinue) (k : WalkContinue) → answer ≡ Continue k → (u u' : S) →
        items u ≡ []
        → WalkedOperations look pre_forward post s u (Operation root) answer u' → AreUsers names s root (items u')
    walked-users answer k is u u' none walked =
        let t = (look s).children in
        let answers = subst (λ z. AnswersBy pre_forward t (Operation root) (IsOperationDue pre_forward t (Operation root))
        walked.calls z) is walked.walk.answers in
        let nodes = nodes_of walked.calls in
        let put : items u' ≡ users_in nodes = all-put walked.calls s u s u' refl walked.chain answers.1
        ∙ ap (λ z. z ++ users_in nodes) none in
        subst (AreUsers names s root) (sym put) (record {
          only_users = λ p h.
              (let f = has-user nodes p h in record { below = ((answers.2 (Operation p)).0 f.0).0.0; uses = f.1 });
          all_users = λ p i. user-has nodes p ((answers.2 (Operation p)).1 (
            (
              i.below,
              λ shut.
                  (let y = shut.skipped in
                  no-skip y.0.before y.0.state y.0.node y.0.answer y.0.after y.0.left
                  (chain-each call s u walked.calls s u' walked.chain y.0 y.1).made y.3),
            ),
            refl,
          )) i.uses;
          in_order = user-pairs _ nodes walked.walk.in_order.increasing;
        })

-- what is said of equal contexts and lists
pub put-again :
    {K A T B : Type 0} (names : OpView K A → List (List ℕ)) {c d : ContextView K A T}
    {ps qs ps' qs' : List (Ptr OperationKind)} (p : Ptr OperationKind) (a : ControlFlow B WalkContinue) → c ≡ d →
    ps ≡ qs → ps' ≡ qs' → IsUserPut names c ps p a ps' → IsUserPut names d qs p a qs'
put-again names {c} {d} {ps} {qs} {ps'} {qs'} p a context before after h =
    subst (λ z. IsUserPut names d qs p a z) after
    (subst (λ z. IsUserPut names d z p a ps') before (subst (λ z. IsUserPut names z ps p a ps') context h))
