-- What a walk reaches, where each call at an operation reaches what a table tells of it, and leaves out what is below
-- another table.
use Rattle.std.proofs.Common.{◌≡◌, ◌≢◌, ℕ, Bool, true, false, List, [], ◌∷◌, inl, inr, refl, sym, ap, subst, ◌∙◌}
use Rattle.std.proofs.lemmas.Bool.{cases_Bool}
use Rattle.std.specs.declared.ops.ControlFlow.{ControlFlow}
use Rattle.std.specs.declared.ops.ControlFlow.TheVariants.{Continue, Break}
use Rattle.plir_store.specs.FilterLaws.{not-both}
use Rattle.plir_store.specs.Members.{Has}
use Rattle.plir_core.specs.declared.ptr.Ptr.{Ptr}
use Rattle.plir_core.specs.declared.ptr.Operation.{Operation as OperationKind}
use Rattle.plir_core.specs.declared.ptr.IRNode.{IRNode}
use Rattle.plir_core.specs.declared.ptr.IRNode.TheVariants.{Operation, Region, BasicBlock}
use Rattle.plir_core.specs.Contents.{OpView}
use Rattle.plir_core.specs.ContextView.{ContextView, IsAncestor, children}
use Rattle.plir_core.specs.Forest.{look, IsForest}
use Rattle.plir_walk.specs.declared.config.TheConstants.{WALKCONFIG_PREORDER_FORWARD as pre_forward}
use Rattle.plir_walk.specs.declared.interruptible.WalkContinue.{WalkContinue}
use Rattle.plir_walk.specs.declared.interruptible.WalkContinue.TheVariants.{Advance, Skip}
use Rattle.plir_walk.specs.Calls.{Call, Relation, Chain, nodes_of, NoBreak}
use Rattle.plir_walk.specs.OperationWalks.{OperationRelation, AtOperations, IsOperationDue, WalkedOperations}
use Rattle.plir_walk.specs.ShutOut.{IsShutOut}
use Rattle.plir_walk.specs.TreeLaws.{reached-under, under-reached, under-cases, properly-trans}
use Rattle.plir_walk.specs.Walk.{AnswersBy, CallsAllDue}
use Rattle.plir_walk.specs.Walked.{IsCallUnder}
use Rattle.plir_walk.specs.NodeLaws.{same-op}
use Rattle.plir_builtin.specs.Table.{Table}
use Rattle.plir_symbols.specs.declared.reached.Reached.{Reached}
use Rattle.plir_symbols.specs.Reaching.{IsGrown, IsOpenUnder, IsReachedAt, IsTold, IsToldUnder, is_table_at}
use Rattle.plir_symbols.proofs.Grown.{grown-as, grown-both, grown-none}

module _ {K A T : Type 0} (own_table : K → Bool) (names : OpView K A → List (List ℕ)) (s : ContextView K A T)
    (c : Table) {B : Type 0} (root : Ptr OperationKind)
    (post : OperationRelation (ContextView K A T) Reached B)
    (each : (d : ContextView K A T) (u : Reached) (p : Ptr OperationKind) (a : ControlFlow B WalkContinue)
    (d' : ContextView K A T) (u' : Reached) → post d u p a d' u' →
    (d' ≡ d) × (d ≡ s → IsReachedAt own_table names s c u p a u')) where
  abbrev OneCall : Type 0
  OneCall = Call (ContextView K A T) Reached B

  abbrev call : Relation (ContextView K A T) Reached B
  call = IsCallUnder look (Operation root) (AtOperations post)

  abbrev table_at : Ptr OperationKind → Bool
  table_at p = is_table_at own_table names s c p

  -- what a call is
  record IsMade (x : OneCall) : Type 0 where
    pub op : Ptr OperationKind
    pub node : x.node ≡ Operation op
    pub before : x.before ≡ s
    pub stays : x.after ≡ x.before
    pub made : IsReachedAt own_table names s c x.state op x.answer x.left

  made-at : (x : OneCall) (n : IRNode) → x.node ≡ n → x.before ≡ s →
      AtOperations post x.before x.state n x.answer x.after x.left → IsMade x
  made-at x (Operation p) e f h =
      let k = each x.before x.state p x.answer x.after x.left h in
      record { op = p; node = e; before = f; stays = k.0; made = k.1 f }
  made-at x (Region p) e f h = absurd h
  made-at x (BasicBlock p) e f h = absurd h

  each-made : (calls : List OneCall) (d : ContextView K A T) (u : Reached) (d' : ContextView K A T) (u' : Reached) →
      d ≡ s → Chain call d u calls d' u' → (x : OneCall) → Has calls x → IsMade x
  each-made [] d u d' u' e h x has = absurd has
  each-made (y ∷ ys) d u d' u' e h x has =
      let m = made-at y y.node refl (h.0 ∙ e) h.2.made in elim has [
        | inl same ↦ subst IsMade same m
        | inr more ↦ each-made ys y.after y.left d' u' (m.stays ∙ h.0 ∙ e) h.3 x more
      ]

  -- an operation that was called, and is no table, is told q of
  abbrev IsCalled : List OneCall → Ptr OperationKind → Type 0
  IsCalled calls q =
      (p : Ptr OperationKind) × Has (nodes_of calls) (Operation p) × (table_at p ≡ false) × IsTold own_table names s c p q

  -- the same of one operation
  abbrev IsOf : Ptr OperationKind → Ptr OperationKind → Type 0
  IsOf p q = (table_at p ≡ false) × IsTold own_table names s c p q

  one-grown : (u : Reached) (p : Ptr OperationKind) (a : ControlFlow B WalkContinue) (u' : Reached) →
      ((b : B) → a ≢ Break b) → IsReachedAt own_table names s c u p a u' → IsGrown (IsOf p) u u'
  one-grown u p (Continue Advance) u' k h =
      grown-as u u' (λ q told. (h.0, told)) (λ q of. of.1) h.1
  one-grown u p (Continue Skip) u' k h = grown-none u u' h.1 (λ q of. not-both (table_at p) h.0 of.0)
  one-grown u p (Break b) u' k h = absurd (k b refl)

  all-grown : (calls : List OneCall) (d : ContextView K A T) (u : Reached) (d' : ContextView K A T) (u' : Reached) →
      d ≡ s → Chain call d u calls d' u' → NoBreak calls → IsGrown (IsCalled calls) u u'
  all-grown [] d u d' u' e h k = grown-none u u' h.1 (λ q called. called.1)
  all-grown (y ∷ ys) d u d' u' e h k =
      let m = made-at y y.node refl (h.0 ∙ e) h.2.made in
      let first = one-grown y.state m.op y.answer y.left k.0 m.made in
      let rest = all-grown ys y.after y.left d' u' (m.stays ∙ h.0 ∙ e) h.3 k.1 in
      grown-both u y.left u' (λ q called. elim called.1 [
        | inl same ↦ inl (subst (λ z. IsOf z q) (same-op called.0 m.op (sym same ∙ m.node)) (called.2, called.3))
        | inr more ↦ inr (called.0, more, called.2, called.3)
      ]) (λ q of. (m.op, inl m.node, of.0, of.1)) (λ q called. (called.0, inr called.1, called.2, called.3))
      (subst (λ z. IsGrown (IsOf m.op) z y.left) h.1 first) rest

  module _ (forest : IsForest (look s)) (calls : List OneCall) (u u' : Reached) (chain : Chain call s u calls s u')
      (goes_on : NoBreak calls)
      (all : CallsAllDue pre_forward (children s) (Operation root)
      (IsOperationDue pre_forward (children s) (Operation root)) calls) where
    abbrev shut : IRNode → Type 0
    shut n = IsShutOut pre_forward (children s) (Operation root) calls n

    unbroken : (xs : List OneCall) → NoBreak xs → (x : OneCall) → Has xs x → (b : B) → x.answer ≡ Break b → ⊥
    unbroken [] h x has b = absurd has
    unbroken (y ∷ ys) h x (inl same) b = subst (λ z. z.answer ≡ Break b → ⊥) same (h.0 b)
    unbroken (y ∷ ys) h x (inr more) b = unbroken ys h.1 x more b

    call-at : (xs : List OneCall) (n : IRNode) → Has (nodes_of xs) n → (x : OneCall) × Has xs x × (x.node ≡ n)
    call-at [] n h = absurd h
    call-at (y ∷ ys) n (inl same) = (y, inl refl, same)
    call-at (y ∷ ys) n (inr more) = (let f = call-at ys n more in (f.0, inr f.1, f.2))

    -- a table that was called answered that what is below it is left out
    skipped : (p : Ptr OperationKind) → table_at p ≡ true → Has (nodes_of calls) (Operation p) → (x : OneCall) ×
        Has calls x × (x.node ≡ Operation p) × (x.answer ≡ Continue Skip)
    skipped p is has =
        let f = call-at calls (Operation p) has in
        let m = each-made calls s u s u' refl chain f.0 f.1 in
        let same = same-op m.op p (sym m.node ∙ f.2) in (
          f.0,
          f.1,
          f.2,
          at f.0.state f.0.left f.0.answer (λ b. unbroken calls goes_on f.0 f.1 b)
              (subst (λ z. IsReachedAt own_table names s c f.0.state z f.0.answer f.0.left) same m.made),
        )
      where
        at : (r r' : Reached) (a : ControlFlow B WalkContinue) → ((b : B) → a ≡ Break b → ⊥) →
            IsReachedAt own_table names s c r p a r' → a ≡ Continue Skip
        at r r' (Continue Advance) k h = absurd (not-both (table_at p) is h.0)
        at r r' (Continue Skip) k h = refl
        at r r' (Break b) k h = absurd (k b refl)

    -- and one that answered so is a table
    is-table : (x : OneCall) → Has calls x → x.answer ≡ Continue Skip → (p : Ptr OperationKind) × (x.node ≡ Operation p) ×
        (table_at p ≡ true)
    is-table x has e =
        let m = each-made calls s u s u' refl chain x has in
        let h = subst (λ a. IsReachedAt own_table names s c x.state m.op a x.left) e m.made in
        (m.op, m.node, h.0)

    called-open : (p : Ptr OperationKind) → Has (nodes_of calls) (Operation p) → table_at p ≡ false →
        IsOpenUnder own_table names s c root p
    called-open p has off =
        let due = ((all (Operation p)).0 has).0 in (
          under-reached (look s) forest (Operation p) (Operation root) due.0,
          λ m above below.
              let under = reached-under (look s) forest above.0 (Operation m) (Operation root) above.1 in
              let over = reached-under (look s) forest below.0 (Operation p) (Operation m) below.1 in
              elim (cases_Bool (table_at m)) [
                | inr f ↦ f
                | inl t ↦ elim (under-cases (children s) (Operation m) (Operation p) over) [
                  | inl same ↦ ap table_at (same-op m p same) ∙ off
                  | inr proper ↦
                      let called = (all (Operation m)).1 (
                        (
                          under,
                          λ out. due.1 (record {
                            ancestor = out.ancestor;
                            under_root = out.under_root;
                            above = properly-trans (children s) out.ancestor (Operation m) (Operation p) out.above proper;
                            order = out.order;
                            skipped = out.skipped;
                          }),
                        ),
                        refl,
                      ) in
                      absurd (due.1 (record {
                        ancestor = Operation m;
                        under_root = under;
                        above = proper;
                        order = refl;
                        skipped = skipped m t called;
                      }))
                ]
              ],
        )

    open-called : (p : Ptr OperationKind) → IsOpenUnder own_table names s c root p → Has (nodes_of calls) (Operation p)
    open-called p free =
        (all (Operation p)).1 (
          (
            reached-under (look s) forest free.0.0 (Operation p) (Operation root) free.0.1,
            λ out.
                (let x = out.skipped in
                let t = is-table x.0 x.1 x.3 in
                let at = sym x.2 ∙ t.1 in
                not-both (table_at t.0) t.2 (free.1 t.0
                (subst (λ z. IsAncestor s (Operation root) z) at
                (under-reached (look s) forest out.ancestor (Operation root) out.under_root))
                (subst (λ z. IsAncestor s z (Operation p)) at
                (under-reached (look s) forest (Operation p) out.ancestor (out.above.0 ∷ out.above.1, out.above.2))))),
          ),
          refl,
        )

    walked-grown : IsGrown (IsCalled calls) u u' → IsGrown (IsToldUnder own_table names s c root) u u'
    walked-grown h =
        grown-as u u' (λ q called. (called.0, called-open called.0 called.1 called.2, called.3))
        (λ q told. (told.0, open-called told.0 told.1, told.1.1 told.0 told.1.0 (0, refl), told.2)) h

  -- a walk that went to its end has reached what the table tells of the operations that are open under the root
  pub walked-reached : IsForest (look s) → (answer : ControlFlow B WalkContinue) (k : WalkContinue) → answer ≡ Continue k
      → (u u' : Reached) → WalkedOperations look pre_forward post s u (Operation root) answer u' →
      IsGrown (IsToldUnder own_table names s c root) u u'
  walked-reached forest answer k is u u' walked =
      let t = (look s).children in
      let answers = subst (λ z. AnswersBy pre_forward t (Operation root) (IsOperationDue pre_forward t (Operation root))
      walked.calls z) is walked.walk.answers in
      walked-grown forest walked.calls u u' walked.chain answers.1 answers.2
      (all-grown walked.calls s u s u' refl walked.chain answers.1)

-- what is said of equal contexts and lists
pub reached-again :
    {K A T B : Type 0} (own_table : K → Bool) (names : OpView K A → List (List ℕ)) {c d : ContextView K A T} (t : Table)
    {u v u' v' : Reached} (p : Ptr OperationKind) (a : ControlFlow B WalkContinue) → c ≡ d → u ≡ v → u' ≡ v' →
    IsReachedAt own_table names c t u p a u' → IsReachedAt own_table names d t v p a v'
reached-again own_table names {c} {d} t {u} {v} {u'} {v'} p a context before after h =
    subst (λ z. IsReachedAt own_table names d t v p a z) after
    (subst (λ z. IsReachedAt own_table names d t z p a u') before
    (subst (λ z. IsReachedAt own_table names z t u p a u') context h))
