-- What follows for the rule of region edges from what is known of one edge more.
use Rattle.std.proofs.Common.{◌≡◌, ◌↔◌, ℕ, zero, suc, ◌+◌, ◌<◌, ◌≤◌, Bool, true, false, cond, List, [], ◌∷◌, ◌++◌}
use Rattle.std.proofs.Common.{length, take, map, get_or, Option, Some, None, inl, inr, refl, sym, ap, subst, ◌∙◌, arith}
use Rattle.std.specs.Prelude.{All, IsTrue, slice_get}
use Rattle.std.specs.Option.{option_eq, is_some, IfSome}
use Rattle.std.proofs.lemmas.List.Elements.{All-more}
use Rattle.plir_flow.specs.Hops.{same_region}
use Rattle.std.proofs.lemmas.Bool.{cases_eq}
use Rattle.std.proofs.lemmas.Option.{same_Some, slice_get-get_or, slice_get_within}
use Rattle.plir_core.specs.declared.ptr.Ptr.{Ptr}
use Rattle.plir_core.specs.declared.ptr.Operation.{Operation as OperationKind}
use Rattle.plir_core.specs.declared.value.Value.{Value}
use Rattle.plir_store.specs.Members.{Has, Distinct}
use Rattle.plir_store.specs.MemberLaws.{Has-at, at-Has, map-Has}
use Rattle.plir_core.specs.ContextView.{ContextView}
use Rattle.plir_flow.specs.declared.edge_ends.RegionBranchPoint.{RegionBranchPoint}
use Rattle.plir_flow.specs.declared.edge_ends.RegionSuccessor.{RegionSuccessor}
use Rattle.plir_flow.specs.declared.edge_ends.RegionSuccessor.TheVariants.{Region as ToRegion, After}
use Rattle.plir_flow.specs.declared.region_edge_errors.EdgeFault.{EdgeFault}
use Rattle.plir_flow.specs.declared.region_edge_errors.EdgeFault.TheVariants.{OtherReceivers, ForeignTerminator}
use Rattle.plir_flow.specs.declared.region_edge_errors.EdgeFault.TheVariants.{ForeignRead, ForeignRegion}
use Rattle.plir_flow.specs.declared.region_edge_errors.EdgeFault.TheVariants.{ForeignOperand, NoArgument, NoResult}
use Rattle.plir_flow.specs.declared.region_edge_errors.EdgeFault.TheVariants.{ReceivedTwice, OtherType}
use Rattle.plir_flow.specs.RegionEdges.{EdgeView, Flow, receivers_on}
use Rattle.plir_flow.specs.EdgeEquality.{same_target, target-exact}
use Rattle.plir_flow.specs.RegionRule.{SameReceivers, HaveOtherReceivers, IsReceiver, IsFaultOfFlow, IsFaultOfEdge}
use Rattle.plir_flow.specs.RegionRule.{IsFaultOfEdges, no_receiver, IsFlowRight}
use Rattle.plir_flow.specs.EdgeVerdicts.{AreFirsts, target_region, IsFlowVerdict, IsFlowsVerdict, IsEdgeVerdict}
use Rattle.plir_flow.proofs.TakenLists.{each-has, each-from-has, mapped-all, mapped-at, distinct-push}
use Rattle.plir_flow.proofs.Exact.{region-as-ptr}

-- receivers
pub within-from : (fs : List Flow) (vs : List Value) → All (λ (f : Flow). Has vs f.1) fs → (v : Value)
    → Has (map (λ (o : Flow). o.1) fs) v → Has vs v
within-from fs vs all v h =
    each-has (Has vs) (map (λ (o : Flow). o.1) fs) v
    (mapped-all (λ (o : Flow). o.1) (λ (f : Flow). Has vs f.1) (Has vs) (λ f k. k) fs all) h

pub within-to : (fs : List Flow) (vs : List Value) → ((v : Value) → Has (map (λ (o : Flow). o.1) fs) v → Has vs v)
    → All (λ (f : Flow). Has vs f.1) fs
within-to fs vs all = each-from-has (λ (f : Flow). Has vs f.1) fs (λ f h. all f.1 (map-Has (λ (o : Flow). o.1) fs f h))

pub within-like : (fs : List Flow) (us vs : List Value) → ((v : Value) → Has us v ↔ Has vs v)
    → All (λ (f : Flow). Has us f.1) fs ↔ All (λ (f : Flow). Has vs f.1) fs
within-like fs us vs same = (
  λ a. within-to fs vs (λ v h. (same v).0 (within-from fs us a v h)),
  λ a. within-to fs us (λ v h. (same v).1 (within-from fs vs a v h)),
)

pub within-at : (b : Bool) (fs gs os ps : List Flow) → fs ≡ gs → os ≡ ps
    → (IsTrue b ↔ All (λ (f : Flow). Has (map (λ (o : Flow). o.1) os) f.1) fs)
    → IsTrue b ↔ All (λ (f : Flow). Has (map (λ (o : Flow). o.1) ps) f.1) gs
within-at b fs gs os ps e g w =
    subst (λ l. IsTrue b ↔ All (λ (f : Flow). Has (map (λ (o : Flow). o.1) ps) f.1) l) e
    (subst (λ l. IsTrue b ↔ All (λ (f : Flow). Has (map (λ (o : Flow). o.1) l) f.1) fs) g w)

module _ (d e : EdgeView) where
  abbrev pub Within : EdgeView → EdgeView → Type 0
  Within x y = All (λ (f : Flow). Has (receivers_on y) f.1) x.flows

  pub same-not : (Within d e → ⊥) → SameReceivers d e → ⊥
  same-not n same = n (within-to d.flows (receivers_on e) (λ v h. (same v).0 h))

  pub same-if : Within d e → Within e d ↔ SameReceivers d e
  same-if there = (
    λ back v. (λ h. within-from d.flows (receivers_on e) there v h, λ h. within-from e.flows (receivers_on d) back v h),
    λ same. within-to e.flows (receivers_on d) (λ v h. (same v).1 h),
  )

-- the targets are the same where the regions are that they lead to
pub target-same : (t u : RegionSuccessor) → option_eq same_region (target_region t) (target_region u) ≡ same_target t u
target-same (ToRegion p) (ToRegion q) = region-as-ptr p q
target-same (ToRegion p) After = refl
target-same After (ToRegion q) = refl
target-same After After = refl

-- the first edges with each target
module _ (es : List EdgeView) (n : ℕ) (head : RegionSuccessor → Option ℕ) (w : AreFirsts es n head) (e : EdgeView)
    (here : slice_get es n ≡ Some e) where
  -- an edge has the receivers of the one that its target's head names
  abbrev HasFirst : (RegionSuccessor → Option ℕ) → EdgeView → Type 0
  HasFirst now x = (k : ℕ) × ((y : EdgeView) × ((now x.to ≡ Some k) × (slice_get es k ≡ Some y) × SameReceivers y x))

  seen-next : (now : RegionSuccessor → Option ℕ) → HasFirst now e
      → ((j : ℕ) (x : EdgeView) → j < n → slice_get es j ≡ Some x → HasFirst now x)
      → (j : ℕ) (x : EdgeView) → j < n + 1 → slice_get es j ≡ Some x → HasFirst now x
  seen-next now last before j x below got = elim (cases_eq j n) [
    | inl is ↦ subst (HasFirst now) (same_Some e x (sym here ∙ ap (slice_get es) (sym is) ∙ got)) last
    | inr other ↦ before j x (omega arith) got
  ]

  pub firsts-kept : (i : ℕ) (d : EdgeView) → head e.to ≡ Some i → slice_get es i ≡ Some d → SameReceivers d e
      → AreFirsts es (n + 1) head
  firsts-kept i d is at same = record { seen = seen-next head (i, (d, (is, at, same))) w.seen; heads = w.heads }

  pub firsts-broken : (i : ℕ) (d : EdgeView) → head e.to ≡ Some i → slice_get es i ≡ Some d → (SameReceivers d e → ⊥)
      → HaveOtherReceivers es
  firsts-broken i d is at other =
      let r = w.heads e.to i is in
      let one : r.0 ≡ d = same_Some r.0 d (sym r.1.0 ∙ at) in
      (d, (e, (Has-at es i d at, Has-at es n e here, subst (λ (z : EdgeView). z.to ≡ e.to) one r.1.1, other)))

  pub firsts-new : head e.to ≡ None → (now : RegionSuccessor → Option ℕ)
      → ((t : RegionSuccessor) → now t ≡ cond (same_target e.to t) (Some n) (head t)) → AreFirsts es (n + 1) now
  firsts-new absent now is = record {
    seen =
        seen-next now (n, (e, (own, here, λ v. (λ h. h, λ h. h)))) (λ j x below got.
        let r = w.seen j x below got in (r.0, (r.1.0, (others x.to r.0 r.1.1.0, r.1.1.1, r.1.1.2))));
    heads = heads;
  }
    where
      own : now e.to ≡ Some n
      own = is e.to ∙ ap (λ b. cond b (Some n) (head e.to)) ((target-exact e.to e.to).1 refl)

      others : (t : RegionSuccessor) (k : ℕ) → head t ≡ Some k → now t ≡ Some k
      others t k at = by (same_target e.to t) refl
        where
          by : (b : Bool) → same_target e.to t ≡ b → now t ≡ Some k
          by true same =
              absurd (let f : e.to ≡ t = (target-exact e.to t).0 same in
              let g : None ≡ Some k = sym absent ∙ ap head f ∙ at in cc)
          by false differ = is t ∙ ap (λ b. cond b (Some n) (head t)) differ ∙ at

      heads : (t : RegionSuccessor) (i : ℕ) → now t ≡ Some i → (y : EdgeView) × ((slice_get es i ≡ Some y) × (y.to ≡ t))
      heads t i at = by (same_target e.to t) refl
        where
          by : (b : Bool) → same_target e.to t ≡ b → (y : EdgeView) × ((slice_get es i ≡ Some y) × (y.to ≡ t))
          by true same =
              let place : n ≡ i = same_Some n i (sym (is t ∙ ap (λ b. cond b (Some n) (head t)) same) ∙ at) in
              (e, (subst (λ k. slice_get es k ≡ Some e) place here, (target-exact e.to t).0 same))
          by false differ = w.heads t i (sym (is t ∙ ap (λ b. cond b (Some n) (head t)) differ) ∙ at)

-- once all edges are seen, those with one target have one set of receivers
pub firsts-all : (es : List EdgeView) (n : ℕ) (head : RegionSuccessor → Option ℕ) → AreFirsts es n head → length es ≤ n
    → (d e : EdgeView) → Has es d → Has es e → d.to ≡ e.to → SameReceivers d e
firsts-all es n head w long d e hd he same v =
    let i = at-Has es d hd in
    let j = at-Has es e he in
    let p = w.seen i.0 d (omega (arith, slice_get_within es i.0 d i.1)) i.1 in
    let q = w.seen j.0 e (omega (arith, slice_get_within es j.0 e j.1)) j.1 in
    let place : p.0 ≡ q.0 = same_Some p.0 q.0 (sym p.1.1.0 ∙ ap head same ∙ q.1.1.0) in
    let one : p.1.0 ≡ q.1.0 = same_Some p.1.0 q.1.0 (sym p.1.1.1 ∙ ap (slice_get es) place ∙ q.1.1.1) in
    let s = subst (λ (z : EdgeView). SameReceivers z d) one p.1.1.2 in
    (λ h. (q.1.1.2 v).0 ((s v).1 h), λ h. (s v).0 ((q.1.1.2 v).1 h))

-- faults
module _ {K A T : Type 0} (s : ContextView K A T) (op : Ptr OperationKind) (p : RegionBranchPoint) where
  pub no-receiver : (t : RegionSuccessor) (f : Flow) → (IsReceiver s op t f.1 → ⊥)
      → IsFaultOfFlow s op p t f (no_receiver t)
  no-receiver (ToRegion r) f n = (refl, n)
  no-receiver After f n = (refl, n)

module _ {K A T : Type 0} (is_terminator : K → Bool) (s : ContextView K A T) (op : Ptr OperationKind) (e : EdgeView)
    (f : Flow) (here : Has e.flows f) where
  pub flow-breaks : (x : EdgeFault) → IsFaultOfFlow s op e.from e.to f x → IsFaultOfEdge is_terminator s op e x
  flow-breaks OtherReceivers b = absurd b
  flow-breaks ForeignTerminator b = absurd b
  flow-breaks ForeignRead b = absurd b
  flow-breaks ForeignRegion b = absurd b
  flow-breaks ForeignOperand b = (f, (here, b))
  flow-breaks NoArgument b = (f, (here, b))
  flow-breaks NoResult b = (f, (here, b))
  flow-breaks ReceivedTwice b = absurd b
  flow-breaks (OtherType t u) b = (f, (here, b))

pub edge-breaks : {K A T : Type 0} (is_terminator : K → Bool) (s : ContextView K A T) (op : Ptr OperationKind)
    (es : List EdgeView) (e : EdgeView) → Has es e → (x : EdgeFault) → IsFaultOfEdge is_terminator s op e x
    → IsFaultOfEdges is_terminator s op es x
edge-breaks t s op es e here OtherReceivers b = absurd b
edge-breaks t s op es e here ForeignTerminator b = (e, (here, b))
edge-breaks t s op es e here ForeignRead b = (e, (here, b))
edge-breaks t s op es e here ForeignRegion b = (e, (here, b))
edge-breaks t s op es e here ForeignOperand b = (e, (here, b))
edge-breaks t s op es e here NoArgument b = (e, (here, b))
edge-breaks t s op es e here NoResult b = (e, (here, b))
edge-breaks t s op es e here ReceivedTwice b = (e, (here, b))
edge-breaks t s op es e here (OtherType x y) b = (e, (here, b))

pub place-has : {A : Type 0} (xs : List A) (i : ℕ) (d : A) → i < length xs → Has xs (get_or xs i d)
place-has xs i d h = Has-at xs i (get_or xs i d) (slice_get-get_or xs i d h)

-- an element that stands before stands twice
pub twice : {A B : Type 0} (g : A → B) (xs : List A) (i : ℕ) (d : A) → i < length xs
    → Has (map g (take i xs)) (g (get_or xs i d)) → Distinct (map g xs) → ⊥
twice g [] i d h k w = omega arith
twice g (x ∷ xs) zero d h k w = k
twice {A} {B} g (x ∷ xs) (suc i) d h k w = elim k [
  | inl e ↦
      w.0 (subst (Has (map g xs)) (sym e) (map-Has g xs (get_or xs i d) (place-has xs i d (omega arith))))
  | inr r ↦ twice g xs i d (omega arith) r w.1
]

module _ {K A T : Type 0} (is_terminator : K → Bool) (s : ContextView K A T) (op : Ptr OperationKind) where
  pub edge-reported : (es : List EdgeView) (e : EdgeView) (r : Option EdgeFault) → Has es e
      → IsEdgeVerdict is_terminator s op e r → IfSome r (IsFaultOfEdges is_terminator s op es)
  edge-reported es e None here reported = tt
  edge-reported es e (Some x) here reported = edge-breaks is_terminator s op es e here x reported

  module _ (x e : EdgeView) (v : x ≡ e) (gs : List Flow) (g : gs ≡ x.flows) (i : ℕ) (d : Flow)
      (received now : List Value) (below : i < length gs) where
    abbrev Names : List Flow → List Value
    Names fs = map (λ (f : Flow). f.1) fs

    stop : (r : Option EdgeFault) → received ≡ Names (take i x.flows)
        → IsFlowVerdict s op x.from x.to (get_or x.flows i d) received now r → i < length x.flows → is_some r ≡ true
        → IsFlowsVerdict is_terminator s op x r
    stop None is reported within some = absurd (let f : false ≡ true = some in cc)
    stop (Some y) is (inl broken) within some =
        flow-breaks is_terminator s op x (get_or x.flows i d) (place-has x.flows i d within) y broken
    stop (Some y) is (inr (e, h)) within some =
        subst (λ z. IsFaultOfEdge is_terminator s op x z) (sym e)
        (twice (λ (f : Flow). f.1) x.flows i d within (subst (λ l. Has l (get_or x.flows i d).1) is h))

    inside : i < length x.flows
    inside = subst (λ l. i < length l) g below

    pub flows-stop : (r : Option EdgeFault) → received ≡ Names (take i e.flows)
        → IsFlowVerdict s op x.from x.to (get_or gs i d) received now r → is_some r ≡ true
        → IsFlowsVerdict is_terminator s op e r
    flows-stop r is reported some =
        subst (λ (z : EdgeView). IsFlowsVerdict is_terminator s op z r) v
        (stop r (is ∙ ap (λ (z : EdgeView). Names (take i z.flows)) (sym v))
        (subst (λ l. IsFlowVerdict s op x.from x.to (get_or l i d) received now r) g reported) inside some)

    abbrev Goes : EdgeView → Type 0
    Goes z =
        (now ≡ Names (take (i + 1) z.flows)) × All (IsFlowRight s op z.from z.to) (take (i + 1) z.flows) × Distinct now

    go : (r : Option EdgeFault) → received ≡ Names (take i x.flows)
        → All (IsFlowRight s op x.from x.to) (take i x.flows) → Distinct received
        → IsFlowVerdict s op x.from x.to (get_or x.flows i d) received now r → is_some r ≡ false → Goes x
    go (Some y) is all once reported none = absurd (let f : true ≡ false = none in cc)
    go None is all once (right, fresh, grown) none = (
      grown ∙ ap (λ l. l ++ (get_or x.flows i d).1 ∷ []) is ∙ mapped-at (λ (f : Flow). f.1) [] x.flows i d inside,
      All-more (IsFlowRight s op x.from x.to) x.flows i d inside all right,
      subst Distinct (sym grown) (distinct-push received (get_or x.flows i d).1 once fresh),
    )

    pub flows-go : (r : Option EdgeFault) → received ≡ Names (take i e.flows)
        → All (IsFlowRight s op e.from e.to) (take i e.flows) → Distinct received
        → IsFlowVerdict s op x.from x.to (get_or gs i d) received now r → is_some r ≡ false → Goes e
    flows-go r is all once reported none =
        subst Goes v (go r (is ∙ ap (λ (z : EdgeView). Names (take i z.flows)) (sym v))
        (subst (λ (z : EdgeView). All (IsFlowRight s op z.from z.to) (take i z.flows)) (sym v) all) once
        (subst (λ l. IsFlowVerdict s op x.from x.to (get_or l i d) received now r) g reported) none)

pub firsts-none : (es : List EdgeView) (head : RegionSuccessor → Option ℕ) → ((t : RegionSuccessor) → head t ≡ None)
    → AreFirsts es 0 head
firsts-none es head empty = record {
  seen = λ j d h. absurd (omega arith);
  heads = λ t i at. absurd (let f : None ≡ Some i = sym (empty t) ∙ at in cc);
}
