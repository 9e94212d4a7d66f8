-- Names that a walk has looked for, and trees without any.
use Rattle.std.proofs.Common.{◌≡◌, ◌≢◌, ◌⊎◌, ℕ, ◌+◌, ◌||◌, Bool, true, false, cond, List, [], ◌∷◌, ◌++◌, length, Option}
use Rattle.std.proofs.Common.{Some, None, inl, inr, refl, sym, ap, subst, ◌∙◌, arith}
use Rattle.std.specs.Prelude.{is_none, is_some, option_and_then, option_map}
use Rattle.std.specs.declared.ops.ControlFlow.{ControlFlow}
use Rattle.std.specs.declared.ops.ControlFlow.TheVariants.{Continue, Break}
use Rattle.plir_store.specs.Members.{Has}
use Rattle.plir_data.specs.AttrView.{AttrView}
use Rattle.plir_data.specs.Dictionary.{dict_get, dict_without, is_key}
use Rattle.plir_data.specs.DictLaws.{without-absent}
use Rattle.plir_data.specs.Keys.{names_key}
use Rattle.plir_core.specs.Contents.{OpView, BlockView}
use Rattle.plir_core.specs.declared.ptr.Ptr.{Ptr}
use Rattle.plir_core.specs.declared.ptr.Operation.{Operation as OperationKind}
use Rattle.plir_core.specs.declared.ptr.IRNode.{IRNode}
use Rattle.plir_core.specs.declared.ptr.IRNode.TheVariants.{Operation, Region, BasicBlock}
use Rattle.plir_core.specs.ContextView.{ContextView, attributes_in, block_at, block_attributes_in, children, label_in, op_at}
use Rattle.plir_core.specs.Forest.{look}
use Rattle.plir_walk.specs.declared.config.TheConstants.{WALKCONFIG_PREORDER_FORWARD as pre_forward}
use Rattle.plir_walk.specs.declared.interruptible.WalkContinue.{WalkContinue}
use Rattle.plir_walk.specs.declared.interruptible.WalkContinue.TheVariants.{Advance, Skip}
use Rattle.plir_walk.specs.Calls.{Call, Chain, NoBreak, Relation, nodes_of}
use Rattle.plir_walk.specs.GivenNames.{is_other, names_of}
use Rattle.plir_walk.specs.Tree.{IsUnder}
use Rattle.plir_walk.specs.Unnamed.{IsUnnamed, block_unnamed, op_unnamed, unnamed}
use Rattle.plir_walk.specs.Walk.{Answers}
use Rattle.plir_walk.specs.Walked.{IsCallUnder, WalkedOver}
use Rattle.plir_driver.specs.Named.{HasNamed, IsLookedAt, IsNamedNowhere, has_names, is_named}

module _ {V : Type 0} where
  -- one entry less, where there is one under the key
  without-shorter : (es : List (List ℕ × V)) (k : List ℕ) (v : V) → dict_get es k ≡ Some v →
      length (dict_without es k) + 1 ≡ length es
  without-shorter [] k v got = cc
  without-shorter (e ∷ es) k v got = by (is_key k e.0) got (without-shorter es k v)
    where
      by : (b : Bool) → cond b (Some e.1) (dict_get es k) ≡ Some v →
          (dict_get es k ≡ Some v → length (dict_without es k) + 1 ≡ length es) →
          length (cond b es (e ∷ dict_without es k)) + 1 ≡ length (e ∷ es)
      by true got rest = omega arith
      by false got rest = let r = rest got in omega (arith, r)

none-of : {X : Type 0} (o : Option X) → is_some o ≡ false → is_none o ≡ true
none-of None h = refl
none-of (Some x) h = cc

not-none : {X : Type 0} (o : Option X) → is_some o ≡ true → is_none o ≡ false
not-none None h = cc
not-none (Some x) h = refl

empty-of : {X : Type 0} (o : Option X) → is_some o ≡ false → o ≡ None
empty-of None h = refl
empty-of (Some x) h = cc

-- one of two tests holds, or both fail
either : (a b : Bool) → (a || b) ≡ true → (a ≡ true) ⊎ (b ≡ true)
either true b h = inl refl
either false b h = inr h

first-fails : (a b : Bool) → (a || b) ≡ false → a ≡ false
first-fails true b h = h
first-fails false b h = refl

second-fails : (a b : Bool) → (a || b) ≡ false → b ≡ false
second-fails true b h = absurd (let z : ⊥ = cc (h) in z)
second-fails false b h = h

module _ {A : Type 0} (es : List (List ℕ × AttrView A)) where
  abbrev Unnamed : Option (AttrView A) → List (List ℕ × AttrView A)
  Unnamed o = cond (is_other o) es (dict_without es names_key)

  -- attributes without names stay as they are
  pub unnamed-same : has_names es ≡ false → unnamed es ≡ es
  unnamed-same h = by (dict_get es names_key) refl h
    where
      by : (o : Option (AttrView A)) → dict_get es names_key ≡ o → is_some (option_and_then names_of o) ≡ false →
          unnamed es ≡ es
      by None is h = ap Unnamed is ∙ without-absent es names_key is
      by (Some v) is h =
          ap Unnamed is ∙ ap (λ b. cond b es (dict_without es names_key)) (none-of (names_of v) h)

  -- and those with names don't
  pub unnamed-other : has_names es ≡ true → unnamed es ≡ es → ⊥
  unnamed-other h same = by (dict_get es names_key) refl h
    where
      by : (o : Option (AttrView A)) → dict_get es names_key ≡ o → is_some (option_and_then names_of o) ≡ true → ⊥
      by None is h = cc
      by (Some v) is h =
          let gone : unnamed es ≡ dict_without es names_key =
          ap Unnamed is ∙ ap (λ b. cond b es (dict_without es names_key)) (not-none (names_of v) h) in
          let less = without-shorter es names_key v is in
          let alike = ap length (sym gone ∙ same) in
          omega (arith, less, alike)

module _ {K A : Type 0} where
  -- what an operation and a block hold that bear no names stays as it is
  op-same : (o : Option (OpView K A)) → has_names (attributes_in o) ≡ false → o ≡ option_map op_unnamed o
  op-same None h = refl
  op-same (Some v) h =
      ap (λ (es : List (List ℕ × AttrView A)). Some (record v { attributes = es })) (sym (unnamed-same v.attributes h))

  op-other : (o : Option (OpView K A)) → has_names (attributes_in o) ≡ true → o ≡ option_map op_unnamed o → ⊥
  op-other None h is = cc
  op-other (Some v) h is = unnamed-other v.attributes h (sym (ap attributes_in is))

module _ {A : Type 0} where
  block-same : (o : Option (BlockView A)) → (has_names (block_attributes_in o) || is_some (label_in o)) ≡ false →
      o ≡ option_map block_unnamed o
  block-same None h = refl
  block-same (Some v) h =
      let bare = second-fails (has_names v.attributes) (is_some v.label) h in
      let plain = first-fails (has_names v.attributes) (is_some v.label) h in
      ap (λ (l : Option (List ℕ)). Some (record v { label = l })) (empty-of v.label bare)
      ∙ ap (λ (es : List (List ℕ × AttrView A)). Some (record v { label = None; attributes = es }))
      (sym (unnamed-same v.attributes plain))

  block-other : (o : Option (BlockView A)) → (has_names (block_attributes_in o) || is_some (label_in o)) ≡ true →
      o ≡ option_map block_unnamed o → ⊥
  block-other None h is = cc
  block-other (Some v) h is = elim (either (has_names v.attributes) (is_some v.label) h) [
    | inl named ↦ unnamed-other v.attributes named (sym (ap block_attributes_in is))
    | inr labelled ↦
        let bare : is_some v.label ≡ false = ap (λ (o : Option (BlockView A)). is_some (label_in o)) is in
        let z : ⊥ = cc (labelled, bare) in z
  ]

module _ {K A T : Type 0} where
  -- where no node bears names, all names are erased by doing nothing
  pub nothing-lost : (s : ContextView K A T) (r : IRNode) → IsNamedNowhere s r → IsUnnamed s s r
  nothing-lost s r none = record {
    ops_under = λ p under. op-same (op_at s p) (none (Operation p) under);
    blocks_under = λ p under. block-same (block_at s p) (none (BasicBlock p) under);
    ops_apart = λ p live apart. refl;
    blocks_apart = λ p live apart. refl;
    live = λ n. refl;
    children = λ n. refl;
    parents = λ n. refl;
    given = λ n. refl;
    limit = refl;
    types = refl;
    op_slots = record { number = refl; full = λ j. refl; versions = λ j. refl; free = refl };
    block_slots = record { number = refl; full = λ j. refl; versions = λ j. refl; free = refl };
    rest = refl;
  }

  -- and where one does, something is lost
  pub something-lost : (s t : ContextView K A T) (r : IRNode) → HasNamed s r → IsUnnamed s t r → t ≢ s
  something-lost s t r has lost is = by has.node has.under has.named
    where
      by : (n : IRNode) → IsUnder (children s) r n → is_named s n ≡ true → ⊥
      by (Operation p) under named =
          op-other (op_at s p) named (ap (λ (z : ContextView K A T). op_at z p) (sym is) ∙ lost.ops_under p under)
      by (BasicBlock p) under named =
          block-other (block_at s p) named
          (ap (λ (z : ContextView K A T). block_at z p) (sym is) ∙ lost.blocks_under p under)
      by (Region p) under named = cc

-- the last call of a list is in it
has-last : {X : Type 0} (front : List X) (end : X) → Has (front ++ end ∷ []) end
has-last [] end = inl refl
has-last (x ∷ xs) end = inr (has-last xs end)

-- the node of a call is among the nodes of all
node-has : {C S B : Type 0} (calls : List (Call C S B)) (x : Call C S B) → Has calls x → Has (nodes_of calls) x.node
node-has [] x h = absurd h
node-has (y ∷ ys) x (inl e) = inl (ap (λ z. z.node) e)
node-has (y ∷ ys) x (inr i) = inr (node-has ys x i)

-- a node that was called, where no call broke the walk off
call-at : {C S B : Type 0} (calls : List (Call C S B)) (n : IRNode) → NoBreak calls → Has (nodes_of calls) n →
    (x : Call C S B) × Has calls x × (x.node ≡ n) × ((b : B) → x.answer ≢ Break b)
call-at [] n goes h = absurd h
call-at (y ∷ ys) n goes (inl e) = (y, inl refl, e, goes.0)
call-at (y ∷ ys) n goes (inr i) =
    let found = call-at ys n goes.1 i in (found.0, inr found.1, found.2, found.3)

-- `post` says what a call of the walk does: it looks at its node.
module _ {K A T S : Type 0} (s : ContextView K A T) (root : Ptr OperationKind)
    (post : Relation (ContextView K A T) S (Unit {0}))
    (each : (c : ContextView K A T) (u : S) (n : IRNode) (a : ControlFlow (Unit {0}) WalkContinue)
    (c' : ContextView K A T) (u' : S) → post c u n a c' u' → (c' ≡ c) × IsLookedAt c n a) where
  abbrev OneCall : Type 0
  OneCall = Call (ContextView K A T) S (Unit {0})

  abbrev call : Relation (ContextView K A T) S (Unit {0})
  call = IsCallUnder look (Operation root) post

  looked : (calls : List OneCall) (c : ContextView K A T) (u : S) (c' : ContextView K A T) (u' : S) → c ≡ s →
      Chain call c u calls c' u' → (x : OneCall) → Has calls x → IsLookedAt s x.node x.answer
  looked [] c u c' u' e h x i = absurd i
  looked (y ∷ ys) c u c' u' e h x (inl i) =
      let told = (each y.before y.state y.node y.answer y.after y.left h.2.made).1 in
      subst (λ (z : OneCall). IsLookedAt s z.node z.answer) i
      (subst (λ (z : ContextView K A T). IsLookedAt z y.node y.answer) (h.0 ∙ e) told)
  looked (y ∷ ys) c u c' u' e h x (inr i) =
      looked ys y.after y.left c' u'
      ((each y.before y.state y.node y.answer y.after y.left h.2.made).0 ∙ h.0 ∙ e) h.3 x i

  -- a walk that was broken off has come to a node that bears names
  pub broken-off : (answer : ControlFlow (Unit {0}) WalkContinue) (b : Unit {0}) → answer ≡ Break b → (u u' : S) →
      WalkedOver look pre_forward post s u (Operation root) answer u' → HasNamed s (Operation root)
  broken-off answer b is u u' walked =
      let answers = subst (λ z. Answers pre_forward (look s).children (Operation root) walked.calls z) is
      walked.walk.answers in
      let last = answers.0 in
      let here = subst (λ (z : List OneCall). Has z last.1) (sym last.2) (has-last last.0 last.1) in
      record {
        node = last.1.node;
        under = walked.walk.in_order.under_root last.1.node (node-has walked.calls last.1 here);
        named =
            subst (λ z. IsLookedAt s last.1.node z) last.3 (looked walked.calls s u s u' refl walked.chain last.1 here);
      }

  fails : (n : IRNode) (a : ControlFlow (Unit {0}) WalkContinue) → ((b : Unit {0}) → a ≢ Break b) →
      IsLookedAt s n a → is_named s n ≡ false
  fails n (Continue Advance) goes h = h
  fails n (Continue Skip) goes h = absurd h
  fails n (Break b) goes h = absurd (goes b refl)

  -- and one that went to its end has come to none
  pub gone-through : (answer : ControlFlow (Unit {0}) WalkContinue) (k : WalkContinue) → answer ≡ Continue k →
      (u u' : S) → WalkedOver look pre_forward post s u (Operation root) answer u' → IsNamedNowhere s (Operation root)
  gone-through answer k is u u' walked n under =
      let answers = subst (λ z. Answers pre_forward (look s).children (Operation root) walked.calls z) is
      walked.walk.answers in
      let seen = looked walked.calls s u s u' refl walked.chain in
      let at = call-at walked.calls n answers.1 ((answers.2 n).1 (
        under,
        λ shut.
            (let y = shut.skipped in
            subst (λ z. IsLookedAt s y.0.node z) y.3 (seen y.0 y.1)),
      )) in
      subst (λ z. is_named s z ≡ false) at.2 (fails at.0.node at.0.answer at.3 (seen at.0 at.1))
