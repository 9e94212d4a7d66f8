-- What stands below an operation once a block has come in place of another one.
use Rattle.std.proofs.Common.{◌≡◌, ℕ, ◌+◌, ◌<◌, arith, true≢false, cond, ◌⊎◌, inl, inr, refl}
use Rattle.std.proofs.Common.{sym, ap, subst, ◌∙◌, List, [], ◌∷◌, ◌++◌, length, map, Option, Some, None, option_map}
use Rattle.std.specs.Prelude.{slice_get, slice_set, remove, option_and_then}
use Rattle.std.proofs.lemmas.List.Edits.{length-remove}
use Rattle.std.proofs.lemmas.Option.{none-some, same_Some, slice_get-map}
use Rattle.plir_store.specs.Members.{Has, Distinct}
use Rattle.plir_store.specs.MemberLaws.{Has-at, at-Has, Has-mid, Has-split}
use Rattle.plir_core.specs.declared.ptr.Ptr.{Ptr}
use Rattle.plir_core.specs.declared.ptr.Operation.{Operation as OperationKind}
use Rattle.plir_core.specs.declared.ptr.BasicBlock.{BasicBlock as BlockKind}
use Rattle.plir_core.specs.declared.ptr.IRNode.{IRNode}
use Rattle.plir_core.specs.declared.ptr.IRNode.TheVariants.{Operation, Region, BasicBlock}
use Rattle.plir_core.specs.Contents.{OpView, BlockView}
use Rattle.plir_core.specs.ContextView.{ContextView, IsLive, arg_types_of, arguments_in, block_at, children, parent_of}
use Rattle.plir_core.specs.Forest.{look}
use Rattle.plir_core.specs.SameValue.{same_ptr, ptr-exact}
use Rattle.plir_core.specs.Standing.{IsStanding}
use Rattle.plir_walk.specs.Tree.{IsUnder, Place, node_at}
use Rattle.plir_walk.specs.TreeLaws.{under-live}
use Rattle.plir_flow.specs.Branches.{Range as Places}
use Rattle.plir_arguments.specs.Dropped.{IsDropped, without_argument}
use Rattle.plir_arguments.specs.Listed.{AreBlocksBelow, num_arguments}
use Rattle.plir_arguments.proofs.Members.{bool_cases, ptr-told}
use Rattle.plir_arguments.proofs.Putting.{put-has, put-here, put-once, put-other, sum-less}
use Rattle.plir_arguments.proofs.PutSteps.{block-same, not-own}

node-told : (x y : IRNode) → (x ≡ y) ⊎ (x ≡ y → ⊥)
node-told (Operation p) (Operation q) = elim (ptr-told p q) [ inl e ↦ inl (ap Operation e) | inr off ↦ inr (λ h. off (cc h)) ]
node-told (Operation p) (Region q) = inr (λ h. cc h)
node-told (Operation p) (BasicBlock q) = inr (λ h. cc h)
node-told (Region p) (Operation q) = inr (λ h. cc h)
node-told (Region p) (Region q) = elim (ptr-told p q) [ inl e ↦ inl (ap Region e) | inr off ↦ inr (λ h. off (cc h)) ]
node-told (Region p) (BasicBlock q) = inr (λ h. cc h)
node-told (BasicBlock p) (Operation q) = inr (λ h. cc h)
node-told (BasicBlock p) (Region q) = inr (λ h. cc h)
node-told (BasicBlock p) (BasicBlock q) =
    elim (ptr-told p q) [ inl e ↦ inl (ap BasicBlock e) | inr off ↦ inr (λ h. off (cc h)) ]

map-some : {X Y : Type 0} (f : X → Y) (o : Option X) (y : Y) → option_map f o ≡ Some y →
    (x : X) × (o ≡ Some x) × (f x ≡ y)
map-some f None y e = absurd (none-some y e)
map-some f (Some x) y e = (x, refl, same_Some (f x) y e)

module _ (b c : Ptr BlockKind) where
  -- what a node has become where c has come in place of b
  abbrev renamed : IRNode → IRNode
  renamed (Operation p) = Operation p
  renamed (Region r) = Region r
  renamed (BasicBlock x) = BasicBlock (cond (same_ptr x b) c x)

  renamed-b : renamed (BasicBlock b) ≡ BasicBlock c
  renamed-b = ap (λ z. BasicBlock (cond z c b)) ((ptr-exact b b).1 refl)

  renamed-other : (n : IRNode) → (n ≡ BasicBlock b → ⊥) → renamed n ≡ n
  renamed-other (Operation p) off = refl
  renamed-other (Region r) off = refl
  renamed-other (BasicBlock x) off = elim (bool_cases (same_ptr x b)) [
    | inl e ↦ absurd (off (ap BasicBlock ((ptr-exact x b).0 e)))
    | inr e ↦ ap (λ z. BasicBlock (cond z c x)) e
  ]

  map-same : (ns : List IRNode) → (Has ns (BasicBlock b) → ⊥) → map renamed ns ≡ ns
  map-same [] off = refl
  map-same (n ∷ ns) off =
      ap (λ z. z ∷ map renamed ns) (renamed-other n (λ e. off (inl e)))
      ∙ ap (λ zs. n ∷ zs) (map-same ns (λ h. off (inr h)))

  map-split : (xs ys : List IRNode) → Distinct (xs ++ BasicBlock b ∷ ys) →
      map renamed (xs ++ BasicBlock b ∷ ys) ≡ xs ++ BasicBlock c ∷ ys
  map-split [] ys d =
      ap (λ z. z ∷ map renamed ys) renamed-b ∙ ap (λ zs. BasicBlock c ∷ zs) (map-same ys d.0)
  map-split (x ∷ xs) ys d =
      ap (λ z. z ∷ map renamed (xs ++ BasicBlock b ∷ ys))
      (renamed-other x (λ e. d.0 (subst (Has (xs ++ BasicBlock b ∷ ys)) (sym e) (Has-mid xs ys (BasicBlock b)))))
      ∙ ap (λ zs. x ∷ zs) (map-split xs ys d.1)

module _ {K A T : Type 0} (keys : List (List ℕ)) (forwards : ℕ → OpView K A → Option Places)
    (s t : ContextView K A T) (b c : Ptr BlockKind) (i : ℕ) (d : IsDropped keys forwards s t b i c)
    (stands : IsStanding s) (over : IRNode) (linked : parent_of s (BasicBlock b) ≡ Some over) where
  abbrev f : IRNode → IRNode
  f = renamed b c

  in-over : Has (children s over) (BasicBlock b)
  in-over = stands.forest.parent_child over (BasicBlock b) linked

  -- a node below which the block does not stand has the children that it had
  not-in : (n : IRNode) → (n ≡ over → ⊥) → Has (children s n) (BasicBlock b) → ⊥
  not-in n off h = off (sym (same_Some over n (sym linked ∙ stands.forest.child_parent n (BasicBlock b) h)))

  children-over : children t (f over) ≡ map f (children s over)
  children-over =
      let k = Has-split (children s over) (BasicBlock b) in-over in
      let off : over ≡ BasicBlock b → ⊥ = λ e. not-own s stands.measured (BasicBlock b) (linked ∙ ap Some e) in
      ap (children t) (renamed-other b c over off)
      ∙ d.here over k.0 k.1 k.2
      ∙ sym (map-split b c k.0 k.1 (subst Distinct k.2 (stands.forest.once over)))
      ∙ ap (map f) (sym k.2)

  children-block : children t (f (BasicBlock b)) ≡ map f (children s (BasicBlock b))
  children-block =
      ap (children t) (renamed-b b c)
      ∙ d.body
      ∙ sym (map-same b c (children s (BasicBlock b))
      (λ h. not-own s stands.measured (BasicBlock b) (stands.forest.child_parent (BasicBlock b) (BasicBlock b) h)))

  children-other : (n : IRNode) → IsLive s n → (n ≡ BasicBlock b → ⊥) → (n ≡ over → ⊥) →
      children t (f n) ≡ map f (children s n)
  children-other n live off apart =
      ap (children t) (renamed-other b c n off)
      ∙ d.children n live off (λ e. apart (sym (same_Some over n (sym linked ∙ e))))
      ∙ sym (map-same b c (children s n) (not-in n apart))

  children-renamed : (n : IRNode) → IsLive s n → children t (f n) ≡ map f (children s n)
  children-renamed n live = elim (node-told n (BasicBlock b)) [
    | inl e ↦ subst (λ z. children t (f z) ≡ map f (children s z)) (sym e) children-block
    | inr off ↦ elim (node-told n over) [
      | inl e ↦ subst (λ z. children t (f z) ≡ map f (children s z)) (sym e) children-over
      | inr apart ↦ children-other n live off apart
    ]
  ]

  -- what stands at a place is what stood there, renamed
  at-renamed : (p : Place) (n : IRNode) → IsLive s n →
      node_at (children t) (f n) p ≡ option_map f (node_at (children s) n p)
  at-renamed [] n live = refl
  at-renamed (k ∷ p) n live =
      ap (λ ns. option_and_then (λ x. node_at (children t) x p) (slice_get ns k)) (children-renamed n live)
      ∙ ap (option_and_then (λ x. node_at (children t) x p)) (slice_get-map f (children s n) k)
      ∙ go (slice_get (children s n) k) refl (λ x l. at-renamed p x l)
    where
      go : (o : Option IRNode) → slice_get (children s n) k ≡ o → ((x : IRNode) → IsLive s x →
          node_at (children t) (f x) p ≡ option_map f (node_at (children s) x p)) →
          option_and_then (λ x. node_at (children t) x p) (option_map f o) ≡
          option_map f (option_and_then (λ x. node_at (children s) x p) o)
      go None e rest = refl
      go (Some x) e rest = rest x (stands.forest.child_live n x (Has-at (children s n) k x e))

  module _ (r : Ptr OperationKind) (live : IsLive s (Operation r)) where
    under-renamed : (n : IRNode) → IsUnder (children s) (Operation r) n → IsUnder (children t) (Operation r) (f n)
    under-renamed n u = (u.0, at-renamed u.0 (Operation r) live ∙ ap (option_map f) u.1)

    under-before : (n : IRNode) → IsUnder (children t) (Operation r) n →
        (m : IRNode) × IsUnder (children s) (Operation r) m × (f m ≡ n)
    under-before n u =
        let k = map-some f (node_at (children s) (Operation r) u.0) n (sym (at-renamed u.0 (Operation r) live) ∙ u.1) in
        (k.0, (u.0, k.1), k.2)

    -- the blocks below the operation are those that were, but c in place of b
    module _ (bs : List (Ptr BlockKind)) (j : ℕ) (at : slice_get bs j ≡ Some b) (below : AreBlocksBelow s r bs) where
      was-live : (x : Ptr BlockKind) → Has bs x → IsLive s (BasicBlock x)
      was-live x h = under-live (look s) stands.forest (Operation r) (BasicBlock x) live (below.only x h)

      only-below : (x : Ptr BlockKind) → Has (slice_set bs j c) x → IsUnder (children t) (Operation r) (BasicBlock x)
      only-below x h = elim (put-has bs j b c x below.once at h) [
        | inl same ↦
            subst (IsUnder (children t) (Operation r)) (renamed-b b c ∙ ap BasicBlock same)
            (under-renamed (BasicBlock b) (below.only b (Has-at bs j b at)))
        | inr k ↦
            subst (IsUnder (children t) (Operation r))
            (renamed-other b c (BasicBlock x) (λ e. k.1 (block-same x b e)))
            (under-renamed (BasicBlock x) (below.only x k.0))
      ]

      all-below : (x : Ptr BlockKind) (m : IRNode) → IsUnder (children s) (Operation r) m → f m ≡ BasicBlock x →
          Has (slice_set bs j c) x
      all-below x (Operation p) u e = absurd (let z : ⊥ = cc e in z)
      all-below x (Region p) u e = absurd (let z : ⊥ = cc e in z)
      all-below x (BasicBlock y) u e = elim (ptr-told y b) [
        | inl same ↦
            (let is : c ≡ x = block-same c x (sym (renamed-b b c)
            ∙ ap (λ z. f (BasicBlock z)) (sym same) ∙ e) in
            Has-at (slice_set bs j c) j x (put-here bs j c b at ∙ ap Some is))
        | inr off ↦
            (let is : y ≡ x = block-same y x (sym (renamed-other b c (BasicBlock y) (λ q. off (block-same y b q))) ∙ e) in
            let k = at-Has bs y (below.all y u) in
            let apart : k.0 ≡ j → ⊥ = λ q. off (same_Some y b (sym k.1 ∙ ap (slice_get bs) q ∙ at)) in
            Has-at (slice_set bs j c) k.0 x (put-other bs j k.0 c y apart k.1 ∙ ap Some is))
      ]

      pub blocks-below : AreBlocksBelow t r (slice_set bs j c)
      blocks-below = record {
        only = only-below;
        all = λ x u. (let k = under-before (BasicBlock x) u in all-below x k.0 k.1 k.2);
        once = put-once bs j b c below.once at (λ h. true≢false (sym (was-live c h) ∙ d.new));
      }

      -- and have one argument less
      pub arguments-less : i < length (arg_types_of s b) →
          num_arguments t (slice_set bs j c) < num_arguments s bs
      arguments-less less =
          sum-less (λ x. length (arg_types_of s x)) (λ x. length (arg_types_of t x)) bs j b c below.once at
          (fewer (block_at s b) less d.held)
          (λ x h off. ap (λ o. length (arguments_in o)) (d.blocks x (was-live x h) off))
        where
          fewer : (o : Option (BlockView A)) → i < length (arguments_in o) →
              block_at t c ≡ option_map (without_argument i) o → length (arg_types_of t c) < length (arguments_in o)
          fewer None l e = absurd (let no : ⊥ = omega (arith, l) in no)
          fewer (Some v) l e =
              let one : length (remove v.arg_types i) + 1 ≡ length v.arg_types = length-remove v.arg_types i l in
              let is : length (arg_types_of t c) ≡ length (remove v.arg_types i) = ap (λ o. length (arguments_in o)) e in
              omega (arith, one, is)
