-- What a written operation says of names where it was written of, and where it was read.
use Rattle.std.proofs.Common.{◌≡◌, ℕ, zero, suc, Bool, true, false, List, [], ◌∷◌, ◌++◌, map, inl, inr, Option, Some}
use Rattle.std.proofs.Common.{None, refl, sym, ap, subst, ◌∙◌}
use Rattle.std.specs.Prelude.{slice_get, option_and_then, if◌then◌else◌}
use Rattle.plir_data.specs.declared.op_set.OpSet as op_set
use Rattle.plir_store.specs.Members.{Has}
use Rattle.plir_core.specs.ContextView.{ContextView, children, kind_of}
use Rattle.plir_core.specs.Results.{result_of}
use Rattle.plir_core.specs.Standing.{IsStanding}
use Rattle.plir_core.specs.declared.ptr.Ptr.{Ptr}
use Rattle.plir_core.specs.declared.ptr.Operation.{Operation as OperationKind}
use Rattle.plir_core.specs.declared.ptr.Region.{Region as RegionKind}
use Rattle.plir_core.specs.declared.ptr.BasicBlock.{BasicBlock as BlockKind}
use Rattle.plir_core.specs.declared.ptr.IRNode.{IRNode}
use Rattle.plir_core.specs.declared.ptr.IRNode.TheVariants.{Operation, Region, BasicBlock}
use Rattle.plir_core.specs.declared.value.Value.{Value}
use Rattle.plir_walk.specs.TreeLaws.{node_at-append}
use Rattle.plir_read.specs.OpTerms.{BlockHead}
use Rattle.plir_read.specs.OpsStanding.{IsBlockHeadAt}
use Rattle.plir_read_ir.specs.IrMeaning.{argument_words}
use Rattle.plir_read_ir.specs.IrStanding.{AreBlocksAt, AreOpsAt, AreRegionsAt, IsIrAt}
use Rattle.plir_read_ir.specs.IrTerms.{Front, bodied_front, constant_front, own_front, IrOp, blocks_of, ops_of}
use Rattle.plir_read_ir.specs.IrTerms.{regions_of}
use Rattle.plir_read_ir.specs.Mentions.{Mention, Scope, argument_of, blocks_mentions, body_in, front_mentions}
use Rattle.plir_read_ir.specs.Mentions.{head_mentions, op_mentions, operands_named, ops_mentions, region_of}
use Rattle.plir_read_ir.specs.Mentions.{regions_mentions, results_bear, successors_named, uses_named}
use Rattle.plir_roundtrip.specs.IrWritten.{block_written, front_of, ir_term_at, region_written}
use Rattle.plir_roundtrip.specs.SameIrTree.{AreAtOnePlace, IsSameValue}
use Rattle.plir_roundtrip.specs.UsesMeant.{scope_in}
use Rattle.plir_roundtrip.specs.Written.{block_head_term}
use Rattle.plir_roundtrip.proofs.Children.{HasRoom, child_of_block, child_of_op, child_of_region, child_room}
use Rattle.plir_roundtrip.proofs.Children.{lower_room, some_room}
use Rattle.plir_roundtrip.proofs.OpSame.{block_held}
use Rattle.plir_roundtrip.proofs.Related.{SameScope, SayAlike, nothing_said, operands_said, say_both}
use Rattle.plir_roundtrip.proofs.Related.{successors_said, values_said}

module _ {K A T : Type 0} (isolated : K → Bool) (s t : ContextView K A T) (x y : IRNode) where
  -- ---- places of children

  child_place : (a b c d : IRNode) (i : ℕ) → AreAtOnePlace s t x y a b → slice_get (children s a) i ≡ Some c
      → slice_get (children t b) i ≡ Some d → AreAtOnePlace s t x y c d
  child_place a b c d i h e f = (
    h.0 ++ i ∷ [],
    node_at-append (children s) h.0 (i ∷ []) x a c h.1 (ap (option_and_then (λ z. Some z)) e),
    node_at-append (children t) h.0 (i ∷ []) y b d h.2 (ap (option_and_then (λ z. Some z)) f),
  )

  -- of two lists those with one index are at the same place
  abbrev pub InRow : List IRNode → List IRNode → Type 0
  InRow us vs = (i : ℕ) (a b : IRNode) → slice_get us i ≡ Some a → slice_get vs i ≡ Some b → AreAtOnePlace s t x y a b

  pub children_in_row : (a b : IRNode) → AreAtOnePlace s t x y a b → InRow (children s a) (children t b)
  children_in_row a b h i c d e f = child_place a b c d i h e f

  -- the first of them, and the others
  pub first_in_row : (u v : IRNode) (us vs ws : List IRNode) → vs ≡ v ∷ ws → InRow (u ∷ us) vs
      → AreAtOnePlace s t x y u v
  first_in_row u v us vs ws e row = row 0 u v refl (ap (λ l. slice_get l 0) e)

  pub others_in_row : (u v : IRNode) (us vs ws : List IRNode) → vs ≡ v ∷ ws → InRow (u ∷ us) vs → InRow us ws
  others_in_row u v us vs ws e row i a b f g = row (suc i) a b f (ap (λ l. slice_get l (suc i)) e ∙ g)

  -- ---- scopes

  pub record SameScopes (at bt : Scope) : Type 0 where
    pub body : SameScope s t x y (λ p. Operation p) at.body bt.body
    pub region : SameScope s t x y (λ p. Region p) at.region bt.region

  pub bodies_alike : (b c : Option (Ptr OperationKind)) (p q : Ptr OperationKind)
      → SameScope s t x y (λ z. Operation z) b c → AreAtOnePlace s t x y (Operation p) (Operation q) → (f : Front K)
      → SameScope s t x y (λ z. Operation z) (body_in isolated b (Operation p) f) (body_in isolated c (Operation q) f)
  bodies_alike b c p q h k (bodied_front f) = k
  bodies_alike b c p q h k (constant_front w a ty) = h
  bodies_alike b c p q h k (own_front f) = at (isolated f.kind)
    where
      at : (u : Bool) → SameScope s t x y (λ z. Operation z) (if u then Some p else b) (if u then Some q else c)
      at true = k
      at false = h

  -- ---- what stands before the regions, and the head of a block

  -- R relates values; those that stand at the same places under p and q
  module _ (R : Value → Value → Type 0) where
    results_said : (b c : Option (Ptr OperationKind)) (p q : Ptr OperationKind)
        → SameScope s t x y (λ z. Operation z) b c → ((i : ℕ) → R (result_of p i) (result_of q i))
        → (ws : List (List ℕ)) → SayAlike s t x y R (results_bear b (Operation p) ws) (results_bear c (Operation q) ws)
    results_said b c p q h each ws = values_said s t x y R b c h (result_of p) (result_of q) each 0 ws

    pub front_said : (at bt : Scope) (p q : Ptr OperationKind) → SameScopes at bt
        → ((i : ℕ) → R (result_of p i) (result_of q i)) → (f : Front K)
        → SayAlike s t x y R (front_mentions isolated at (Operation p) f) (front_mentions isolated bt (Operation q) f)
    front_said at bt p q h each (bodied_front f) = nothing_said s t x y R
    front_said at bt p q h each (constant_front w a ty) = results_said at.body bt.body p q h.body each (w ∷ [])
    front_said at bt p q h each (own_front f) =
        say_both s t x y R (results_bear at.body (Operation p) f.names) (uses_named at f.uses f.signature)
        (results_bear bt.body (Operation q) f.names) (uses_named bt f.uses f.signature)
        (results_said at.body bt.body p q h.body each f.names)
        (say_both s t x y R (operands_named at.body f.uses.operands f.signature.operand_types)
        (successors_named at.region f.uses.successors)
        (operands_named bt.body f.uses.operands f.signature.operand_types)
        (successors_named bt.region f.uses.successors)
        (operands_said s t x y R at.body bt.body f.uses.operands f.signature.operand_types)
        (successors_said s t x y R at.region bt.region f.uses.successors))

    pub head_said : (at bt : Scope) (b c : Ptr BlockKind) → SameScopes at bt
        → AreAtOnePlace s t x y (BasicBlock b) (BasicBlock c) → ((i : ℕ) → R (argument_of b i) (argument_of c i))
        → (h : BlockHead)
        → SayAlike s t x y R (head_mentions isolated at (BasicBlock b) h) (head_mentions isolated bt (BasicBlock c) h)
    head_said at bt b c h k each head =
        let arguments =
        values_said s t x y R at.body bt.body h.body (argument_of b) (argument_of c) each 0 (argument_words head.1) in
        record {
          values = arguments.values;
          labels = (record { scope = h.region; word = refl; bearer = k }, arguments.labels);
        }

  -- ---- regions, blocks and operations in a row

  module _ (front : Scope → IRNode → Front K → Type 0) (Says : List Mention → List Mention → Type 0)
      (nothing : Says [] [])
      (both : (ms us ns vs : List Mention) → Says ms ns → Says us vs → Says (ms ++ us) (ns ++ vs))
    where
      regions_said : (b c : Option (Ptr OperationKind)) (write : IRNode → List (BlockHead × List (IrOp K)))
          (us vs : List IRNode) → InRow us vs → AreRegionsAt isolated t front c vs (regions_of (map write us))
          → ((u : IRNode) (r : Ptr RegionKind) → Has us u → AreAtOnePlace s t x y u (Region r)
          → AreBlocksAt isolated t front (record { body = c; region = Some r }) (children t (Region r))
          (blocks_of (write u))
          → Says (blocks_mentions isolated s (record { body = b; region = region_of u }) (children s u)
          (blocks_of (write u))) (blocks_mentions isolated t (record { body = c; region = Some r })
          (children t (Region r)) (blocks_of (write u))))
          → Says (regions_mentions isolated s b us (regions_of (map write us)))
          (regions_mentions isolated t c vs (regions_of (map write us)))
      regions_said b c write [] vs row h each = nothing
      regions_said b c write (u ∷ us) vs row h each =
          subst (λ l. Says (regions_mentions isolated s b (u ∷ us) (regions_of (map write (u ∷ us))))
          (regions_mentions isolated t c l (regions_of (map write (u ∷ us))))) (sym h.2)
          (both _ _ _ _ (each u h.0 (inl refl) (first_in_row u (Region h.0) us vs h.1 h.2 row) h.3)
          (regions_said b c write us h.1 (others_in_row u (Region h.0) us vs h.1 h.2 row) h.4
          (λ v r m. each v r (inr m))))

      blocks_said : (at bt : Scope) (write : IRNode → BlockHead × List (IrOp K)) (us vs : List IRNode) → InRow us vs
          → AreBlocksAt isolated t front bt vs (blocks_of (map write us))
          → ((u v : IRNode) → Has us u → AreAtOnePlace s t x y u v → IsBlockHeadAt t v (write u).0
          → AreOpsAt isolated t front bt (children t v) (ops_of (write u).1)
          → Says (head_mentions isolated at u (write u).0) (head_mentions isolated bt v (write u).0) ×
          Says (ops_mentions isolated s at (children s u) (ops_of (write u).1))
          (ops_mentions isolated t bt (children t v) (ops_of (write u).1)))
          → Says (blocks_mentions isolated s at us (blocks_of (map write us)))
          (blocks_mentions isolated t bt vs (blocks_of (map write us)))
      blocks_said at bt write [] vs row h each = nothing
      blocks_said at bt write (u ∷ us) vs row h each =
          let here = each u h.0 (inl refl) (first_in_row u h.0 us vs h.1 h.2 row) h.3 h.4 in
          let more =
          blocks_said at bt write us h.1 (others_in_row u h.0 us vs h.1 h.2 row) h.5 (λ a b m. each a b (inr m)) in
          subst (λ l. Says (blocks_mentions isolated s at (u ∷ us) (blocks_of (map write (u ∷ us))))
          (blocks_mentions isolated t bt l (blocks_of (map write (u ∷ us))))) (sym h.2)
          (both _ _ _ _ here.0 (both _ _ _ _ here.1 more))

      ops_said : (at bt : Scope) (write : IRNode → IrOp K) (us vs : List IRNode) → InRow us vs
          → AreOpsAt isolated t front bt vs (ops_of (map write us))
          → ((u v : IRNode) → Has us u → Has vs v → AreAtOnePlace s t x y u v → IsIrAt isolated t front bt v (write u)
          → Says (op_mentions isolated s at u (write u)) (op_mentions isolated t bt v (write u)))
          → Says (ops_mentions isolated s at us (ops_of (map write us)))
          (ops_mentions isolated t bt vs (ops_of (map write us)))
      ops_said at bt write [] vs row h each = nothing
      ops_said at bt write (u ∷ us) vs row h each =
          subst (λ l. Says (ops_mentions isolated s at (u ∷ us) (ops_of (map write (u ∷ us))))
          (ops_mentions isolated t bt l (ops_of (map write (u ∷ us))))) (sym h.2)
          (both _ _ _ _
          (each u h.0 (inl refl) (subst (λ l. Has l h.0) (sym h.2) (inl refl)) (first_in_row u h.0 us vs h.1 h.2 row) h.3)
          (ops_said at bt write us h.1 (others_in_row u h.0 us vs h.1 h.2 row) h.4
          (λ a b m n. each a b (inr m) (subst (λ l. Has l b) (sym h.2) (inr n)))))

-- ---- an operation with all below it

module _ {D K A T E : Type 0} (o : op_set.Ghosts D K A T E) (isolated : K → Bool) (s t : ContextView K A T)
    (x y : IRNode) (front : Scope → IRNode → Front K → Type 0) where
  -- What is told of what the text of the operation at x says in s, and what that says in t of what was made of it: of
  -- what stands before regions, and of heads of blocks. `Known` is what is known of nodes of s in their scopes, and
  -- `Says` what is told.
  pub record Telling (Known : Scope → IRNode → Type 0) (Says : List Mention → List Mention → Type 0) : Type 0 where
    pub known_in : (at : Scope) (n c : IRNode) → Has (children s n) c → Known at n
        → Known (scope_in o isolated s at n) c
    pub nothing : Says [] []
    pub both : (ms us ns vs : List Mention) → Says ms ns → Says us vs → Says (ms ++ us) (ns ++ vs)
    pub fronts : (at bt : Scope) (p q : Ptr OperationKind) → SameScopes isolated s t x y at bt
        → AreAtOnePlace s t x y (Operation p) (Operation q) → Known at (Operation p)
        → front bt (Operation q) (front_of o s (kind_of s p) p)
        → Says (front_mentions isolated at (Operation p) (front_of o s (kind_of s p) p))
        (front_mentions isolated bt (Operation q) (front_of o s (kind_of s p) p))
    pub heads : (at bt : Scope) (b c : Ptr BlockKind) → SameScopes isolated s t x y at bt
        → AreAtOnePlace s t x y (BasicBlock b) (BasicBlock c) → Known at (BasicBlock b)
        → IsBlockHeadAt t (BasicBlock c) (block_head_term s b)
        → Says (head_mentions isolated at (BasicBlock b) (block_head_term s b))
        (head_mentions isolated bt (BasicBlock c) (block_head_term s b))

  module _ (st : IsStanding s) (Known : Scope → IRNode → Type 0) (Says : List Mention → List Mention → Type 0)
      (tell : Telling Known Says) where
    abbrev At : Scope → IRNode → IrOp K → Type 0
    At bt n w = IsIrAt isolated t front bt n w

    abbrev term : ℕ → IRNode → IrOp K
    term k n = ir_term_at o s k n

    abbrev ToldOf : (at bt : Scope) → IRNode → IRNode → IrOp K → Type 0
    ToldOf at bt u v w = Says (op_mentions isolated s at u w) (op_mentions isolated t bt v w)

    abbrev ToldBelow : (at bt : Scope) → (k : ℕ) → IRNode → IRNode → Type 0
    ToldBelow at bt k u v =
        Says (ops_mentions isolated s at (children s u) (ops_of (block_written s (term k) u).1))
        (ops_mentions isolated t bt (children t v) (ops_of (block_written s (term k) u).1))

    abbrev ToldHead : (at bt : Scope) → (k : ℕ) → IRNode → IRNode → Type 0
    ToldHead at bt k u v =
        Says (head_mentions isolated at u (block_written s (term k) u).0)
        (head_mentions isolated bt v (block_written s (term k) u).0)

    -- of operations of two blocks
    abbrev EachTold : (k : ℕ) → (at bt : Scope) → Ptr BlockKind → Ptr BlockKind → Type 0
    EachTold k at bt b c = (u v : IRNode) → Has (children s (BasicBlock b)) u → Has (children t (BasicBlock c)) v →
        AreAtOnePlace s t x y u v → At bt v (term k u) → ToldOf at bt u v (term k u)

    -- of two regions
    module _ (k : ℕ) (b c : Option (Ptr OperationKind)) (r q : Ptr RegionKind)
        (same : SameScope s t x y (λ p. Operation p) b c) (place : AreAtOnePlace s t x y (Region r) (Region q)) where
      abbrev mine : Scope
      mine = record { body = b; region = Some r }

      abbrev yours : Scope
      yours = record { body = c; region = Some q }

      abbrev around : Scope
      around = record { body = b; region = None }

      abbrev OpsIn : IRNode → IRNode → Type 0
      OpsIn u v = AreOpsAt isolated t front yours (children t v) (ops_of (block_written s (term k) u).1)

      abbrev HeadIn : IRNode → IRNode → Type 0
      HeadIn u v = IsBlockHeadAt t v (block_written s (term k) u).0

      same_scopes : SameScopes isolated s t x y mine yours
      same_scopes = record { body = same; region = place }

      block_told : (d e : Ptr BlockKind) → AreAtOnePlace s t x y (BasicBlock d) (BasicBlock e)
          → Known mine (BasicBlock d) → HeadIn (BasicBlock d) (BasicBlock e) → OpsIn (BasicBlock d) (BasicBlock e)
          → EachTold k mine yours d e
          → ToldHead mine yours k (BasicBlock d) (BasicBlock e) × ToldBelow mine yours k (BasicBlock d) (BasicBlock e)
      block_told d e at_one known head ops each = (
        tell.heads mine yours d e same_scopes at_one known head,
        ops_said isolated s t x y front Says tell.nothing tell.both mine yours (term k) (children s (BasicBlock d))
            (children t (BasicBlock e)) (children_in_row isolated s t x y (BasicBlock d) (BasicBlock e) at_one) ops
            each,
      )

      there : (u v : IRNode) (d e : Ptr BlockKind) → u ≡ BasicBlock d → v ≡ BasicBlock e → AreAtOnePlace s t x y u v
          → Known mine u → HeadIn u v → OpsIn u v
          → (Has (children s (Region r)) (BasicBlock d) → EachTold k mine yours d e)
          → Has (children s (Region r)) u → ToldHead mine yours k u v × ToldBelow mine yours k u v
      there u v d e is be at_one known head ops each m =
          let one : AreAtOnePlace s t x y (BasicBlock d) (BasicBlock e) =
          subst (λ z. AreAtOnePlace s t x y z (BasicBlock e)) is (subst (λ z. AreAtOnePlace s t x y u z) be at_one) in
          let inside : OpsIn (BasicBlock d) (BasicBlock e) =
          subst (λ z. OpsIn z (BasicBlock e)) is (subst (OpsIn u) be ops) in
          let front_here : HeadIn (BasicBlock d) (BasicBlock e) =
          subst (λ z. HeadIn z (BasicBlock e)) is (subst (HeadIn u) be head) in
          let told =
          block_told d e one (subst (Known mine) is known) front_here inside
          (each (subst (Has (children s (Region r))) is m)) in (
            subst (λ z. ToldHead mine yours k z v) (sym is)
                (subst (ToldHead mine yours k (BasicBlock d)) (sym be) told.0),
            subst (λ z. ToldBelow mine yours k z v) (sym is)
                (subst (ToldBelow mine yours k (BasicBlock d)) (sym be) told.1),
          )

      region_told : Known around (Region r) → AreBlocksAt isolated t front yours (children t (Region q))
          (blocks_of (region_written s (term k) (Region r)))
          → ((d e : Ptr BlockKind) → Has (children s (Region r)) (BasicBlock d) → EachTold k mine yours d e)
          → Says (blocks_mentions isolated s mine (children s (Region r))
          (blocks_of (region_written s (term k) (Region r))))
          (blocks_mentions isolated t yours (children t (Region q)) (blocks_of (region_written s (term k) (Region r))))
      region_told known blocks each =
          blocks_said isolated s t x y front Says tell.nothing tell.both mine yours (block_written s (term k))
          (children s (Region r)) (children t (Region q))
          (children_in_row isolated s t x y (Region r) (Region q) place) blocks
          (λ u v m at_one head ops. let block = child_of_region s r u m in
          let held = block_held t v _ head.2 in
          there u v block.0 held.0 block.1 held.1 at_one (tell.known_in around (Region r) u m known) head ops
          (each block.0 held.0) m)

    -- of two operations, with at most k levels below them
    abbrev OpTold : ℕ → Type 0
    OpTold k = (at bt : Scope) (p q : Ptr OperationKind) → SameScopes isolated s t x y at bt →
        HasRoom s (Operation p) k → AreAtOnePlace s t x y (Operation p) (Operation q) → Known at (Operation p) →
        At bt (Operation q) (term k (Operation p)) → ToldOf at bt (Operation p) (Operation q) (term k (Operation p))

    -- operations of blocks
    ops_in : (k : ℕ) → OpTold k → (at bt : Scope) (d e : Ptr BlockKind) → SameScopes isolated s t x y at bt
        → ((w : IRNode) → Has (children s (BasicBlock d)) w → HasRoom s w k) → Known at (BasicBlock d)
        → EachTold k at bt d e
    ops_in k told at bt d e scopes room known w z m n at_one h =
        let p = child_of_block s d w m in
        let q = child_of_block t e z n in
        let one : AreAtOnePlace s t x y (Operation p.0) (Operation q.0) =
        subst (λ a. AreAtOnePlace s t x y a (Operation q.0)) p.1
        (subst (λ a. AreAtOnePlace s t x y w a) q.1 at_one) in
        let here : At bt (Operation q.0) (term k (Operation p.0)) =
        subst (λ a. At bt a (term k (Operation p.0))) q.1 (subst (λ a. At bt z (term k a)) p.1 h) in
        let enough : HasRoom s (Operation p.0) k = subst (λ a. HasRoom s a k) p.1 (room w m) in
        let kept : Known at (Operation p.0) = subst (Known at) p.1 (tell.known_in at (BasicBlock d) w m known) in
        subst (λ a. ToldOf at bt a z (term k a)) (sym p.1)
        (subst (λ a. ToldOf at bt (Operation p.0) a (term k (Operation p.0))) (sym q.1)
        (told at bt p.0 q.0 scopes enough one kept here))

    -- regions of operations
    regions_in : (k : ℕ) → OpTold k → (b c : Option (Ptr OperationKind)) → SameScope s t x y (λ z. Operation z) b c
        → (u : IRNode) (q r : Ptr RegionKind) → u ≡ Region r → HasRoom s u k → AreAtOnePlace s t x y u (Region q)
        → Known (record { body = b; region = None }) u
        → AreBlocksAt isolated t front (record { body = c; region = Some q }) (children t (Region q))
        (blocks_of (region_written s (term k) u))
        → Says (blocks_mentions isolated s (record { body = b; region = region_of u }) (children s u)
        (blocks_of (region_written s (term k) u)))
        (blocks_mentions isolated t (record { body = c; region = Some q }) (children t (Region q))
        (blocks_of (region_written s (term k) u)))
    regions_in k told b c same u q r is room at_one known blocks =
        let place = subst (λ z. AreAtOnePlace s t x y z (Region q)) is at_one in
        let inside =
        subst (λ z. AreBlocksAt isolated t front (record { body = c; region = Some q })
        (children t (Region q)) (blocks_of (region_written s (term k) z))) is blocks in
        let enough : HasRoom s (Region r) k = subst (λ z. HasRoom s z k) is room in
        let kept : Known (record { body = b; region = None }) (Region r) =
        subst (Known (record { body = b; region = None })) is known in
        subst (λ z. Says (blocks_mentions isolated s (record { body = b; region = region_of z })
        (children s z) (blocks_of (region_written s (term k) z)))
        (blocks_mentions isolated t (record { body = c; region = Some q }) (children t (Region q))
        (blocks_of (region_written s (term k) z)))) (sym is)
        (region_told k b c r q same place kept inside (λ d e m.
        ops_in k told (record { body = b; region = Some r }) (record { body = c; region = Some q }) d e
        (record { body = same; region = place }) (λ w n. lower_room s st (BasicBlock d) w k n
        (lower_room s st (Region r) (BasicBlock d) k m enough))
        (tell.known_in (record { body = b; region = None }) (Region r) (BasicBlock d) m kept)))

    op_step : (k : ℕ) → OpTold k → OpTold (suc k)
    op_step k told at bt p q scopes room place known h =
        let front_here = front_of o s (kind_of s p) p in
        let b = body_in isolated at.body (Operation p) front_here in
        let c = body_in isolated bt.body (Operation q) front_here in
        let same : SameScope s t x y (λ z. Operation z) b c =
        bodies_alike isolated s t x y at.body bt.body p q scopes.body place front_here in
        tell.both (front_mentions isolated at (Operation p) front_here)
        (regions_mentions isolated s b (children s (Operation p))
        (regions_of (map (region_written s (term k)) (children s (Operation p)))))
        (front_mentions isolated bt (Operation q) front_here)
        (regions_mentions isolated t c (children t (Operation q))
        (regions_of (map (region_written s (term k)) (children s (Operation p)))))
        (tell.fronts at bt p q scopes place known h.0)
        (regions_said isolated s t x y front Says tell.nothing tell.both b c (region_written s (term k))
        (children s (Operation p)) (children t (Operation q))
        (children_in_row isolated s t x y (Operation p) (Operation q) place) h.1
        (λ u r m at_one blocks. let is = child_of_op s p u m in
        regions_in k told b c same u r is.0 is.1 (child_room s st (Operation p) u k m room) at_one
        (tell.known_in at (Operation p) u m known) blocks))

    pub op_told : (k : ℕ) → OpTold k
    op_told zero at bt p q scopes room place known h = absurd (some_room s st (Operation p) room)
    op_told (suc k) at bt p q scopes room place known h =
        op_step k (λ a b c d e f g i j. op_told k a b c d e f g i j) at bt p q scopes room place known h

  -- that values at the same places bear the names, and blocks the labels
  pub alike_told : Telling (λ at n. Unit {0}) (SayAlike s t x y (IsSameValue s t x y))
  alike_told = record {
    known_in = λ at n c m known. tt;
    nothing = nothing_said s t x y (IsSameValue s t x y);
    both = say_both s t x y (IsSameValue s t x y);
    fronts =
        λ at bt p q scopes place known h. front_said isolated s t x y (IsSameValue s t x y) at bt p q scopes
        (λ i. record { from = place; index = refl }) (front_of o s (kind_of s p) p);
    heads =
        λ at bt b c scopes place known h. head_said isolated s t x y (IsSameValue s t x y) at bt b c scopes place
        (λ i. record { from = place; index = refl }) (block_head_term s b);
  }
