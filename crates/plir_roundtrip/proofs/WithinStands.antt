-- Where each operation of a tree uses what it can name, each name means what it was written for.
use Rattle.std.proofs.Common.{◌≡◌, ℕ, Bool, List, [], ◌∷◌, ◌++◌, inl}
use Rattle.std.proofs.Common.{Option, Some, None, refl, sym, ap, subst, ◌∙◌, arith}
use Rattle.std.specs.Prelude.{slice_get, MatchOption, option_and_then}
use Rattle.std.proofs.lemmas.Option.{none-some}
use Rattle.plir_data.specs.declared.op_set.OpSet as op_set
use Rattle.plir_names.specs.declared.names.Meaning.TheVariants.{Only}
use Rattle.plir_store.specs.MemberLaws.{at-Has}
use Rattle.plir_store.specs.Members.{Has}
use Rattle.plir_core.specs.Above.{climb}
use Rattle.plir_core.specs.ContextView.{ContextView, IsLive, IsValueLive, children, entity_node}
use Rattle.plir_core.specs.ContextView.{operands_of, parent_of}
use Rattle.plir_core.specs.ContextView.{successors_of}
use Rattle.plir_core.specs.Forest.{look}
use Rattle.plir_core.specs.Standing.{IsStanding}
use Rattle.plir_core.specs.WellFormed.{IsWellFormed}
use Rattle.plir_core.specs.declared.ptr.Ptr.{Ptr}
use Rattle.plir_core.specs.declared.ptr.Operation.{Operation as OperationKind}
use Rattle.plir_core.specs.declared.ptr.Region.{Region as RegionKind}
use Rattle.plir_core.specs.declared.ptr.BasicBlock.{BasicBlock as BlockKind}
use Rattle.plir_core.specs.declared.ptr.IRNode.{IRNode}
use Rattle.plir_core.specs.declared.ptr.IRNode.TheVariants.{Operation, Region, BasicBlock}
use Rattle.plir_core.specs.declared.value.Value.{Value}
use Rattle.plir_print.specs.OpText.{room}
use Rattle.plir_print.specs.ValueNames.{block_name, value_name}
use Rattle.plir_walk.specs.Tree.{IsUnder, Place, node_at}
use Rattle.plir_walk.specs.TreeLaws.{node_at-append, under-live}
use Rattle.plir_read_ir.specs.Mentions.{Mention, Scope, block_meant, labels_in, nowhere}
use Rattle.plir_read_ir.specs.Mentions.{value_meant}
use Rattle.plir_read_ir.specs.Mentions.{values_in}
use Rattle.plir_roundtrip.specs.IrReadable.{HasReadableText}
use Rattle.plir_roundtrip.specs.UsesMeant.{IsMeantAt, IsMeantBelow, UsesStand, mentions_of, scope_in}
use Rattle.plir_roundtrip.specs.UsesWithin.{AreCounted, AreInOneBody, IsBeside, IsWithinReach, UsesWithin}
use Rattle.plir_roundtrip.proofs.Bearers.{means_it}
use Rattle.plir_roundtrip.proofs.Bodies.{innermost_at, none_around_root, region_of_block, region_of_op, same_body}
use Rattle.plir_roundtrip.proofs.Bodies.{scope-step, scope_at}
use Rattle.plir_roundtrip.proofs.Children.{HasRoom, child_of_region}
use Rattle.plir_roundtrip.proofs.Flattened.{all_flat, tree_mentions}
use Rattle.plir_roundtrip.proofs.NodesBear.{blocks_at, counted, label_bearers, live_there, value_bearers, values_at}
use Rattle.plir_roundtrip.proofs.OnePlace.{one_place}
use Rattle.plir_roundtrip.proofs.TermLevels.{map_same}
use Rattle.plir_roundtrip.proofs.ToldApart.{blocks_apart, values_apart}
use Rattle.plir_roundtrip.proofs.TypesKept.{operands_live}
use Rattle.plir_roundtrip.proofs.UsesGood.{all_has}

module _ {D K A T E : Type 0} (o : op_set.Ghosts D K A T E) (isolated : K → Bool) (s : ContextView K A T)
    (st : IsStanding s) (ms : List Mention) where
  -- what is meant at each place is meant below
  meant_below : (place : Place) (at : Scope) (x : IRNode)
      → ((n : IRNode) → node_at (children s) x place ≡ Some n
      → IsMeantAt o isolated s ms (scope_at o isolated s place at x) n) → IsMeantBelow o isolated s ms place at x
  meant_below [] at x each = each x refl
  meant_below (i ∷ place) at x each =
      by (slice_get (children s x) i) refl (λ c e. meant_below place (scope_in o isolated s at x) c (λ n f.
      subst (λ z. IsMeantAt o isolated s ms z n) (scope-step o isolated s i place at x c e)
      (each n (ap (option_and_then (λ d. node_at (children s) d place)) e ∙ f))))
    where
      by : (c : Option IRNode) → slice_get (children s x) i ≡ c
          → ((d : IRNode) → slice_get (children s x) i ≡ Some d
          → IsMeantBelow o isolated s ms place (scope_in o isolated s at x) d)
          → MatchOption c (Unit {0}) (λ d. IsMeantBelow o isolated s ms place (scope_in o isolated s at x) d)
      by None e rest = tt
      by (Some d) e rest = rest d e

module _ {D K A T E : Type 0} (o : op_set.Ghosts D K A T E) (find : List ℕ → Option K) (isolated : K → Bool)
    (s : ContextView K A T) (whole : IsWellFormed o.attr_handles s) (st : IsStanding s) (root : Ptr OperationKind)
    (live : IsLive s (Operation root)) (readable : HasReadableText o find s root)
    (few : AreCounted s (Operation root)) where
  abbrev Under : IRNode → Type 0
  Under n = IsUnder (children s) (Operation root) n

  lives : (n : IRNode) → Under n → IsLive s n
  lives n u = under-live (look s) st.forest (Operation root) n live u

  -- ---- what the names mean

  enough : HasRoom s (Operation root) (room s (Operation root))
  enough = omega arith

  abbrev ms : List Mention
  ms = mentions_of o isolated s root

  abbrev scope : Place → Scope
  scope place = scope_at o isolated s place nowhere (Operation root)

  flat : ms ≡ tree_mentions o isolated s (room s (Operation root)) nowhere (Operation root)
  flat = all_flat o isolated s st (room s (Operation root)) (room s (Operation root)) nowhere root enough enough

  values_differ : (v z : Value) → Has (values_at s (entity_node v.entity)) v
      → Has (values_at s (entity_node z.entity)) z → Under (entity_node v.entity) → Under (entity_node z.entity)
      → value_name s v ≡ value_name s z → v ≡ z
  values_differ v z h k u w same =
      let a = counted s v h in
      let b = counted s z k in
      let c = few v.entity u in
      let d = few z.entity w in
      values_apart s whole.stored v z (lives (entity_node v.entity) u) (lives (entity_node z.entity) w)
      (omega (arith, a, c)) (omega (arith, b, d)) same

  value_means : (place : Place) (v : Value) → node_at (children s) (Operation root) place ≡ Some (entity_node v.entity)
      → IsValueLive s v → value_meant ms ((scope place).body, value_name s v) ≡ Only v
  value_means place v e alive =
      subst (λ l. value_meant l ((scope place).body, value_name s v) ≡ Only v) (sym flat)
      (means_it o isolated s st values_in (values_at s) (λ v. entity_node v.entity) (value_name s) (λ at. at.body)
      (Operation root)
      (value_bearers o find isolated s st root readable) values_differ (room s (Operation root)) enough place v e (live_there s v alive))

  label_means : (place : Place) (b : Ptr BlockKind) → node_at (children s) (Operation root) place ≡ Some (BasicBlock b)
      → block_meant ms ((scope place).region, block_name s b) ≡ Only b
  label_means place b e =
      subst (λ l. block_meant l ((scope place).region, block_name s b) ≡ Only b) (sym flat)
      (means_it o isolated s st labels_in (blocks_at s) (λ b. BasicBlock b) (block_name s) (λ at. at.region)
      (Operation root) (label_bearers o find isolated s st root readable)
      (λ b c h k u w same. blocks_apart s whole.stored b c (lives (BasicBlock b) u) (lives (BasicBlock c) w) same)
      (room s (Operation root)) enough place b e (inl refl))

  -- ---- operands

  bodies_same : (place other : Place) (n m : IRNode) → node_at (children s) (Operation root) place ≡ Some n
      → node_at (children s) (Operation root) other ≡ Some m → AreInOneBody isolated s (Operation root) n m
      → (scope other).body ≡ (scope place).body
  bodies_same place other n m e f one =
      let base = none_around_root s st isolated (Operation root) in
      let first =
      innermost_at o isolated s st find (Operation root) readable.nodes place nowhere (Operation root) n ([], refl) e
      base in
      let second =
      innermost_at o isolated s st find (Operation root) readable.nodes other nowhere (Operation root) m ([], refl) f
      base in
      sym (same_body s st isolated (Operation root) (scope place).body (scope other).body n m first second one)

  operand_means : (place : Place) (p : Ptr OperationKind) (v : Value)
      → node_at (children s) (Operation root) place ≡ Some (Operation p) → IsValueLive s v
      → IsWithinReach isolated s (Operation root) p v → value_meant ms ((scope place).body, value_name s v) ≡ Only v
  operand_means place p v e alive reach =
      let other = reach.within.0 in
      subst (λ b. value_meant ms (b, value_name s v) ≡ Only v)
      (bodies_same place other (Operation p) (entity_node v.entity) e reach.within.1 reach.body)
      (value_means other v reach.within.1 alive)

  -- ---- successors

  successor_means : (place : Place) (p : Ptr OperationKind) (b : Ptr BlockKind)
      → node_at (children s) (Operation root) place ≡ Some (Operation p)
      → IsBeside s (Operation root) p b → block_meant ms ((scope place).region, block_name s b) ≡ Only b
  successor_means place p b e beside = over (parent_of s (Operation p)) refl beside.op
    where
      r : Ptr RegionKind
      r = beside.region

      way : Place
      way = beside.within.0

      to_region : node_at (children s) (Operation root) way ≡ Some (Region r)
      to_region = beside.within.1

      -- the region is that of the scope of the operation
      here : (c : IRNode) → Has (children s (Region r)) c → Has (children s c) (Operation p)
          → (scope place).region ≡ Some r
      here c h k =
          let d = child_of_region s r c h in
          let i = at-Has (children s (Region r)) (BasicBlock d.0) (subst (Has (children s (Region r))) d.1 h) in
          let j = at-Has (children s (BasicBlock d.0)) (Operation p)
          (subst (λ z. Has (children s z) (Operation p)) d.1 k) in
          let there : node_at (children s) (Region r) (i.0 ∷ j.0 ∷ []) ≡ Some (Operation p) = rw (i.1, j.1) refl in
          let longer =
          node_at-append (children s) way (i.0 ∷ j.0 ∷ []) (Operation root) (Region r) (Operation p) to_region there in
          let one : place ≡ way ++ i.0 ∷ j.0 ∷ [] =
          one_place s st (Operation root) (Operation p) place (way ++ i.0 ∷ j.0 ∷ []) e longer in
          ap (λ z. (scope z).region) one
          ∙ region_of_op o isolated s st way i.0 j.0 nowhere (Operation root) r d.0 (Operation p) to_region i.1 j.1

      with_region : (scope place).region ≡ Some r → block_meant ms ((scope place).region, block_name s b) ≡ Only b
      with_region is =
          let i = at-Has (children s (Region r)) (BasicBlock b) (st.forest.parent_child (Region r) (BasicBlock b) beside.block) in
          let there : node_at (children s) (Region r) (i.0 ∷ []) ≡ Some (BasicBlock b) = rw i.1 refl in
          let longer =
          node_at-append (children s) way (i.0 ∷ []) (Operation root) (Region r) (BasicBlock b) to_region there in
          let region : (scope (way ++ i.0 ∷ [])).region ≡ Some r =
          region_of_block o isolated s st way i.0 nowhere (Operation root) r (BasicBlock b) to_region i.1 in
          subst (λ z. block_meant ms (z, block_name s b) ≡ Only b) (region ∙ sym is)
          (label_means (way ++ i.0 ∷ []) b longer)

      over : (c : Option IRNode) → parent_of s (Operation p) ≡ c → climb (parent_of s) 1 c ≡ Some (Region r)
          → block_meant ms ((scope place).region, block_name s b) ≡ Only b
      over None f up = absurd (none-some (Region r) up)
      over (Some c) f up =
          with_region (here c (st.forest.parent_child (Region r) c up)
          (st.forest.parent_child c (Operation p) f))

  -- ---- all of them

  pub within_stands : UsesWithin isolated s (Operation root) → UsesStand o isolated s root
  within_stands uses place =
      meant_below o isolated s st ms place nowhere (Operation root) (λ n e. at n e)
    where
      at : (n : IRNode) → node_at (children s) (Operation root) place ≡ Some n
          → IsMeantAt o isolated s ms (scope place) n
      at (Region r) e = tt
      at (BasicBlock b) e = tt
      at (Operation p) e = record {
        operands =
            map_same (λ v. value_meant ms ((scope place).body, value_name s v)) (λ v. Only v) (operands_of s p) (λ v h.
            operand_means place p v e (all_has (IsValueLive s) (operands_of s p) v (operands_live o s whole p) h)
            (all_has (IsWithinReach isolated s (Operation root) p) (operands_of s p) v (uses.operands p (place, e)) h));
        successors =
            map_same (λ b. block_meant ms ((scope place).region, block_name s b)) (λ b. Only b) (successors_of s p)
            (λ b h. successor_means place p b e
            (all_has (IsBeside s (Operation root) p) (successors_of s p) b (uses.successors p (place, e)) h));
      }
