use Rattle.std.proofs.Common.{◌≡◌, sym, ◌∙◌, subst, rules}
use Rattle.plir_core.specs.Stored.{IsStored}
use Rattle.plir_core.specs.Erase.{IsErased}
use Rattle.plir_core.proofs.erasing.erase_nodes.Goals as goal
use Rattle.plir_core.proofs.Erasures.{IsErasing-start, IsErasing-down, IsErasing-up, IsErasing-over, IsErasing-end}
use Rattle.plir_core.proofs.Erasures.{work-down, work-up}
use Rattle.plir_core.proofs.Loss.{IsErased-tree}

pub loop-child-init : goal.loop-child-init
loop-child-init g c = record {
  erasing = IsErasing-start c.args.nodes.now c.args.root (subst IsStored c.nodes.view_is c.nodes.invariant) c.requires;
  counted = λ z. z;
}

pub loop-child-smaller-in-Some : goal.loop-child-smaller-in-Some
loop-child-smaller-in-Some g c =
    work-down c.args.nodes.now c.loop-child.nodes c.args.root c.loop-child.at c.in-Some.child
    c.loop-child.invariant.erasing (sym c.first_child.ensures ∙ c.in-Some.is)

pub loop-child-preserved-in-Some : goal.loop-child-preserved-in-Some
loop-child-preserved-in-Some g c = record {
  erasing = IsErasing-down c.args.nodes.now c.loop-child.nodes c.args.root c.loop-child.at c.in-Some.child
      c.loop-child.invariant.erasing (sym c.first_child.ensures ∙ c.in-Some.is);
  counted = c.loop-child.invariant.counted;
}

pub returns-then-eq-clause-after : goal.returns-then-eq-clause-after
returns-then-eq-clause-after g c =
    let at_root : c.loop-child.at ≡ c.args.root = search rules in
    c.free_node.ensures.after ∙ IsErasing-end c.args.nodes.now c.loop-child.nodes c.args.root c.loop-child.at
    c.loop-child.invariant.erasing (sym c.first_child.ensures ∙ c.in-None.is) at_root

pub returns-then-eq-clause-tree : goal.returns-then-eq-clause-tree
returns-then-eq-clause-tree g c =
    subst (λ t. IsErased c.args.nodes.now t c.args.root) (sym (returns-then-eq-clause-after g c))
    (IsErased-tree c.args.nodes.now (subst IsStored c.nodes.view_is c.nodes.invariant) c.args.root c.requires)

pub returns-then-eq-clause-counted : goal.returns-then-eq-clause-counted
returns-then-eq-clause-counted g c = λ z. c.free_node.ensures.counted (c.loop-child.invariant.counted z)

pub loop-child-smaller : goal.loop-child-smaller
loop-child-smaller g c =
    let below : c.loop-child.at ≡ c.args.root → ⊥ = search rules in
    rw c.free_node.ensures.after (work-up c.args.nodes.now c.loop-child.nodes c.args.root c.loop-child.at
    c.in-Some-over.parent c.loop-child.invariant.erasing (sym c.first_child.ensures ∙ c.in-None.is) below
    (sym c.parent-over.ensures ∙ c.in-Some-over.is))

pub loop-child-preserved : goal.loop-child-preserved
loop-child-preserved g c =
    let below : c.loop-child.at ≡ c.args.root → ⊥ = search rules in
    record {
      erasing = rw c.free_node.ensures.after (IsErasing-up c.args.nodes.now c.loop-child.nodes c.args.root
          c.loop-child.at c.in-Some-over.parent c.loop-child.invariant.erasing (sym c.first_child.ensures ∙
          c.in-None.is) below (sym c.parent-over.ensures ∙ c.in-Some-over.is));
      counted = λ z. c.free_node.ensures.counted (c.loop-child.invariant.counted z);
    }

pub unreachable-requires : goal.unreachable-requires
unreachable-requires g c =
    let below : c.loop-child.at ≡ c.args.root → ⊥ = search rules in
    IsErasing-over c.args.nodes.now c.loop-child.nodes c.args.root c.loop-child.at c.loop-child.invariant.erasing below
    (sym c.parent-over.ensures ∙ c.in-None-over.is)
