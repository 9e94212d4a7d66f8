use Rattle.std.proofs.Common.{◌≡◌, Some, sym, ap, subst, ◌∙◌}
use Rattle.std.specs.Prelude.{option_map}
use Rattle.std.proofs.lemmas.Bool.{false≢true}
use Rattle.std.proofs.lemmas.Option.{same_Some}
use Rattle.plir_core.specs.ContextView.{parent_of, region_above}
use Rattle.plir_core.specs.declared.ptr.IRNode.TheVariants.{BasicBlock, Operation, Region}
use Rattle.plir_roundtrip.specs.UsesWithin.{IsBeside}
use Rattle.plir_roundtrip.proofs.Climbs.{none_beside_root, region_within, same-ptr}
use Rattle.plir_roundtrip.proofs.reach.is_beside.Goals as goal

pub returns-then-eq : goal.returns-then-eq
returns-then-eq g c =
    let same = (same-ptr c.args.op c.args.root c.eq.result c.eq.ensures).0 c.if-eq.true in (
      λ t. absurd (false≢true t),
      λ b. absurd (none_beside_root c.args.ctx.now c.stands.ensures.standing c.args.op c.args.block
          (subst (λ z. IsBeside c.args.ctx.now (Operation z) c.args.op c.args.block) (sym same) b)),
    )

pub returns-in-Some-get_parent_region : goal.returns-in-Some-get_parent_region
returns-in-Some-get_parent_region g c =
    let s = c.args.ctx.now in
    let r = c.in-Some.region in
    let q = c.in-Some-get_parent_region.other in
    let test = same-ptr q r c.eq-in-Some-get_parent_region.result c.eq-in-Some-get_parent_region.ensures in
    let apart = same-ptr c.args.op c.args.root c.eq.result c.eq.ensures in
    let mine : region_above s c.args.op ≡ Some (Region r) =
    sym c.get_parent_region.ensures.value ∙ ap (option_map Region) c.in-Some.is in
    let yours : parent_of s (BasicBlock c.args.block) ≡ Some (Region q) =
    sym c.get_parent_region-2.ensures.value ∙ ap (option_map Region) c.in-Some-get_parent_region.is in (
      λ t. record {
        region = r;
        within =
            region_within s c.stands.ensures.standing c.args.root c.args.op (Region r)
            (λ e. false≢true (sym c.if-eq.false ∙ apart.1 e)) c.requires.under mine;
        op = mine;
        block = yours ∙ ap (λ z. Some (Region z)) (test.0 t);
      },
      λ b.
          let first : Region b.region ≡ Region r = same_Some (Region b.region) (Region r) (sym b.op ∙ mine) in
          let second : Region q ≡ Region b.region = same_Some (Region q) (Region b.region) (sym yours ∙ b.block) in
          let same : q ≡ r = cc in
          test.1 same,
    )
