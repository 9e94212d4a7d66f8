use Rattle.std.proofs.Common.{Ok, Err, refl, sym, subst}
use Rattle.plir_core.specs.declared.ptr.IRNode.TheVariants.{BasicBlock}
use Rattle.plir_passes.specs.Legal.{HasLegalChildren}
use Rattle.plir_passes.specs.Rewrites.{IsNodeConverted}
use Rattle.plir_passes.specs.Converted.{IsSettled}
use Rattle.plir_passes.proofs.Keeping.{converted-none}
use Rattle.plir_passes.proofs.Walking.{legal-under-op, legal-under-region, at-block}
use Rattle.plir_passes.proofs.conversion.convert_below.Goals as goal

pub returns-in-Operation : goal.returns-in-Operation
returns-in-Operation g c =
    let illegal = g.C.Conversion.illegal c.args.conversion.now in
    let rewrites = g.C.Conversion.rewrites c.args.conversion.now in
    let s = c.args.ctx.now in
    record {
      lawful = c.lawful_changes.ensures.none s c.args.node;
      converted = converted-none illegal s;
      settled =
          subst (λ z. IsSettled illegal s c.args.node z) (sym c.walk_advance.ensures)
          (subst (HasLegalChildren illegal s) (sym c.in-Operation.is) (legal-under-op illegal s _));
      node =
          subst (λ z. IsNodeConverted illegal rewrites s z c.walk_advance.result s) (sym c.in-Operation.is)
          (c.walk_advance.ensures, refl);
    }

pub returns-in-Region : goal.returns-in-Region
returns-in-Region g c =
    let illegal = g.C.Conversion.illegal c.args.conversion.now in
    let rewrites = g.C.Conversion.rewrites c.args.conversion.now in
    let s = c.args.ctx.now in
    record {
      lawful = c.lawful_changes.ensures.none s c.args.node;
      converted = converted-none illegal s;
      settled =
          subst (λ z. IsSettled illegal s c.args.node z) (sym c.walk_advance-in-Region.ensures)
          (subst (HasLegalChildren illegal s) (sym c.in-Region.is) (legal-under-region illegal s _));
      node =
          subst (λ z. IsNodeConverted illegal rewrites s z c.walk_advance-in-Region.result s) (sym c.in-Region.is)
          (c.walk_advance-in-Region.ensures, refl);
    }

pub returns-in-Ok : goal.returns-in-Ok
returns-in-Ok g c =
    let illegal = g.C.Conversion.illegal c.args.conversion.now in
    let rewrites = g.C.Conversion.rewrites c.args.conversion.now in
    let t = c.convert_block.new.ctx in
    let n = BasicBlock c.in-BasicBlock.block in
    at-block illegal rewrites c.args.ctx.now t c.args.node c.in-BasicBlock.block c.walk_advance-in-Ok.result
    c.in-BasicBlock.is
    c.in-Ok.ensures.lawful c.in-Ok.ensures.converted
    (subst (λ z. IsSettled illegal t n z) (sym c.walk_advance-in-Ok.ensures) c.in-Ok.ensures.legal)
    (Ok tt, c.walk_advance-in-Ok.ensures, c.in-Ok.ensures.handed)

pub returns-in-Err : goal.returns-in-Err
returns-in-Err g c =
    let illegal = g.C.Conversion.illegal c.args.conversion.now in
    let rewrites = g.C.Conversion.rewrites c.args.conversion.now in
    let t = c.convert_block.new.ctx in
    let n = BasicBlock c.in-BasicBlock.block in
    at-block illegal rewrites c.args.ctx.now t c.args.node c.in-BasicBlock.block c.walk_break.result
    c.in-BasicBlock.is
    c.in-Err.ensures.lawful c.in-Err.ensures.converted
    (subst (λ z. IsSettled illegal t n z) (sym c.walk_break.ensures) tt)
    (Err c.in-Err.refusal, c.walk_break.ensures, c.in-Err.ensures.handed)
