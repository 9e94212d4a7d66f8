use Rattle.plir_driver.proofs.Cutting.{parts_are}
use Rattle.plir_driver.proofs.Printing.{if-ok}
use Rattle.plir_driver.proofs.parts.parts_of.Goals as goal

pub returns : goal.returns
returns c =
    if-ok c.parts_in.result (λ v held. parts_are c.args.bytes.now c.in_ok-lines.lines.items c.as_slice.result.now
    c.in_ok-cuts.cuts.items c.as_slice-2.result.now (λ p. p.bytes.items) v.items c.in_ok-lines.ensures
    c.as_slice.ensures.value c.in_ok-cuts.ensures c.as_slice-2.ensures.value held) c.parts_in.ensures
