use Rattle.std.proofs.Common.{arith, sym}
use Rattle.std.specs.Str.{bytes_eq}
use Rattle.std.proofs.lemmas.Slice.Eq.{bytes_eq-Decides}
use Rattle.plir_pipelines.proofs.Bearing.{found-here, found-next, found-none}
use Rattle.plir_pipelines.proofs.passes.pass_of.Goals as goal

pub loop-pass-preserved : goal.loop-pass-preserved
loop-pass-preserved g c =
    found-next (λ p. bytes_eq (g.P.Offered.pass_name p) c.args.name.now) c.args.offered.now c.loop-pass.pass-index
    c.pass-item.result (omega arith) c.pass-item.is c.loop-pass.invariant (sym c.if-bears.ensures)

pub returns-then-bears-clause-first : goal.returns-then-bears-clause-first
returns-then-bears-clause-first g c =
    sym (found-here (λ p. bytes_eq (g.P.Offered.pass_name p) c.args.name.now) c.args.offered.now c.loop-pass.pass-index
    c.pass-item.result (omega arith) c.pass-item.is c.loop-pass.invariant (sym c.if-bears.ensures))

pub returns-then-bears-clause-named : goal.returns-then-bears-clause-named
returns-then-bears-clause-named g c =
    (bytes_eq-Decides (g.P.Offered.pass_name c.pass-item.result) c.args.name.now).0 (sym c.if-bears.ensures)

pub returns-clause-first : goal.returns-clause-first
returns-clause-first g c =
    sym (found-none (λ p. bytes_eq (g.P.Offered.pass_name p) c.args.name.now) c.args.offered.now c.loop-pass.pass-index
    (omega arith) c.loop-pass.invariant)
