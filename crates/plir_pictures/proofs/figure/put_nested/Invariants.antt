use Rattle.std.proofs.Common.{◌++◌, string_bytes}
use Rattle.plir_core.specs.declared.ptr.IRNode.TheVariants.{Operation}
use Rattle.plir_pictures.specs.Nested.{nested}
use Rattle.plir_pictures.specs.Steps.{IsAt, steps_left}
use Rattle.plir_pictures.proofs.figure.put_nested.Given as goal

abbrev pub invariant-steps : goal.invariant-steps
invariant-steps g l =
    let opens = g.F.Figure.opens l.figure l.ctx in
    let closes = g.F.Figure.closes l.figure l.ctx in
    IsAt l.ctx opens closes (Operation l.fn.op)
    (string_bytes l.fn.out ++ nested l.ctx opens closes (Operation l.fn.op)) (string_bytes l.out) l.at

abbrev pub decreases-steps : goal.decreases-steps
decreases-steps g l = steps_left l.ctx l.at
