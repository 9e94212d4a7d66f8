use Rattle.std.proofs.Common.{◌≡◌, ◌+◌, ◌*◌, ◌/◌, ◌++◌, string_bytes, ap, ◌∙◌, arith}
use Rattle.std.proofs.Math.Nat.{div-add-mod}
use Rattle.plir_print.specs.OpText.{line}
use Rattle.plir_print.proofs.layout.put_line.Goals as goal

pub returns : goal.returns
returns c =
    let split = div-add-mod c.args.columns 64 in
    let all : 64 * (c.args.columns / 64) + c.columns._column ≡ c.args.columns = omega (arith, split) in
    c.columns.invariant ∙ ap (λ n. string_bytes c.args.out.now ++ line n) all
