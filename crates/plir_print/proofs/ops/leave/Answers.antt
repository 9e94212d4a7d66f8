use Rattle.std.proofs.Common.{◌≡◌, string_bytes, rules}
use Rattle.plir_print.proofs.Stepping.{leaves-root}
use Rattle.plir_print.proofs.ops.leave.Goals as goal

pub returns-then-eq : goal.returns-then-eq
returns-then-eq g c =
    let at_root : c.args.node ≡ c.args.root = search rules in
    leaves-root g.D.OpSet c.args.ctx.now c.stands.ensures c.args.root c.args.indent c.args.node
    (string_bytes c.args.out.now) _ at_root c.in_ok-put_closing.ensures

pub returns-else-eq : goal.returns-else-eq
returns-else-eq g c =
    let below : c.args.node ≡ c.args.root → ⊥ = search rules in
    search (rules, below, c.in_ok-put_closing.ensures, c.go_on.ensures)
