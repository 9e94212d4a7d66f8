use Rattle.std.proofs.Common.{rules, ◌≡◌, ◌++◌, OnOk, codes, string_bytes, subst}
use Rattle.std.specs.Fmt.{decimal}
use Rattle.plir_driver.proofs.counts.put_line.Goals as goal

pub returns : goal.returns
returns c =
    subst (λ z. OnOk c.writeln.result (string_bytes c.writeln.new.self ≡ string_bytes c.args.log.now
    ++ (c.args.name.now ++ (codes ": " ++ (decimal c.args.before ++ (codes " operations before, "
    ++ (decimal c.args.after ++ (codes " after" ++ (z ++ codes "\n"))))))))) c.told_end-told.ensures (search rules)
