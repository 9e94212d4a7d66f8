use Rattle.std.proofs.Common.{ap, map, sym, ◌∙◌}
use Rattle.std.specs.Option.{option_map}
use Rattle.plir_command.specs.Chosen.{text_of}
use Rattle.plir_command.proofs.Choosing.{none-given, one-given}
use Rattle.plir_command.proofs.chosen.put_given.Goals as goal

pub returns-in-None : goal.returns-in-None
returns-in-None c =
    none-given _ c.args.flag.now (map text_of c.args.given.now.items)
    (sym c.get_str.ensures ∙ ap (option_map (λ s. s.now)) c.in-None.is)

pub returns-in_ok-push-in-Some : goal.returns-in_ok-push-in-Some
returns-in_ok-push-in-Some c =
    one-given _ _ c.args.given.now.items c.push.new.self.items c.in_ok-push-in-Some.ensures.items
    (sym c.get_str.ensures ∙ ap (option_map (λ s. s.now)) c.in-Some.is)
