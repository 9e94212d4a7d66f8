use Rattle.plir_attr_text.proofs.Escapes.{turn}
use Rattle.plir_attr_text.proofs.put.put_escaped.Goals as goal

pub chars-preserved : goal.chars-preserved
chars-preserved c = turn _ _ c.chars.c-iterator.rest.now c.next.new.self.rest.now _ c.in-Some.c c.chars.invariant
    c.in-Some.ensures.steps.0 c.in_ok-put_char.ensures
