use Rattle.plir_pictures.proofs.Marks.{turn}
use Rattle.plir_pictures.proofs.labels.put_label.Goals as goal

pub chars-preserved : goal.chars-preserved
chars-preserved c = turn _ _ c.chars.c-iterator.rest.now c.next.new.self.rest.now _ c.in-Some.c c.chars.invariant
    c.in-Some.ensures.steps.0 c.in_ok-put_char.ensures
