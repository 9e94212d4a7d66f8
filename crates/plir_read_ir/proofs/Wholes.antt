-- Whole texts that are read.
use Rattle.std.proofs.Common.{◌≡◌, ℕ, Bool, List, [], ◌∷◌, Option, Ok, refl}
use Rattle.plir_core.specs.ContextView.{ContextView}
use Rattle.plir_core.specs.declared.ptr.IRNode.{IRNode}
use Rattle.plir_attr_text.specs.Bytes.{is_blank, past}
use Rattle.plir_attr_text.specs.Wholes.{end_at, if_none_left}
use Rattle.plir_read_ir.specs.Mentions.{nowhere}
use Rattle.plir_read_ir.specs.Readings.{ReadsIr, ReadsText}
use Rattle.plir_read_ir.specs.declared.notes.Notes.{Notes}

end_blank : (rest : List ℕ) (u : Unit {0}) → end_at rest ≡ Ok u → past is_blank rest ≡ []
unfolding end_at
end_blank rest u e = at (past is_blank rest) e
  where
    at : (l : List ℕ) → if_none_left l ≡ Ok u → l ≡ []
    at [] h = refl
    at (b ∷ l) h = absurd cc

pub text_reads : {K A T : Type 0} (find : List ℕ → Option K) (isolated : K → Bool) (n : ℕ) (bytes rest : List ℕ)
    (s t : ContextView K A T) (old new : Notes) (m : IRNode) →
    ReadsIr find isolated n bytes rest s t old new nowhere m → {u : Unit {0}} → end_at rest ≡ Ok u →
    ReadsText find isolated n bytes s t old new m
text_reads find isolated n bytes rest s t old new m r {u} e = record {
  op = r.part;
  text = record {
    tokens = r.tokens;
    are_tokens = record { rest = rest; begins = r.begins; blank = end_blank rest u e };
    spelled = (r.spelled, r.within);
  };
  stands = r.stands;
  noted = r.noted;
}
