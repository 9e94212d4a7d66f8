-- A text with spaces for its comments, as far as a loop has come.
use Rattle.std.proofs.Common.{◌≡◌, ◌<◌, ℕ, true, List, [], ◌∷◌, ◌++◌, Option, Some, None, Bor, arith, sym, ap, ◌∙◌}
use Rattle.std.proofs.Common.{append_assoc}
use Rattle.std.proofs.Common.{chars, cond, is_some, length, map, option_map}
use Rattle.std.proofs.lemmas.List.{length-map}
use Rattle.std.specs.List.{join_with_byte}
use Rattle.plir_checks.specs.Comments.{blanked, blanked_line, spaces}
use Rattle.plir_checks.specs.Lines.{comment_of, lines_of}
use Rattle.plir_checks.proofs.Fronts.{join-more, some_lines}

-- there is something where a call found something
pub is_some_of : (o : Option (Bor (List ℕ))) (r : Option (List ℕ)) → option_map (λ x. x.now) o ≡ r →
    is_some o ≡ is_some r
is_some_of None r e = ap is_some e
is_some_of (Some x) r e = ap is_some e

-- a comment is as many spaces as it has characters
pub blank_line : (line : List ℕ) (n : ℕ) → is_some (comment_of line) ≡ true → n ≡ length (chars line) →
    spaces n ≡ blanked_line line
blank_line line n e count =
    ap spaces count ∙ sym (ap (λ v. cond v (spaces (length (chars line))) line) e)

module _ (old mid rest line all : List ℕ) (so_far : old ++ blanked rest ≡ all)
    (here : mid ≡ old ++ blanked_line line) where
  -- one line more
  pub put_more : (new others : List ℕ) → lines_of rest ≡ line ∷ lines_of others → new ≡ mid ++ 10 ∷ [] →
      new ++ blanked others ≡ all
  put_more new others cut fed =
      let more : 0 < length (map blanked_line (lines_of others)) =
      omega (arith, length-map {A = List ℕ} {B = List ℕ} (lines_of others) blanked_line, some_lines others) in
      ap (λ z. z ++ blanked others) (fed ∙ ap (λ z. z ++ 10 ∷ []) here)
      ∙ append_assoc (old ++ blanked_line line) (10 ∷ []) (blanked others)
      ∙ append_assoc old (blanked_line line) (10 ∷ blanked others)
      ∙ ap (λ z. old ++ z) (sym (join-more 10 (blanked_line line) (map blanked_line (lines_of others)) more))
      ∙ sym (ap (λ z. old ++ join_with_byte 10 (map blanked_line z)) cut)
      ∙ so_far
