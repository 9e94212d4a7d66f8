-- The table of times, put in parts.
use Rattle.std.proofs.Common.{◌≡◌, ℕ, List, [], ◌∷◌, ◌++◌, ◌==◌, false, Result, Ok, Err, ◌-◌, length, get_or, arith, ap, ◌∙◌}
use Rattle.std.proofs.Common.{OnOk}
use Rattle.std.proofs.lemmas.List.{append_assoc, get_or_default}
use Rattle.plir_pipelines.specs.declared.times.PassTime.{PassTime}
use Rattle.plir_pipelines.specs.Times.{table_head, table_of, time_lines, times_table, total_line, total_nanos}

-- its head, the lines of the runs, and that of all of them
pub table-put : {X E : Type 0} (r : Result X E) (times : List PassTime) (first last : PassTime) (nanos : ℕ)
    (t u v w : List ℕ) → nanos ≡ total_nanos times → u ≡ t ++ table_head → v ≡ u ++ time_lines nanos times →
    OnOk r (w ≡ v ++ total_line nanos first last) → OnOk r (w ≡ t ++ table_of times first last)
table-put (Err e) times first last nanos t u v w sum head lines line = line
table-put (Ok x) times first last nanos t u v w sum head lines line =
    let rest = time_lines nanos times ++ total_line nanos first last in
    line
    ∙ ap (λ z. z ++ total_line nanos first last) (lines ∙ ap (λ z. z ++ time_lines nanos times) head)
    ∙ append_assoc (t ++ table_head) (time_lines nanos times) (total_line nanos first last)
    ∙ append_assoc t table_head rest
    ∙ ap (λ n. t ++ (table_head ++ (time_lines n times ++ total_line n first last))) sum

-- the table of some runs, of which there are any
pub table-of-all : (times : List PassTime) (d e : PassTime) → (length times == 0) ≡ false →
    table_of times (get_or times 0 d) (get_or times (length times - 1) e) ≡ times_table times
table-of-all [] d e some = absurd (let z : ⊥ = cc some in z)
table-of-all (x ∷ xs) d e some =
    ap (λ z. table_of (x ∷ xs) x z)
    (get_or_default (x ∷ xs) (length (x ∷ xs) - 1) e x (omega arith))
