-- The table that tells how long passes took.
use Rattle.std.specs.Prelude.{ℕ, ◌-◌, ◌*◌, ◌/◌, ◌%◌, ◌^◌, ◌==◌, min, List, [], ◌∷◌, ◌++◌, codes, cond, length, replicate}
use Rattle.std.specs.Prelude.{slice_index_or, sum_by}
use Rattle.std.specs.List.{flat_map}
use Rattle.std.specs.Fmt.{decimal}
use Rattle.plir_pipelines.specs.declared.times.PassTime.{PassTime}

-- a text at the right end of so many columns, with a character in those that it leaves
abbrev pub right : (fill width : ℕ) → List ℕ → List ℕ
right fill width text = replicate (width - length text) fill ++ text

-- a number there
abbrev pub aligned : (fill width : ℕ) → ℕ → List ℕ
aligned fill width n = right fill width (decimal n)

-- billionths of a second as seconds, with six places behind the point
abbrev pub seconds : ℕ → List ℕ
seconds nanos = aligned 32 6 (nanos / 1_000_000_000) ++ (codes "." ++ aligned 48 6 (nanos / 1000 % 1_000_000))

-- the greatest number that is told
abbrev pub most : ℕ
most = 2 ^ 64 - 1

-- the thousandths of a time that another one is; none of no time
abbrev pub share_of : (nanos total : ℕ) → ℕ
share_of nanos total = cond (total == 0) 0 (min (nanos * 1000) most / total)

-- that in percent, with one place behind the point
abbrev pub share : (nanos total : ℕ) → List ℕ
share nanos total =
    aligned 32 6 (share_of nanos total / 10) ++ (codes "." ++ (aligned 48 1 (share_of nanos total % 10) ++ codes "%"))

-- how many operations there are in front of a pass, and behind it
abbrev pub counts : (before after : ℕ) → List ℕ
counts before after = aligned 32 10 before ++ aligned 32 10 after

-- the line of a run of a pass, of so many billionths of a second in all
abbrev pub time_line : (total : ℕ) → PassTime → List ℕ
time_line total t = seconds t.nanos ++ (share t.nanos total ++ (counts t.before t.after ++ (codes "  " ++ (t.name.now
    ++ codes "\n"))))

-- the lines of some, in their order
abbrev pub time_lines : (total : ℕ) → List PassTime → List ℕ
time_lines total times = flat_map (time_line total) times

-- how long all runs took
abbrev pub total_nanos : List PassTime → ℕ
total_nanos times = min (sum_by (λ t. t.nanos) times) most

-- the line of all runs, with the operations in front of the first and behind the last
abbrev pub total_line : (total : ℕ) → (first last : PassTime) → List ℕ
total_line total first last =
    seconds total ++ (share total total ++ (counts first.before last.after ++ codes "  total\n"))

-- the line above all others
abbrev pub table_head : List ℕ
table_head = codes "      seconds    share    before     after  pass\n"

-- The table: a line for each of some runs, and one of all of them.
abbrev pub table_of : List PassTime → (first last : PassTime) → List ℕ
table_of times first last =
    table_head ++ (time_lines (total_nanos times) times ++ total_line (total_nanos times) first last)

-- that, with the first and the last; nothing, where there is none
abbrev pub times_table : List PassTime → List ℕ
times_table [] = []
times_table (t ∷ ts) = table_of (t ∷ ts) t (slice_index_or (t ∷ ts) (length (t ∷ ts) - 1) t)
