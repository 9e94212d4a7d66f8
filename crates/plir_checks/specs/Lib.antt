-- What the contracts of this crate cite.
--
--   Lines       lines_of: the lines of a text; said: what a comment says behind a word
--   Comments    blanked: a text with spaces for its comments
--   Running     run_in: what the first comment of a run says
--   Cuts        cut_at: what stands before and behind the first place of a word
--   Blanks      has_text: a line has a text, where each run of blanks counts as one space
--   Checks      checks_in: the checks of lines; first_fault: the first that is at fault
--   Meeting     AreMet: lines meet checks, each in the first that can; IsUnmet: which check they don't
--   Places      line_meant: which line a word means
--   Expecting   readings: what lines say must come; first_refusal: the first that says nothing
--   Comparing   difference: the first difference between errors that came and those that were expected
pub mod Lines
pub mod Comments
pub mod Running
pub mod Cuts
pub mod Blanks
pub mod Checks
pub mod Meeting
pub mod Places
pub mod Expecting
pub mod Comparing
