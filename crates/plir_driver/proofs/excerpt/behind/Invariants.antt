use Rattle.std.proofs.Common.{◌≡◌, ◌-◌}
use denote.Text.{Utf8}
use denote.Shadow.{shadow}
use Rattle.plir_driver.specs.Excerpt.{behind}
use Rattle.plir_driver.proofs.excerpt.behind.Given as goal

abbrev pub invariant-loop : goal.invariant-loop
invariant-loop l = shadow (Utf8 l.rest) × (behind (l.feeds - l.counter) l.rest ≡ behind l.fn.feeds l.fn.text)
