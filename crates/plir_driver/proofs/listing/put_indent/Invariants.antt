use Rattle.std.proofs.Common.{◌≡◌, ◌++◌, ◌*◌, ℕ, Some, string_bytes}
use Rattle.plir_core.specs.Above.{climb}
use Rattle.plir_core.specs.ContextView.{IsLive, parent_of}
use Rattle.plir_core.specs.Measures.{depth}
use Rattle.plir_driver.specs.Excerpt.{spaces}
use Rattle.plir_driver.proofs.listing.put_indent.Given as goal

-- so many steps up from the node, and two spaces for each
abbrev pub invariant-up : goal.invariant-up
invariant-up g l =
    IsLive l.ctx l.at × ((k : ℕ) × (climb (parent_of l.ctx) k (Some l.fn.node) ≡ Some l.at) ×
    (string_bytes l.text ≡ string_bytes l.fn.text ++ spaces (2 * k)))

abbrev pub decreases-up : goal.decreases-up
decreases-up g l = depth l.ctx l.at
