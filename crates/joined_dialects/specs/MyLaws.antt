-- A law of what holds one handle. No contract cites this module.
use Rattle.std.proofs.Common.{◌≡◌, ℕ, [], ◌∷◌, Some, arith}
use Rattle.std.specs.Prelude.{Contains}
use Rattle.std.proofs.lemmas.Option.{same_Some}

-- the one handle is held
pub itself_held : (type h : ℕ) → Some type ≡ Some h → Contains (type ∷ []) h
itself_held type h e = (0, omega arith, same_Some type h e)
