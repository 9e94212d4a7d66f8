-- Names of lists take a byte or more.
use Rattle.std.proofs.Common.{◌≡◌, ℕ, ◌<◌, ◌≤◌, List, length, Ok, arith}
use Rattle.plir_attr_text.specs.Tokens.{Token}
use Rattle.plir_attr_text.specs.laws.LeavesFound.{found-shorter}
use Rattle.plir_read_own.specs.OwnReading.{listed_at}
use Rattle.plir_read_own.specs.declared.uses.NameList.{NameList}
use Rattle.plir_read_own.specs.declared.uses.NameList.TheVariants.{Operands, Successors}
use Rattle.plir_read_own.specs.laws.Found.{SpellsListed, listed_found}

some_token : (list : NameList) (w : List ℕ) (ts : List Token) → SpellsListed list w ts → 1 ≤ length ts
some_token Operands w ts h = rw (h.1) (omega arith)
some_token Successors w ts h = rw (h.1) (omega arith)

pub listed_at-shorter : (list : NameList) (bytes : List ℕ) (x : List ℕ × List ℕ) → listed_at list bytes ≡ Ok x →
    length x.1 < length bytes
listed_at-shorter list bytes x e =
    found-shorter (SpellsListed list) (listed_at list) (listed_found list) (some_token list) bytes x e
