-- What is left of a text behind tokens that it begins with.
use Rattle.std.proofs.Common.{◌≡◌, ℕ, zero, suc, List, [], ◌∷◌, ◌++◌, true, Result, Ok, refl, sym, subst}
use Rattle.plir_attr_text.specs.Tokens.{Token, arrow, sign, Takes, Begins}
use Rattle.plir_attr_text.specs.laws.Begun.{Begins-append, arrow_found, sign_found, separator_found}
use Rattle.plir_attr_text.specs.laws.LeavesFound.{name_found}
use Rattle.plir_attr_text.specs.{declared.fault.Fault.Fault, Lists.sign_at, TypeReading.arrow_at, AttrReading.name_at}
use Rattle.plir_attr_text.specs.{TypesIn.IsBehind, TypesIn.IsItemAt, laws.ListsFound.IsSound}

-- the rest stands behind tokens that the text begins with
abbrev pub IsEnd : (bytes rest : List ℕ) → Type 0
IsEnd bytes rest = (before : List Token) × Begins bytes before rest

pub end_itself : (bytes : List ℕ) → IsEnd bytes bytes
end_itself bytes = ([], refl)

pub end_on : (a b c : List ℕ) → IsEnd a b → IsEnd b c → IsEnd a c
end_on a b c p q = (p.0 ++ q.0, Begins-append p.0 q.0 a b c p.1 q.1)

pub takes_end : (bytes : List ℕ) (t : Token) (rest : List ℕ) → Takes bytes t rest → IsEnd bytes rest
takes_end bytes t rest p = (t ∷ [], (rest, p, refl))

pub begins_end : (ts : List Token) (bytes rest : List ℕ) → Begins bytes ts rest → IsEnd bytes rest
begins_end ts bytes rest p = (ts, p)

-- behind what is read an end of the text is left
pub found_end : {A : Type 0} (E : A → List Token → Type 0) (read : List ℕ → Result (A × List ℕ) Fault) →
    IsSound E read → (bytes : List ℕ) (x : A) (rest : List ℕ) → read bytes ≡ Ok (x, rest) → IsEnd bytes rest
found_end E read sound bytes x rest e = let f = sound bytes (x, rest) e in (f.tokens, f.begins)

pub sign_end : (b : ℕ) (bytes rest : List ℕ) → sign_at b bytes ≡ Ok rest → IsEnd bytes rest
sign_end b bytes rest e = takes_end bytes (sign b) rest (sign_found b bytes rest e)

pub arrow_end : (bytes rest : List ℕ) → arrow_at bytes ≡ Ok rest → IsEnd bytes rest
arrow_end bytes rest e = takes_end bytes arrow rest (arrow_found bytes rest e)

pub name_end : (bytes w rest : List ℕ) → name_at bytes ≡ Ok (w, rest) → IsEnd bytes rest
name_end bytes w rest e = let f = name_found bytes (w, rest) e in (f.tokens, f.begins)

-- each item of a list begins at an end of it
module _ {A : Type 0} (E : A → List Token → Type 0) (open_ close : ℕ) (read : List ℕ → Result (A × List ℕ) Fault)
    (sound : IsSound E read) where
  behind_end : (items : ℕ) (start place : List ℕ) → IsBehind open_ close read items start place → IsEnd start place
  behind_end zero start place b = subst (IsEnd start) (sym b) (end_itself start)
  behind_end (suc n) start place b =
      let item = found_end E read sound start b.0.0 b.0.1 b.2 in
      let comma = takes_end b.0.1 (sign 44) b.1 (separator_found close b.0.1 (true, b.1) b.3) in
      end_on start b.1 place (end_on start b.0.1 b.1 item comma) (behind_end n b.1 place b.4)

  pub item_end : (bytes place : List ℕ) → IsItemAt open_ close read bytes place → IsEnd bytes place
  item_end bytes place h =
      end_on bytes h.0 place (sign_end open_ bytes h.0 h.2) (behind_end h.1 h.0 place h.4)
