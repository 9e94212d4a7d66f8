-- The tokens decide what is read of operations, and which fault a text meets.
use Rattle.std.proofs.Common.{◌≡◌, ℕ, suc, ◌≤◌, Bool, true, false, cond, ◌||◌, List, []}
use Rattle.std.proofs.Common.{◌∷◌, length, codes, Option, Some, None, is_some, Result, Ok, Err, refl, ap}
use Rattle.std.proofs.Common.{◌∙◌, arith}
use Rattle.std.specs.Str.{bytes_eq}
use Rattle.plir_data.specs.Identifier.{is_identifier}
use Rattle.plir_attr_text.specs.AttrGrammar.{SpellsIdentifier}
use Rattle.plir_attr_text.specs.AttrReading.{name_at, entry_at, attr_at}
use Rattle.plir_attr_text.specs.Lists.{sign_at, past_sign, separator_at, more_at, items_at}
use Rattle.plir_attr_text.specs.Steps.{◌>>=◌, read_as}
use Rattle.plir_attr_text.specs.Terms.{entries_of, no_entries}
use Rattle.plir_attr_text.specs.Tokens.{Token, word, digits, signed, quoted, arrow, sign, look}
use Rattle.plir_attr_text.specs.TypeReading.{as_word, word_at, type_at}
use Rattle.plir_attr_text.specs.declared.fault.Fault.{Fault}
use Rattle.plir_attr_text.specs.declared.fault.Fault.TheVariants.{Unexpected}
use Rattle.plir_attr_text.specs.laws.AttrsFound.{entry_at-shorter}
use Rattle.plir_attr_text.specs.laws.LeavesFound.{found-shorter, name_found}
use Rattle.plir_attr_text.specs.laws.StepLaws.{done}
use Rattle.plir_read.specs.FaultsMet.{IsWrong}
use Rattle.plir_read.specs.OpReading.{op_kind, op_id, names_at, if_name, names_before, start_at, named, first_name}
use Rattle.plir_read.specs.OpReading.{symbol_at, argument_at, block_head_at, head_at, dictionary_at, header_at}
use Rattle.plir_read.specs.OpReading.{constant_at, named_constant_at, ends_block, behind_semicolon, semicolon_at}
use Rattle.plir_read.specs.OpReading.{behind_brace, brace_at, ops_at, block_at, blocks_at, bodied_at, behind_id, op_at}
use Rattle.plir_read.specs.OpReading as op_reading
use Rattle.plir_read.specs.OpTerms.{func_head, OpTerm}
use Rattle.plir_read.specs.declared.heads.BodyKind.{BodyKind}
use Rattle.plir_read.specs.declared.heads.BodyKind.TheVariants.{Module, Func}
use Rattle.plir_read.specs.declared.heads.HeadKind.{HeadKind}
use Rattle.plir_read.specs.declared.heads.HeadKind.TheVariants.{Bodied, Constant, ForwardRef}
use Rattle.plir_read.proofs.DecidedTypes.{steady_sign, steady_separator, steady_made, shows, sign_shown}
use Rattle.plir_read.proofs.DecidedTypes.{closed, steady_closed, steady_enclosed, steady_items, wrong_word, else_err}
use Rattle.plir_read.proofs.DecidedTypes.{steady_type}
use Rattle.plir_read.specs.laws.OpFound.{argument_at-shorter, block_at-shorter, op_at-shorter}
use Rattle.plir_read.proofs.Deciding.{next, next_of, pairs, bare, Steady, steady_as, steady_bind, steady_done}
use Rattle.plir_read.proofs.Deciding.{steady_choice}
use Rattle.plir_read.proofs.DecidedAttrs.{steady_name, steady_entry, steady_attr}
use Rattle.plir_read.proofs.OneByOne.{Shrinks, steady_more}

-- ---- names of results, and ids

name_some : (w : List ℕ) (ts : List Token) → SpellsIdentifier w ts → 1 ≤ length ts
name_some w ts h = rw (h.1) (omega arith)

name_shrinks : Shrinks name_at
name_shrinks bytes x e = found-shorter SpellsIdentifier name_at name_found name_some bytes x e

steady_names : Steady pairs names_at
unfolding names_at
steady_names = steady_more (separator_at 61) (steady_separator 61) name_at steady_name name_shrinks

kind_wrong : (w : List ℕ) (f : Fault) → op_kind w ≡ Err f → IsWrong f (word w ∷ [])
unfolding op_kind
kind_wrong w f e = wrong_word w f (else_err (bytes_eq w (codes "builtin.forward_ref")) ForwardRef _ f (else_err
    (bytes_eq w (codes "builtin.constant")) Constant _ f (else_err (bytes_eq w (codes "builtin.func")) (Bodied Func) _
    f (else_err (bytes_eq w (codes "builtin.module")) (Bodied Module) _ f e))))

steady_id : Steady pairs op_id
unfolding op_id
steady_id = steady_made op_kind kind_wrong

-- whether a name comes next
abbrev is_name_token : Token → Bool
is_name_token (word w) = is_identifier w
is_name_token (digits n) = false
is_name_token (signed s n) = false
is_name_token (quoted q) = false
is_name_token arrow = false
is_name_token (sign b) = false

abbrev is_name : Option Token → Bool
is_name (Some t) = is_name_token t
is_name None = false

abbrev pub Start : Type 0
Start = (List (List ℕ) × HeadKind) × List ℕ

abbrev with_names : List (List ℕ) × List ℕ → Result Start Fault
with_names ns = op_id ns.1 >>= λ k. Ok ((ns.0, k.0), k.1)

start_is : (z : List ℕ) → start_at z ≡ cond (is_name (next z)) (names_at z >>= with_names) (with_names ([], z))
unfolding start_at names_before name_at word_at
start_is z = at (look z)
  where
    choice : (w rest : List ℕ) (c : Bool) →
        (if_name z (cond c (Ok (w, rest)) (Err Unexpected)) >>= with_names) ≡
        cond c (names_at z >>= with_names) (with_names ([], z))
    choice w rest true = refl
    choice w rest false = refl

    token : (t : Token) (rest : List ℕ) →
        (if_name z (as_word t rest >>= λ w. cond (is_identifier w.0) (Ok (w.0, w.1)) (Err Unexpected)) >>= with_names) ≡
        cond (is_name_token t) (names_at z >>= with_names) (with_names ([], z))
    token (word w) rest = choice w rest (is_identifier w)
    token (digits n) rest = refl
    token (signed s n) rest = refl
    token (quoted q) rest = refl
    token arrow rest = refl
    token (sign b) rest = refl

    at : (r : Result (Token × List ℕ) Fault) →
        (if_name z ((r >>= λ t. as_word t.0 t.1) >>= λ w. cond (is_identifier w.0) (Ok (w.0, w.1)) (Err Unexpected)) >>=
        with_names) ≡ cond (is_name (next_of r)) (names_at z >>= with_names) (with_names ([], z))
    at (Ok t) = token t.0 t.1
    at (Err f) = refl

steady_with : (ns : List (List ℕ)) → Steady pairs (λ z. with_names (ns, z))
steady_with ns = steady_bind pairs op_id steady_id pairs _ (λ k. steady_done (ns, k.0))

pub steady_start : Steady pairs start_at
steady_start =
    steady_as pairs start_at _ start_is
    (steady_choice pairs is_name (λ z. names_at z >>= with_names) (λ z. with_names ([], z))
    (steady_bind pairs names_at steady_names pairs with_names (λ ns. steady_with ns.0)) (steady_with []))

-- ---- headers

steady_symbol : Steady pairs symbol_at
unfolding symbol_at
steady_symbol = steady_bind bare (sign_at 64) (steady_sign 64) pairs _ (λ s. steady_name)

module _ (n : ℕ) where
  -- a colon and a type
  steady_typed : {B : Type 0} (make : _ → B) → Steady pairs (λ z. sign_at 58 z >>= λ colon. type_at n colon >>=
      λ t. Ok (make t.0, t.1))
  steady_typed make = steady_bind bare (sign_at 58) (steady_sign 58) pairs _
      (λ c. steady_bind pairs (type_at n) (steady_type n) pairs _ (λ t. steady_done (make t.0)))

  steady_argument : Steady pairs (argument_at n)
  unfolding argument_at
  steady_argument = steady_bind pairs name_at steady_name pairs _ (λ w. steady_typed (λ t. (w.0, t)))

  steady_block_head : Steady pairs (block_head_at n)
  unfolding block_head_at
  steady_block_head =
      steady_bind bare (sign_at 94) (steady_sign 94) pairs _ (λ s. steady_bind pairs name_at steady_name pairs _
      (λ w. steady_bind pairs (items_at 40 41 (argument_at n))
      (steady_items (argument_at n) steady_argument (argument_at-shorter n) 40 41) pairs _
      (λ as_. steady_bind bare (sign_at 58) (steady_sign 58) pairs _ (λ e. steady_done _))))

  steady_head : (k : BodyKind) → Steady pairs (head_at n k)
  unfolding head_at
  steady_head Module = steady_bind pairs symbol_at steady_symbol pairs _ (λ w. steady_done _)
  steady_head Func = steady_bind pairs symbol_at steady_symbol pairs _ (λ w. steady_typed (λ t. func_head w.0 t))

  steady_dictionary : Steady pairs (dictionary_at n)
  unfolding dictionary_at
  steady_dictionary =
      let entries : List ℕ → Result (_ × List ℕ) Fault = λ z. read_as entries_of
      (items_at 91 93 (entry_at (attr_at n)) z) in
      steady_as pairs _ (λ z. cond (shows 91 (next z)) (entries z) (Ok (no_entries, z)))
      (λ z. ap (λ (c : Bool). cond c (entries z) (Ok (no_entries, z))) (sign_shown 91 z))
      (steady_choice pairs (shows 91) entries (λ z. Ok (no_entries, z))
      (steady_bind pairs (items_at 91 93 (entry_at (attr_at n)))
      (steady_items (entry_at (attr_at n)) (steady_entry (attr_at n) (steady_attr n)) (entry_at-shorter n) 91 93) pairs
      _ (λ es. steady_done _)) (steady_done no_entries))

  pub steady_header : (k : BodyKind) → Steady pairs (header_at n k)
  unfolding header_at
  steady_header k =
      steady_bind pairs (head_at n k) (steady_head k) pairs _
      (λ h. steady_bind pairs (dictionary_at n) steady_dictionary pairs _ (λ d. steady_done _))

  steady_held : Steady pairs (op_reading.value_at n)
  unfolding op_reading.value_at
  steady_held =
      steady_bind bare (sign_at 60) (steady_sign 60) pairs _ (λ s. steady_bind pairs (attr_at n) (steady_attr n) pairs _
      (λ a. steady_bind bare (sign_at 62) (steady_sign 62) pairs _ (λ e. steady_done _)))

  pub steady_constant : Steady pairs (constant_at n)
  unfolding constant_at
  steady_constant =
      steady_bind pairs (op_reading.value_at n) steady_held pairs _ (λ a. steady_typed (λ t. (a.0, t)))

-- ---- blocks

steady_semicolon : Steady pairs semicolon_at
unfolding semicolon_at
steady_semicolon =
    steady_as pairs _ (λ z. closed 59 true (λ z. Ok (false, z)) (past_sign 59 z) (Ok (false, z)))
    (λ z. same z (past_sign 59 z)) (steady_closed 59 true (λ z. Ok (false, z)) (steady_done false))
  where
    same : (z : List ℕ) (o : Option (List ℕ)) → done (behind_semicolon z o) ≡
        closed 59 true (λ z. Ok (false, z)) o (Ok (false, z))
    same z (Some r) = refl
    same z None = refl

steady_brace : Steady pairs brace_at
unfolding brace_at
steady_brace =
    steady_as pairs _ (λ z. closed 125 false (λ z. Ok (true, z)) (past_sign 125 z) (Ok (true, z)))
    (λ z. same z (past_sign 125 z)) (steady_closed 125 false (λ z. Ok (true, z)) (steady_done true))
  where
    same : (z : List ℕ) (o : Option (List ℕ)) → done (behind_brace z o) ≡
        closed 125 false (λ z. Ok (true, z)) o (Ok (true, z))
    same z (Some r) = refl
    same z None = refl

abbrev shows_end : Option Token → Bool
shows_end t = shows 94 t || shows 125 t

end_shown : (z : List ℕ) → ends_block z ≡ shows_end (next z)
unfolding ends_block
end_shown z = ap (λ (c : Bool). c || is_some (past_sign 125 z)) (sign_shown 94 z) ∙
    ap (λ (c : Bool). shows 94 (next z) || c) (sign_shown 125 z)

module _ (n : ℕ) (ops : Steady pairs (op_at n)) where
  steady_ops : Steady pairs (ops_at (op_at n))
  unfolding ops_at
  steady_ops =
      let more : List ℕ → Result (List OpTerm × List ℕ) Fault =
      λ z. more_at semicolon_at (op_at n) (suc (length z)) z in
      steady_as pairs _ (λ z. cond (shows_end (next z)) (Ok ([], z)) (more z))
      (λ z. ap (λ (c : Bool). cond c (Ok ([], z)) (more z)) (end_shown z))
      (steady_choice pairs shows_end (λ z. Ok ([], z)) more (steady_done [])
      (steady_more semicolon_at steady_semicolon (op_at n) ops (op_at-shorter n)))

  steady_block : Steady pairs (block_at (op_at n) n)
  unfolding block_at
  steady_block =
      steady_bind pairs (block_head_at n) (steady_block_head n) pairs _
      (λ w. steady_bind pairs (ops_at (op_at n)) steady_ops pairs _ (λ os. steady_done _))

  pub steady_blocks : Steady pairs (blocks_at (op_at n) n)
  unfolding blocks_at
  steady_blocks =
      steady_enclosed brace_at steady_brace (block_at (op_at n) n) steady_block (block_at-shorter n) 123 125
