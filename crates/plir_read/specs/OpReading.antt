-- Operations as they are read.
use Rattle.std.specs.Prelude.{ℕ, zero, suc, List, [], ◌∷◌, length, Bool, true, false, ◌||◌, nat_eq, is_some, Option}
use Rattle.std.specs.Prelude.{Some, None, Result, Ok, Err, codes, if◌then◌else◌}
use Rattle.std.specs.Str.{bytes_eq}
use Rattle.plir_attr_text.specs.Steps.{◌>>=◌, read_as}
use Rattle.plir_attr_text.specs.Lists.{sign_at, past_sign, separator_at, more_at, unless_closed, items_at}
use Rattle.plir_attr_text.specs.Terms.{AttrTerm, TypeTerm, EntryTerms, no_entries, entries_of}
use Rattle.plir_attr_text.specs.TypeReading.{word_at, type_at}
use Rattle.plir_attr_text.specs.AttrReading.{name_at, entry_at, attr_at}
use Rattle.plir_attr_text.specs.declared.fault.Fault.{Fault}
use Rattle.plir_attr_text.specs.declared.fault.Fault.TheVariants.{Unexpected, TooDeep, ForwardRefOpExistenceErr}
use Rattle.plir_attr_text.specs.declared.fault.Fault.TheVariants.{NResultsVerifyErr}
use Rattle.plir_read.specs.OpTerms.{Head, module_head, func_head, Header, Argument, BlockHead, OpTerm, op_term}
use Rattle.plir_read.specs.OpTerms.{constant_term, BlockTerm, blocks_of}
use Rattle.plir_read.specs.declared.heads.HeadKind.{HeadKind}
use Rattle.plir_read.specs.declared.heads.HeadKind.TheVariants.{Bodied, Constant, ForwardRef}
use Rattle.plir_read.specs.declared.heads.BodyKind.{BodyKind}
use Rattle.plir_read.specs.declared.heads.BodyKind.TheVariants.{Module, Func}

-- the kind of operation that an id names
unfoldable pub op_kind : List ℕ → Result HeadKind Fault
op_kind w =
    if bytes_eq w (codes "builtin.module") then Ok (Bodied Module)
    else if bytes_eq w (codes "builtin.func") then Ok (Bodied Func)
    else if bytes_eq w (codes "builtin.constant") then Ok Constant
    else if bytes_eq w (codes "builtin.forward_ref") then Ok ForwardRef
    else Err Unexpected

unfoldable pub op_id : List ℕ → Result (HeadKind × List ℕ) Fault
op_id bytes = word_at bytes >>= λ w. op_kind w.0 >>= λ k. Ok (k, w.1)

-- ---- names of results

-- names with commas between them, up to `=`
unfoldable pub names_at : List ℕ → Result (List (List ℕ) × List ℕ) Fault
names_at bytes = more_at (separator_at 61) name_at (suc (length bytes)) bytes

abbrev pub if_name : List ℕ → Result (List ℕ × List ℕ) Fault → Result (List (List ℕ) × List ℕ) Fault
if_name bytes (Ok w) = names_at bytes
if_name bytes (Err f) = Ok ([], bytes)

-- the names that stand before an id, if a name comes first
unfoldable pub names_before : List ℕ → Result (List (List ℕ) × List ℕ) Fault
names_before bytes = if_name bytes (name_at bytes)

-- what an operation begins with: names of results, and an id
unfoldable pub start_at : List ℕ → Result ((List (List ℕ) × HeadKind) × List ℕ) Fault
start_at bytes = names_before bytes >>= λ ns. op_id ns.1 >>= λ k. Ok ((ns.0, k.0), k.1)

-- as many names as there are results
unfoldable pub named : (expected found : ℕ) → Result (Unit {0}) Fault
named expected found = if nat_eq expected found then Ok tt else Err (NResultsVerifyErr expected found)

-- ---- headers

-- `@name`
unfoldable pub symbol_at : List ℕ → Result (List ℕ × List ℕ) Fault
symbol_at bytes = sign_at 64 bytes >>= λ start. name_at start

-- `name: TYPE`, with at most n levels in it
unfoldable pub argument_at : (n : ℕ) → List ℕ → Result (Argument × List ℕ) Fault
argument_at n bytes = name_at bytes >>= λ w. sign_at 58 w.1 >>= λ colon. type_at n colon >>= λ t. Ok ((w.0, t.0), t.1)

-- `^name(argument, argument):`, with at most n levels in it
unfoldable pub block_head_at : (n : ℕ) → List ℕ → Result (BlockHead × List ℕ) Fault
block_head_at n bytes = sign_at 94 bytes >>= λ start. name_at start >>= λ w. items_at 40 41 (argument_at n) w.1 >>=
    λ as_. sign_at 58 as_.1 >>= λ end. Ok ((w.0, as_.0), end)

-- what stands behind an id up to the dictionary, with at most n levels in it
unfoldable pub head_at : (n : ℕ) → BodyKind → List ℕ → Result (Head × List ℕ) Fault
head_at n Module bytes = symbol_at bytes >>= λ w. Ok (module_head w.0, w.1)
head_at n Func bytes = symbol_at bytes >>= λ w. sign_at 58 w.1 >>= λ colon. type_at n colon >>=
    λ t. Ok (func_head w.0 t.0, t.1)

-- a dictionary in brackets, if one comes next, with at most n levels in it
unfoldable pub dictionary_at : (n : ℕ) → List ℕ → Result (EntryTerms × List ℕ) Fault
dictionary_at n bytes = if is_some (past_sign 91 bytes) then read_as entries_of
    (items_at 91 93 (entry_at (attr_at n)) bytes) else Ok (no_entries, bytes)

-- what stands behind an id up to the body, with at most n levels in it
unfoldable pub header_at : (n : ℕ) → BodyKind → List ℕ → Result (Header × List ℕ) Fault
header_at n k bytes = head_at n k bytes >>= λ h. dictionary_at n h.1 >>= λ d. Ok ((h.0, d.0), d.1)

-- ---- constants

-- `<ATTR>`, with at most n levels in it
unfoldable pub value_at : (n : ℕ) → List ℕ → Result (AttrTerm × List ℕ) Fault
value_at n bytes = sign_at 60 bytes >>= λ start. attr_at n start >>= λ a. sign_at 62 a.1 >>= λ end. Ok (a.0, end)

-- `<ATTR> : TYPE`, with at most n levels in it
unfoldable pub constant_at : (n : ℕ) → List ℕ → Result ((AttrTerm × TypeTerm) × List ℕ) Fault
constant_at n bytes = value_at n bytes >>= λ a. sign_at 58 a.1 >>= λ colon. type_at n colon >>=
    λ t. Ok ((a.0, t.0), t.1)

-- the same, where so many names stand before the id: a constant has one result
unfoldable pub named_constant_at : (n names : ℕ) → List ℕ → Result ((AttrTerm × TypeTerm) × List ℕ) Fault
named_constant_at n names bytes = named 1 names >>= λ u. constant_at n bytes

-- ---- blocks

-- whether a block ends here: another one, or the closing brace, comes next
unfoldable pub ends_block : List ℕ → Bool
ends_block bytes = is_some (past_sign 94 bytes) || is_some (past_sign 125 bytes)

abbrev pub behind_semicolon : List ℕ → Option (List ℕ) → Bool × List ℕ
behind_semicolon bytes (Some rest) = (true, rest)
behind_semicolon bytes None = (false, bytes)

-- what stands behind an operation: a semicolon, after which one more comes, or what stands behind the operations of a
-- block
unfoldable pub semicolon_at : List ℕ → Result (Bool × List ℕ) Fault
semicolon_at bytes = Ok (behind_semicolon bytes (past_sign 59 bytes))

abbrev pub behind_brace : List ℕ → Option (List ℕ) → Bool × List ℕ
behind_brace bytes (Some rest) = (false, rest)
behind_brace bytes None = (true, bytes)

-- what stands behind a block: the closing brace, or one more
unfoldable pub brace_at : List ℕ → Result (Bool × List ℕ) Fault
brace_at bytes = Ok (behind_brace bytes (past_sign 125 bytes))

-- the first of some names
abbrev pub first_name : List (List ℕ) → List ℕ
first_name [] = []
first_name (w ∷ ws) = w

module _ (read : List ℕ → Result (OpTerm × List ℕ) Fault) where
  -- the operations of a block
  unfoldable pub ops_at : List ℕ → Result (List OpTerm × List ℕ) Fault
  ops_at bytes = if ends_block bytes then Ok ([], bytes) else more_at semicolon_at read (suc (length bytes)) bytes

  -- a block, with at most n levels in it
  unfoldable pub block_at : (n : ℕ) → List ℕ → Result (BlockTerm × List ℕ) Fault
  block_at n bytes = block_head_at n bytes >>= λ w. ops_at w.1 >>= λ os. Ok ((w.0, os.0), os.1)

  -- blocks in braces
  unfoldable pub blocks_at : (n : ℕ) → List ℕ → Result (List BlockTerm × List ℕ) Fault
  blocks_at n bytes = sign_at 123 bytes >>= λ start. unless_closed (past_sign 125 start)
      (more_at brace_at (block_at n) (suc (length start)) start)

  -- a module or a function behind its id, where so many names stand before that, with at most n levels in it: it has no
  -- result
  unfoldable pub bodied_at : (n : ℕ) → BodyKind → (names : ℕ) → List ℕ → Result (OpTerm × List ℕ) Fault
  bodied_at n k names bytes = named 0 names >>= λ u. header_at n k bytes >>= λ h. blocks_at n h.1 >>=
      λ bs. Ok (op_term h.0 (blocks_of bs.0), bs.1)

  -- An operation behind its id, with the names before that, and with at most n levels in it. A forward reference stands
  -- in no text.
  abbrev pub behind_id : (n : ℕ) → (names : List (List ℕ)) → HeadKind → List ℕ → Result (OpTerm × List ℕ) Fault
  behind_id n ns (Bodied k) bytes = bodied_at n k (length ns) bytes
  behind_id n ns Constant bytes = read_as (λ c. constant_term (first_name ns) c.0 c.1)
      (named_constant_at n (length ns) bytes)
  behind_id n ns ForwardRef bytes = Err ForwardRefOpExistenceErr

-- an operation, with at most n levels open: a word that comes where no level is left begins one that is too deep
unfoldable pub op_at : (n : ℕ) → List ℕ → Result (OpTerm × List ℕ) Fault
op_at zero bytes = word_at bytes >>= λ w. Err TooDeep
op_at (suc n) bytes = start_at bytes >>= λ s. behind_id (op_at n) n s.0.0 s.0.1 s.1
