-- Behind each part of an operation's text an end of the text is left.
use Rattle.std.proofs.Common.{◌≡◌, ℕ, List, Bool, Ok, subst}
use Rattle.plir_attr_text.specs.AttrReading.{name_at}
use Rattle.plir_attr_text.specs.Lists.{sign_at, separator_at}
use Rattle.plir_attr_text.specs.laws.Begun.{separator, separator_found}
use Rattle.plir_attr_text.specs.laws.StepLaws.{bind_ok, ok_is}
use Rattle.plir_attr_text.specs.Steps.{◌>>=◌}
use Rattle.plir_attr_text.specs.Terms.{TypeTerm, AttrTerm}
use Rattle.plir_attr_text.specs.Tokens.{sign, word}
use Rattle.plir_attr_text.specs.TypeGrammar.{TypeWithin}
use Rattle.plir_attr_text.specs.TypeReading.{type_at}
use Rattle.plir_attr_text.specs.laws.TypesFound.{type_found}
use Rattle.plir_read.specs.OpGrammar.{OpWithin, BlockWithin}
use Rattle.plir_read.specs.OpReading.{start_at, symbol_at, argument_at, block_head_at, head_at, dictionary_at}
use Rattle.plir_read.specs.OpReading.{header_at, value_at, semicolon_at, brace_at, block_at, op_at}
use Rattle.plir_read.specs.OpTerms.{Head, module_head, func_head, Header, Argument, BlockHead, BlockTerm, OpTerm}
use Rattle.plir_read.specs.declared.heads.BodyKind.{BodyKind}
use Rattle.plir_read.specs.declared.heads.BodyKind.TheVariants.{Module, Func}
use Rattle.plir_read.specs.declared.heads.HeadKind.{HeadKind}
use Rattle.plir_read.specs.laws.Dictionaries.{DictionaryWithin, dictionary_found}
use Rattle.plir_attr_text.specs.laws.Ends.{IsEnd, end_on, begins_end, found_end, takes_end, sign_end, name_end}
use Rattle.plir_read.specs.laws.OpFound.{ArgumentWithin, argument_found, BlockHeadWithin, block_head_found, by_semicolon}
use Rattle.plir_read.specs.laws.OpFound.{semicolon_found, by_brace, brace_found, block_found, op_found}
use Rattle.plir_read.specs.laws.StartFound.{id_of, start_found, ValueWithin, value_found}

type_end : (n : ℕ) (bytes : List ℕ) (x : TypeTerm × List ℕ) → type_at n bytes ≡ Ok x → IsEnd bytes x.1
type_end n bytes x e = found_end (TypeWithin n) (type_at n) (type_found n) bytes x.0 x.1 e

pub symbol_end : (bytes w rest : List ℕ) → symbol_at bytes ≡ Ok (w, rest) → IsEnd bytes rest
unfolding symbol_at
symbol_end bytes w rest e =
    let a = bind_ok (sign_at 64 bytes) (λ start. name_at start) (w, rest) e in
    end_on bytes a.0 rest (sign_end 64 bytes a.0 a.1) (name_end a.0 w rest a.2)

-- behind a name and a sign
pub argument_start : (bytes w rest colon : List ℕ) → name_at bytes ≡ Ok (w, rest) → sign_at 58 rest ≡ Ok colon →
    IsEnd bytes colon
argument_start bytes w rest colon e f = end_on bytes rest colon (name_end bytes w rest e) (sign_end 58 rest colon f)

pub func_start : (bytes w rest colon : List ℕ) → symbol_at bytes ≡ Ok (w, rest) → sign_at 58 rest ≡ Ok colon →
    IsEnd bytes colon
func_start bytes w rest colon e f = end_on bytes rest colon (symbol_end bytes w rest e) (sign_end 58 rest colon f)

pub arguments_start : (bytes start w rest : List ℕ) → sign_at 94 bytes ≡ Ok start → name_at start ≡ Ok (w, rest) →
    IsEnd bytes rest
arguments_start bytes start w rest e f = end_on bytes start rest (sign_end 94 bytes start e) (name_end start w rest f)

-- behind an argument and a comma
pub argument_end : (n : ℕ) (bytes : List ℕ) (a : Argument) (rest : List ℕ) → argument_at n bytes ≡ Ok (a, rest) →
    IsEnd bytes rest
argument_end n bytes a rest e = found_end (ArgumentWithin n) (argument_at n) (argument_found n) bytes a rest e

pub separator_end : (close : ℕ) (bytes : List ℕ) (more : Bool) (rest : List ℕ) →
    separator_at close bytes ≡ Ok (more, rest) → IsEnd bytes rest
separator_end close bytes more rest e =
    takes_end bytes (sign (separator close more)) rest (separator_found close bytes (more, rest) e)

pub block_head_end : (n : ℕ) (bytes : List ℕ) (b : BlockHead) (rest : List ℕ) → block_head_at n bytes ≡ Ok (b, rest) →
    IsEnd bytes rest
block_head_end n bytes b rest e = found_end (BlockHeadWithin n) (block_head_at n) (block_head_found n) bytes b rest e

-- headers
head_tail : (n : ℕ) (k : BodyKind) (bytes : List ℕ) (x : Head × List ℕ) → head_at n k bytes ≡ Ok x → IsEnd bytes x.1
unfolding head_at
head_tail n Module bytes x e =
    let a = bind_ok (symbol_at bytes) (λ w. Ok (module_head w.0, w.1)) x e in
    subst (λ (y : Head × List ℕ). IsEnd bytes y.1) (ok_is _ x a.2) (symbol_end bytes a.0.0 a.0.1 a.1)
head_tail n Func bytes x e =
    let a = bind_ok (symbol_at bytes)
    (λ w. sign_at 58 w.1 >>= λ colon. type_at n colon >>= λ t. Ok (func_head w.0 t.0, t.1)) x e in
    let b = bind_ok (sign_at 58 a.0.1) (λ colon. type_at n colon >>= λ t. Ok (func_head a.0.0 t.0, t.1)) x a.2 in
    let d = bind_ok (type_at n b.0) (λ t. Ok (func_head a.0.0 t.0, t.1)) x b.2 in
    subst (λ (y : Head × List ℕ). IsEnd bytes y.1) (ok_is _ x d.2)
    (end_on bytes b.0 d.0.1 (func_start bytes a.0.0 a.0.1 b.0 a.1 b.1) (type_end n b.0 d.0 d.1))

pub head_end : (n : ℕ) (k : BodyKind) (bytes : List ℕ) (h : Head) (rest : List ℕ) → head_at n k bytes ≡ Ok (h, rest) →
    IsEnd bytes rest
head_end n k bytes h rest e = head_tail n k bytes (h, rest) e

header_tail : (n : ℕ) (k : BodyKind) (bytes : List ℕ) (x : Header × List ℕ) → header_at n k bytes ≡ Ok x →
    IsEnd bytes x.1
unfolding header_at
header_tail n k bytes x e =
    let a = bind_ok (head_at n k bytes) (λ h. dictionary_at n h.1 >>= λ d. Ok ((h.0, d.0), d.1)) x e in
    let b = bind_ok (dictionary_at n a.0.1) (λ d. Ok ((a.0.0, d.0), d.1)) x a.2 in
    subst (λ (y : Header × List ℕ). IsEnd bytes y.1) (ok_is _ x b.2)
    (end_on bytes a.0.1 b.0.1 (head_tail n k bytes a.0 a.1)
    (found_end (DictionaryWithin n) (dictionary_at n) (dictionary_found n) a.0.1 b.0.0 b.0.1 b.1))

pub header_end : (n : ℕ) (k : BodyKind) (bytes : List ℕ) (h : Header) (rest : List ℕ) →
    header_at n k bytes ≡ Ok (h, rest) → IsEnd bytes rest
header_end n k bytes h rest e = header_tail n k bytes (h, rest) e

-- the value of a constant, and the sign behind it
pub constant_type_start : (n : ℕ) (bytes : List ℕ) (a : AttrTerm) (rest colon : List ℕ) →
    value_at n bytes ≡ Ok (a, rest) → sign_at 58 rest ≡ Ok colon → IsEnd bytes colon
constant_type_start n bytes a rest colon e f =
    end_on bytes rest colon (found_end (ValueWithin n) (value_at n) (value_found n) bytes a rest e)
    (sign_end 58 rest colon f)

-- names of results, and an id
pub start_end : (bytes : List ℕ) (s : List (List ℕ) × HeadKind) (rest : List ℕ) → start_at bytes ≡ Ok (s, rest) →
    IsEnd bytes rest
start_end bytes s rest e =
    let o = start_found bytes (s, rest) e in
    end_on bytes o.behind rest (begins_end o.names bytes o.behind o.begins)
    (takes_end o.behind (word (id_of s.1)) rest o.id)

-- operations and blocks, and what parts them
pub op_end : (n : ℕ) (bytes : List ℕ) (w : OpTerm) (rest : List ℕ) → op_at n bytes ≡ Ok (w, rest) → IsEnd bytes rest
op_end n bytes w rest e = found_end (OpWithin n) (op_at n) (op_found n) bytes w rest e

pub block_end : (n : ℕ) (bytes : List ℕ) (b : BlockTerm) (rest : List ℕ) → block_at (op_at n) n bytes ≡ Ok (b, rest) →
    IsEnd bytes rest
block_end n bytes b rest e =
    found_end (BlockWithin n) (block_at (op_at n) n) (block_found n (op_at n) (op_found n)) bytes b rest e

pub semicolon_end : (bytes : List ℕ) (more : Bool) (rest : List ℕ) → semicolon_at bytes ≡ Ok (more, rest) →
    IsEnd bytes rest
semicolon_end bytes more rest e = begins_end (by_semicolon more) bytes rest (semicolon_found bytes (more, rest) e)

pub brace_end : (bytes : List ℕ) (more : Bool) (rest : List ℕ) → brace_at bytes ≡ Ok (more, rest) → IsEnd bytes rest
brace_end bytes more rest e = begins_end (by_brace more) bytes rest (brace_found bytes (more, rest) e)
