-- Headers of modules and functions, and heads of blocks, that stand there are read; what comes next in a text.
use Rattle.std.proofs.Common.{◌≡◌, ℕ, ◌≤◌, true, false, List, [], ◌∷◌, ◌++◌, None, Ok, refl, ap, subst, arith}
use Rattle.plir_data.specs.Identifier.{is_identifier}
use Rattle.plir_attr_text.specs.AttrGrammar.{SpellsMore, SpellsSeveral}
use Rattle.plir_attr_text.specs.AttrReading.{name_at}
use Rattle.plir_attr_text.specs.Lists.{sign_at, past_sign}
use Rattle.plir_attr_text.specs.Terms.{EntryTerms, type_levels}
use Rattle.plir_attr_text.specs.Tokens.{Token, word, sign, look, Begins}
use Rattle.plir_attr_text.specs.TypeGrammar.{enclosed}
use Rattle.plir_attr_text.specs.laws.Begun.{Begins-split, sign_again, past_sign_again, no_sign}
use Rattle.plir_attr_text.specs.laws.LeavesAgain.{name_again}
use Rattle.plir_attr_text.specs.laws.ListsAgain.{IsRead, several_read, word_opens}
use Rattle.plir_attr_text.specs.laws.StepLaws.{done}
use Rattle.plir_attr_text.specs.laws.TypesAgain.{type_again}
use Rattle.plir_read.specs.OpGrammar.{symbol, SpellsHead, SpellsHeader, SpellsArgument, SpellsBlockHead}
use Rattle.plir_read.specs.OpReading.{start_at, symbol_at, argument_at, block_head_at, head_at, dictionary_at}
use Rattle.plir_read.specs.OpReading.{header_at}
use Rattle.plir_read.specs.OpReading.{ends_block, semicolon_at, brace_at}
use Rattle.plir_read.specs.OpTerms.{Head, module_head, func_head, Header, Argument, BlockHead, head_levels}
use Rattle.plir_read.specs.OpTerms.{header_levels}
use Rattle.plir_read.specs.OpTerms.{arguments_levels, block_levels}
use Rattle.plir_read.specs.declared.heads.BodyKind.{BodyKind}
use Rattle.plir_read.specs.declared.heads.BodyKind.TheVariants.{Module, Func}
use Rattle.plir_read.specs.declared.heads.HeadKind.TheVariants.{Bodied}
use Rattle.plir_read.specs.laws.Dictionaries.{dictionary_again}
use Rattle.plir_read_ir.proofs.StartAgain.{module_id, func_id}

-- ---- headers

named_again : (b : ℕ) (w bytes rest : List ℕ) → is_identifier w ≡ true → Begins bytes (sign b ∷ word w ∷ []) rest →
    (start : List ℕ) × (sign_at b bytes ≡ Ok start) × (name_at start ≡ Ok (w, rest))
named_again b w bytes rest f h = (h.0, sign_again b bytes h.0 h.1, name_again w (word w ∷ []) h.0 rest (f, refl) h.2)

symbol_again : (w bytes rest : List ℕ) → is_identifier w ≡ true → Begins bytes (symbol w) rest →
    symbol_at bytes ≡ Ok (w, rest)
unfolding symbol_at
symbol_again w bytes rest f h = let n = named_again 64 w bytes rest f h in rw (n.1) n.2

argument_again : (n : ℕ) (a : Argument) (ts : List Token) (bytes rest : List ℕ) → SpellsArgument a ts →
    type_levels a.1 ≤ n → Begins bytes ts rest → argument_at n bytes ≡ Ok (a, rest)
unfolding argument_at
argument_again n a ts bytes rest s le b =
    let c = subst (λ (y : List Token). Begins bytes y rest) s.3 b in
    let d = c.2 in
    rw (
      name_again a.0 (word a.0 ∷ []) bytes c.0 (s.1, refl) (c.0, c.1, refl),
      sign_again 58 c.0 d.0 d.1,
      type_again a.1 s.0 n d.0 rest s.2 le d.2,
    ) refl

argument_read : (n : ℕ) (a : Argument) (ts : List Token) → SpellsArgument a ts → type_levels a.1 ≤ n →
    IsRead 41 (argument_at n) a ts
argument_read n a ts s le = record {
  reads = λ bytes rest b. argument_again n a ts bytes rest s le b;
  opens = λ bytes rest b. word_opens 41 a.0 (sign 58 ∷ s.0) bytes rest
      (subst (λ (y : List Token). Begins bytes y rest) s.3 b);
}

more_arguments_read : (n : ℕ) (as_ : List Argument) (ts : List Token) → SpellsMore SpellsArgument as_ ts →
    arguments_levels as_ ≤ n → SpellsMore (IsRead 41 (argument_at n)) as_ ts
more_arguments_read n [] ts h le = h
more_arguments_read n (a ∷ as_) ts h le =
    (h.0, h.1, argument_read n a h.0 h.2 (omega arith), more_arguments_read n as_ h.1 h.3 (omega arith), h.4)

arguments_read : (n : ℕ) (as_ : List Argument) (ts : List Token) → SpellsSeveral SpellsArgument as_ ts →
    arguments_levels as_ ≤ n → SpellsSeveral (IsRead 41 (argument_at n)) as_ ts
arguments_read n [] ts h le = h
arguments_read n (a ∷ as_) ts h le =
    (h.0, h.1, argument_read n a h.0 h.2 (omega arith), more_arguments_read n as_ h.1 h.3 (omega arith), h.4)

pub block_head_again : (n : ℕ) (b : BlockHead) (ts : List Token) (bytes rest : List ℕ) → SpellsBlockHead b ts →
    block_levels b ≤ n → Begins bytes ts rest → block_head_at n bytes ≡ Ok (b, rest)
unfolding block_head_at
block_head_again n b ts bytes rest s le f =
    let c = subst (λ (y : List Token). Begins bytes y rest) s.3 f in
    let w = c.2 in
    let d = Begins-split (enclosed 40 s.0 41) (sign 58 ∷ []) w.0 rest w.2 in
    let end = d.2 in
    rw (
      sign_again 94 bytes c.0 c.1,
      name_again b.0 (word b.0 ∷ []) c.0 w.0 (s.1, refl) (w.0, w.1, refl),
      several_read 41 refl (argument_at n) 40 b.1 s.0 w.0 d.0 (arguments_read n b.1 s.0 s.2 le) d.1,
      sign_again 58 d.0 end.0 end.1,
    ) (ap (λ (r : List ℕ). done (b, r)) end.2)

record HeadRead (n : ℕ) (h : Head) (bytes rest : List ℕ) : Type 0 where
  kind : BodyKind
  behind : List ℕ
  id : start_at bytes ≡ Ok (([], Bodied kind), behind)
  reads : head_at n kind behind ≡ Ok (h, rest)

head_again : (h : Head) (ts : List Token) (n : ℕ) (bytes rest : List ℕ) → SpellsHead h ts → head_levels h ≤ n →
    Begins bytes ts rest → HeadRead n h bytes rest
unfolding head_at
head_again (module_head w) ts n bytes rest s le b =
    let c = subst (λ y. Begins bytes y rest) s.1 b in
    record {
      kind = Module;
      behind = c.0;
      id = module_id bytes c.0 c.1;
      reads =
          rw (symbol_again w c.0 rest s.0 c.2) refl;
    }
head_again (func_head w t) ts n bytes rest s le b =
    let c = subst (λ y. Begins bytes y rest) s.3 b in
    let d = Begins-split (symbol w) (sign 58 ∷ s.0) c.0 rest c.2 in
    let e = d.2 in
    record {
      kind = Func;
      behind = c.0;
      id = func_id bytes c.0 c.1;
      reads =
          rw (symbol_again w c.0 d.0 s.1 d.1, sign_again 58 d.0 e.0 e.1, type_again t s.0 n e.0 rest s.2 le e.2) refl;
    }

header_is : (n : ℕ) (k : BodyKind) (bytes rest end : List ℕ) (h : Head) (es : EntryTerms) →
    head_at n k bytes ≡ Ok (h, rest) → dictionary_at n rest ≡ Ok (es, end) → header_at n k bytes ≡ Ok ((h, es), end)
unfolding header_at
header_is n k bytes rest end h es p q = rw (p, q) refl

pub record HeaderRead (n : ℕ) (h : Header) (bytes rest : List ℕ) : Type 0 where
  pub kind : BodyKind
  pub behind : List ℕ
  pub id : start_at bytes ≡ Ok (([], Bodied kind), behind)
  pub reads : header_at n kind behind ≡ Ok (h, rest)

-- a brace stands behind a header
pub header_again : (h : Header) (ts : List Token) (n : ℕ) (bytes rest start : List ℕ) → SpellsHeader h ts →
    header_levels h ≤ n → Begins bytes ts rest → look rest ≡ Ok (sign 123, start) → HeaderRead n h bytes rest
header_again h ts n bytes rest start s le b brace =
    let c = Begins-split s.0 s.1 bytes rest (subst (λ y. Begins bytes y rest) s.4 b) in
    let r = head_again h.0 s.0 n bytes c.0 s.2 (omega (arith, le)) c.1 in
    let d = dictionary_again n h.1 s.1 c.0 rest start s.3 (omega (arith, le)) c.2 brace in
    record {
      kind = r.kind;
      behind = r.behind;
      id = r.id;
      reads = header_is n r.kind r.behind c.0 rest h.0 h.1 r.reads d;
    }

-- ---- what comes next

-- a word comes next
pub record StartsWord (bytes : List ℕ) : Type 0 where
  pub text : List ℕ
  pub rest : List ℕ
  pub is : look bytes ≡ Ok (word text, rest)

pub goes_on_word : (bytes : List ℕ) → StartsWord bytes → ends_block bytes ≡ false
unfolding ends_block
goes_on_word bytes s =
    rw (no_sign 94 bytes (word s.text, s.rest) s.is refl, no_sign 125 bytes (word s.text, s.rest) s.is refl) refl

-- a block ends here
pub record Ends (bytes : List ℕ) : Type 0 where
  pub ends : ends_block bytes ≡ true
  pub no_more : past_sign 59 bytes ≡ None
  pub no_region : past_sign 123 bytes ≡ None

pub ends_brace : (bytes rest : List ℕ) → look bytes ≡ Ok (sign 125, rest) → Ends bytes
unfolding ends_block
ends_brace bytes rest e = record {
  ends = rw (no_sign 94 bytes (sign 125, rest) e refl, past_sign_again 125 bytes rest e) refl;
  no_more = no_sign 59 bytes (sign 125, rest) e refl;
  no_region = no_sign 123 bytes (sign 125, rest) e refl;
}

pub ends_caret : (bytes rest : List ℕ) → look bytes ≡ Ok (sign 94, rest) → Ends bytes
unfolding ends_block
ends_caret bytes rest e = record {
  ends = rw (past_sign_again 94 bytes rest e) refl;
  no_more = no_sign 59 bytes (sign 94, rest) e refl;
  no_region = no_sign 123 bytes (sign 94, rest) e refl;
}

-- the head of a block begins with its sign
pub caret_comes : (b : BlockHead) (head more : List Token) (bytes rest : List ℕ) → SpellsBlockHead b head →
    Begins bytes (head ++ more) rest → (behind : List ℕ) × (look bytes ≡ Ok (sign 94, behind))
caret_comes b head more bytes rest s f = let c = subst (λ (y : List Token). Begins bytes (y ++ more) rest) s.3 f in
    (c.0, c.1)

pub no_semicolon : (bytes : List ℕ) → past_sign 59 bytes ≡ None → semicolon_at bytes ≡ Ok (false, bytes)
unfolding semicolon_at
no_semicolon bytes e = rw e refl

pub semicolon_again : (bytes rest : List ℕ) → look bytes ≡ Ok (sign 59, rest) → semicolon_at bytes ≡ Ok (true, rest)
unfolding semicolon_at
semicolon_again bytes rest e = rw (past_sign_again 59 bytes rest e) refl

pub brace_again : (bytes rest : List ℕ) → look bytes ≡ Ok (sign 125, rest) → brace_at bytes ≡ Ok (false, rest)
unfolding brace_at
brace_again bytes rest e = rw (past_sign_again 125 bytes rest e) refl

pub no_brace_yet : (bytes rest : List ℕ) → look bytes ≡ Ok (sign 94, rest) → brace_at bytes ≡ Ok (true, bytes)
unfolding brace_at
no_brace_yet bytes rest e = rw (no_sign 125 bytes (sign 94, rest) e refl) refl
