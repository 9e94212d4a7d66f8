-- Operations that stand there are read.
use Rattle.std.proofs.Common.{◌≡◌, ℕ, zero, suc, ◌<◌, ◌≤◌, true, false, List, [], ◌∷◌, ◌++◌, length, codes, None}
use Rattle.std.proofs.Common.{Result, Ok, refl, sym, ap, subst, ◌∙◌, arith, append_assoc}
use Rattle.plir_data.specs.Identifier.{is_identifier}
use Rattle.plir_attr_text.specs.declared.fault.Fault.{Fault}
use Rattle.plir_attr_text.specs.Tokens.{Token, word, sign, look, Begins}
use Rattle.plir_attr_text.specs.AttrGrammar.{SpellsMore, SpellsSeveral}
use Rattle.plir_attr_text.specs.laws.ListsAgain.{IsRead, several_read, word_opens}
use Rattle.plir_attr_text.specs.Terms.{AttrTerm, TypeTerm, levels, type_levels}
use Rattle.plir_attr_text.specs.TypeGrammar.{enclosed}
use Rattle.plir_attr_text.specs.Lists.{sign_at, past_sign, more_at}
use Rattle.plir_attr_text.specs.AttrReading.{name_at}
use Rattle.plir_attr_text.specs.laws.StepLaws.{done}
use Rattle.plir_attr_text.specs.laws.Begun.{Begins-split, Begins-length, Takes-shorter, sign_again, past_sign_again}
use Rattle.plir_attr_text.specs.laws.Begun.{no_sign}
use Rattle.plir_attr_text.specs.laws.LeavesAgain.{name_again}
use Rattle.plir_attr_text.specs.laws.TypesAgain.{type_again}
use Rattle.plir_read.specs.laws.OpFound.{block_head-length}
use Rattle.plir_read.specs.OpTerms.{Head, module_head, func_head, Header, Argument, BlockHead, OpTerm, op_term}
use Rattle.plir_read.specs.OpTerms.{constant_term, BlockTerms, no_blocks, block_before, OpTerms, no_ops, op_before}
use Rattle.plir_read.specs.OpTerms.{BlockTerm, ops_of, blocks_of, head_levels, header_levels, arguments_levels}
use Rattle.plir_read.specs.OpTerms.{block_levels, op_levels, ops_levels, blocks_levels}
use Rattle.plir_read.specs.OpGrammar.{symbol, typed_value, SpellsHead, SpellsHeader, SpellsArgument, SpellsBlockHead}
use Rattle.plir_read.specs.OpGrammar.{SpellsOp, SpellsOps, SpellsMoreOps, SpellsBlocks, OpWithin}
use Rattle.plir_read.specs.OpReading.{start_at, named, symbol_at, argument_at, block_head_at, head_at, header_at}
use Rattle.plir_read.specs.OpReading.{ends_block, semicolon_at, brace_at, ops_at, block_at, blocks_at, constant_at}
use Rattle.plir_read.specs.OpReading.{named_constant_at, bodied_at, op_at}
use Rattle.plir_read.specs.declared.heads.HeadKind.TheVariants.{Bodied, Constant}
use Rattle.plir_read.specs.declared.heads.BodyKind.{BodyKind}
use Rattle.plir_read.specs.declared.heads.BodyKind.TheVariants.{Module, Func}
use Rattle.plir_read.specs.laws.Dictionaries.{dictionary_again}
use Rattle.plir_read.proofs.OpSteps.{header_is}
use Rattle.plir_read.proofs.StartAgain.{last_again, next_again, module_id, func_id, constant_starts, constant_again}

-- the operations and the blocks, as lists
abbrev pub op_list : OpTerms → List OpTerm
op_list no_ops = []
op_list (op_before o os) = o ∷ op_list os

abbrev pub block_list : BlockTerms → List BlockTerm
block_list no_blocks = []
block_list (block_before w os bs) = (w, op_list os) ∷ block_list bs

ops_of-list : (os : OpTerms) → ops_of (op_list os) ≡ os
ops_of-list no_ops = refl
ops_of-list (op_before o os) = ap (op_before o) (ops_of-list os)

blocks_of-list : (bs : BlockTerms) → blocks_of (block_list bs) ≡ bs
blocks_of-list no_blocks = refl
blocks_of-list (block_before w os bs) = ap (λ x. block_before w x (blocks_of (block_list bs))) (ops_of-list os) ∙
    ap (block_before w os) (blocks_of-list bs)

-- ---- headers

named_again : (b : ℕ) (w bytes rest : List ℕ) → is_identifier w ≡ true → Begins bytes (sign b ∷ word w ∷ []) rest →
    (start : List ℕ) × (sign_at b bytes ≡ Ok start) × (name_at start ≡ Ok (w, rest))
named_again b w bytes rest f h = (h.0, sign_again b bytes h.0 h.1, name_again w (word w ∷ []) h.0 rest (f, refl) h.2)

symbol_again : (w bytes rest : List ℕ) → is_identifier w ≡ true → Begins bytes (symbol w) rest →
    symbol_at bytes ≡ Ok (w, rest)
unfolding symbol_at
symbol_again w bytes rest f h = let n = named_again 64 w bytes rest f h in rw (n.1) n.2

argument_again : (n : ℕ) (a : Argument) (ts : List Token) (bytes rest : List ℕ) → SpellsArgument a ts →
    type_levels a.1 ≤ n → Begins bytes ts rest → argument_at n bytes ≡ Ok (a, rest)
unfolding argument_at
argument_again n a ts bytes rest s le b =
    let c = subst (λ (y : List Token). Begins bytes y rest) s.3 b in
    let d = c.2 in
    rw (
      name_again a.0 (word a.0 ∷ []) bytes c.0 (s.1, refl) (c.0, c.1, refl),
      sign_again 58 c.0 d.0 d.1,
      type_again a.1 s.0 n d.0 rest s.2 le d.2,
    ) refl

argument_read : (n : ℕ) (a : Argument) (ts : List Token) → SpellsArgument a ts → type_levels a.1 ≤ n →
    IsRead 41 (argument_at n) a ts
argument_read n a ts s le = record {
  reads = λ bytes rest b. argument_again n a ts bytes rest s le b;
  opens = λ bytes rest b. word_opens 41 a.0 (sign 58 ∷ s.0) bytes rest
      (subst (λ (y : List Token). Begins bytes y rest) s.3 b);
}

more_arguments_read : (n : ℕ) (as_ : List Argument) (ts : List Token) → SpellsMore SpellsArgument as_ ts →
    arguments_levels as_ ≤ n → SpellsMore (IsRead 41 (argument_at n)) as_ ts
more_arguments_read n [] ts h le = h
more_arguments_read n (a ∷ as_) ts h le =
    (h.0, h.1, argument_read n a h.0 h.2 (omega arith), more_arguments_read n as_ h.1 h.3 (omega arith), h.4)

arguments_read : (n : ℕ) (as_ : List Argument) (ts : List Token) → SpellsSeveral SpellsArgument as_ ts →
    arguments_levels as_ ≤ n → SpellsSeveral (IsRead 41 (argument_at n)) as_ ts
arguments_read n [] ts h le = h
arguments_read n (a ∷ as_) ts h le =
    (h.0, h.1, argument_read n a h.0 h.2 (omega arith), more_arguments_read n as_ h.1 h.3 (omega arith), h.4)

block_head_again : (n : ℕ) (b : BlockHead) (ts : List Token) (bytes rest : List ℕ) → SpellsBlockHead b ts →
    block_levels b ≤ n → Begins bytes ts rest → block_head_at n bytes ≡ Ok (b, rest)
unfolding block_head_at
block_head_again n b ts bytes rest s le f =
    let c = subst (λ (y : List Token). Begins bytes y rest) s.3 f in
    let w = c.2 in
    let d = Begins-split (enclosed 40 s.0 41) (sign 58 ∷ []) w.0 rest w.2 in
    let end = d.2 in
    rw (
      sign_again 94 bytes c.0 c.1,
      name_again b.0 (word b.0 ∷ []) c.0 w.0 (s.1, refl) (w.0, w.1, refl),
      several_read 41 refl (argument_at n) 40 b.1 s.0 w.0 d.0 (arguments_read n b.1 s.0 s.2 le) d.1,
      sign_again 58 d.0 end.0 end.1,
    ) (ap (λ (r : List ℕ). done (b, r)) end.2)

record HeadRead (n : ℕ) (h : Head) (bytes rest : List ℕ) : Type 0 where
  kind : BodyKind
  behind : List ℕ
  id : start_at bytes ≡ Ok (([], Bodied kind), behind)
  reads : head_at n kind behind ≡ Ok (h, rest)

head_again : (h : Head) (ts : List Token) (n : ℕ) (bytes rest : List ℕ) → SpellsHead h ts → head_levels h ≤ n →
    Begins bytes ts rest → HeadRead n h bytes rest
unfolding head_at
head_again (module_head w) ts n bytes rest s le b =
    let c = subst (λ y. Begins bytes y rest) s.1 b in
    record {
      kind = Module;
      behind = c.0;
      id = module_id bytes c.0 c.1;
      reads =
          rw (symbol_again w c.0 rest s.0 c.2) refl;
    }
head_again (func_head w t) ts n bytes rest s le b =
    let c = subst (λ y. Begins bytes y rest) s.3 b in
    let d = Begins-split (symbol w) (sign 58 ∷ s.0) c.0 rest c.2 in
    let e = d.2 in
    record {
      kind = Func;
      behind = c.0;
      id = func_id bytes c.0 c.1;
      reads =
          rw (symbol_again w c.0 d.0 s.1 d.1, sign_again 58 d.0 e.0 e.1, type_again t s.0 n e.0 rest s.2 le e.2) refl;
    }

record HeaderRead (n : ℕ) (h : Header) (bytes rest : List ℕ) : Type 0 where
  kind : BodyKind
  behind : List ℕ
  id : start_at bytes ≡ Ok (([], Bodied kind), behind)
  reads : header_at n kind behind ≡ Ok (h, rest)

-- a brace stands behind a header
header_again : (h : Header) (ts : List Token) (n : ℕ) (bytes rest start : List ℕ) → SpellsHeader h ts →
    header_levels h ≤ n → Begins bytes ts rest → look rest ≡ Ok (sign 123, start) → HeaderRead n h bytes rest
header_again h ts n bytes rest start s le b brace =
    let c = Begins-split s.0 s.1 bytes rest (subst (λ y. Begins bytes y rest) s.4 b) in
    let r = head_again h.0 s.0 n bytes c.0 s.2 (omega (arith, le)) c.1 in
    let d = dictionary_again n h.1 s.1 c.0 rest start s.3 (omega (arith, le)) c.2 brace in
    record {
      kind = r.kind;
      behind = r.behind;
      id = r.id;
      reads =
          header_is n r.kind r.behind c.0 rest h.0 h.1 r.reads d;
    }

-- ---- what comes next

-- a word comes next
pub record StartsWord (bytes : List ℕ) : Type 0 where
  pub text : List ℕ
  pub rest : List ℕ
  pub is : look bytes ≡ Ok (word text, rest)

op_starts : (o : OpTerm) (ts : List Token) (bytes rest : List ℕ) → SpellsOp o ts → Begins bytes ts rest →
    StartsWord bytes
op_starts (constant_term w a t) ts bytes rest s b = let c = subst (λ y. Begins bytes y rest) s.5 b in
    record { text = w; rest = c.0; is = c.1 }
op_starts (op_term h bs) ts bytes rest s b =
    let c = Begins-split s.0 (enclosed 123 s.1 125) bytes rest (subst (λ y. Begins bytes y rest) s.4 b) in
    let d = Begins-split s.2.0 s.2.1 bytes c.0 (subst (λ y. Begins bytes y c.0) s.2.4 c.1) in
    at h.0 s.2.0 s.2.2 d.0 d.1
  where
    at : (h : Head) (hs : List Token) → SpellsHead h hs → (mid : List ℕ) → Begins bytes hs mid → StartsWord bytes
    at (module_head w) hs p mid q = let d = subst (λ y. Begins bytes y mid) p.1 q in
        record { text = codes "builtin.module"; rest = d.0; is = d.1 }
    at (func_head w t) hs p mid q = let d = subst (λ y. Begins bytes y mid) p.3 q in
        record { text = codes "builtin.func"; rest = d.0; is = d.1 }

goes_on_word : (bytes : List ℕ) → StartsWord bytes → ends_block bytes ≡ false
unfolding ends_block
goes_on_word bytes s =
    rw (no_sign 94 bytes (word s.text, s.rest) s.is refl, no_sign 125 bytes (word s.text, s.rest) s.is refl) refl

-- a block ends here
record Ends (bytes : List ℕ) : Type 0 where
  ends : ends_block bytes ≡ true
  no_more : past_sign 59 bytes ≡ None

ends_brace : (bytes rest : List ℕ) → look bytes ≡ Ok (sign 125, rest) → Ends bytes
unfolding ends_block
ends_brace bytes rest e = record {
  ends = rw (no_sign 94 bytes (sign 125, rest) e refl, past_sign_again 125 bytes rest e) refl;
  no_more = no_sign 59 bytes (sign 125, rest) e refl;
}

ends_caret : (bytes rest : List ℕ) → look bytes ≡ Ok (sign 94, rest) → Ends bytes
unfolding ends_block
ends_caret bytes rest e = record {
  ends = rw (past_sign_again 94 bytes rest e) refl;
  no_more = no_sign 59 bytes (sign 94, rest) e refl;
}

-- the head of a block begins with its sign
caret_comes : (b : BlockHead) (head more : List Token) (bytes rest : List ℕ) → SpellsBlockHead b head →
    Begins bytes (head ++ more) rest → (behind : List ℕ) × (look bytes ≡ Ok (sign 94, behind))
caret_comes b head more bytes rest s f = let c = subst (λ (y : List Token). Begins bytes (y ++ more) rest) s.3 f in
    (c.0, c.1)

-- what stands behind a block of a body
ends_at : (bs : BlockTerms) (more : List Token) (bytes rest : List ℕ) → SpellsBlocks bs more →
    Begins bytes (more ++ sign 125 ∷ []) rest → Ends bytes
ends_at no_blocks more bytes rest s b = let c =
    subst (λ (y : List Token). Begins bytes (y ++ sign 125 ∷ []) rest) s b in ends_brace bytes c.0 c.1
ends_at (block_before h os bs) more bytes rest s b =
    let c = subst (λ (y : List Token). Begins bytes (y ++ sign 125 ∷ []) rest) s.6 b in
    let d = subst (λ (y : List Token). Begins bytes y rest) (append_assoc s.0 (s.1 ++ s.2) (sign 125 ∷ [])) c in
    let e = caret_comes h s.0 ((s.1 ++ s.2) ++ sign 125 ∷ []) bytes rest s.3 d in
    ends_caret bytes e.0 e.1

no_semicolon : (bytes : List ℕ) → past_sign 59 bytes ≡ None → semicolon_at bytes ≡ Ok (false, bytes)
unfolding semicolon_at
no_semicolon bytes e = rw e refl

semicolon_again : (bytes rest : List ℕ) → look bytes ≡ Ok (sign 59, rest) → semicolon_at bytes ≡ Ok (true, rest)
unfolding semicolon_at
semicolon_again bytes rest e = rw (past_sign_again 59 bytes rest e) refl

brace_again : (bytes rest : List ℕ) → look bytes ≡ Ok (sign 125, rest) → brace_at bytes ≡ Ok (false, rest)
unfolding brace_at
brace_again bytes rest e = rw (past_sign_again 125 bytes rest e) refl

no_brace_yet : (bytes rest : List ℕ) → look bytes ≡ Ok (sign 94, rest) → brace_at bytes ≡ Ok (true, bytes)
unfolding brace_at
no_brace_yet bytes rest e = rw (no_sign 125 bytes (sign 94, rest) e refl) refl

-- ---- operations

op_behind : (n : ℕ) (h : Header) (bs : BlockTerms) (bytes mid rest : List ℕ) → HeaderRead n h bytes mid →
    blocks_at (op_at n) n mid ≡ Ok (block_list bs, rest) → op_at (suc n) bytes ≡ Ok (op_term h bs, rest)
unfolding op_at bodied_at named
op_behind n h bs bytes mid rest r e = rw (r.id, r.reads, e) (ap (λ x. done (op_term h x, rest)) (blocks_of-list bs))

constant_behind : (n : ℕ) (w : List ℕ) (a : AttrTerm) (t : TypeTerm) (bytes mid rest : List ℕ) →
    start_at bytes ≡ Ok ((w ∷ [], Constant), mid) → constant_at n mid ≡ Ok ((a, t), rest) →
    op_at (suc n) bytes ≡ Ok (constant_term w a t, rest)
unfolding op_at named_constant_at named
constant_behind n w a t bytes mid rest p q = rw (p, q) refl

bodiless : (read : List ℕ → Result (OpTerm × List ℕ) Fault) (n : ℕ) (bytes start rest : List ℕ) →
    look bytes ≡ Ok (sign 123, start) → look start ≡ Ok (sign 125, rest) → blocks_at read n bytes ≡ Ok ([], rest)
unfolding blocks_at
bodiless read n bytes start rest p q = rw (sign_again 123 bytes start p, past_sign_again 125 start rest q) refl

bodied : (read : List ℕ → Result (OpTerm × List ℕ) Fault) (n : ℕ) (bytes start next rest : List ℕ)
    (bs : List BlockTerm) → look bytes ≡ Ok (sign 123, start) → look start ≡ Ok (sign 94, next) →
    more_at brace_at (block_at read n) (suc (length start)) start ≡ Ok (bs, rest) →
    blocks_at read n bytes ≡ Ok (bs, rest)
unfolding blocks_at
bodied read n bytes start next rest bs p q e =
    rw (sign_again 123 bytes start p, no_sign 125 start (sign 94, next) q refl) e

block_behind : (read : List ℕ → Result (OpTerm × List ℕ) Fault) (n : ℕ) (w : BlockHead) (bytes mid rest : List ℕ)
    (os : List OpTerm) → block_head_at n bytes ≡ Ok (w, mid) → ops_at read mid ≡ Ok (os, rest) →
    block_at read n bytes ≡ Ok ((w, os), rest)
unfolding block_at
block_behind read n w bytes mid rest os p q = rw (p, q) refl

no_ops_again : (read : List ℕ → Result (OpTerm × List ℕ) Fault) (bytes : List ℕ) → Ends bytes →
    ops_at read bytes ≡ Ok ([], bytes)
unfolding ops_at
no_ops_again read bytes e = rw (e.ends) refl

ops_behind : (read : List ℕ → Result (OpTerm × List ℕ) Fault) (bytes rest : List ℕ) (os : List OpTerm) →
    StartsWord bytes → more_at semicolon_at read (suc (length bytes)) bytes ≡ Ok (os, rest) →
    ops_at read bytes ≡ Ok (os, rest)
unfolding ops_at
ops_behind read bytes rest os s e = rw (goes_on_word bytes s) e

-- some operation, and some block
abbrev SomeOp : OpTerms → Type 0
SomeOp no_ops = ⊥
SomeOp (op_before o os) = Unit {0}

abbrev SomeBlock : BlockTerms → Type 0
SomeBlock no_blocks = ⊥
SomeBlock (block_before w os bs) = Unit {0}

-- an operation is read, operations are read one behind another, those of a block are read, and so are blocks
abbrev OpRead : ℕ → OpTerm → Type 0
OpRead n o = (ts : List Token) (bytes rest : List ℕ) → SpellsOp o ts → Begins bytes ts rest →
    op_at n bytes ≡ Ok (o, rest)

abbrev SeveralRead : ℕ → OpTerms → Type 0
SeveralRead n os = (ts : List Token) (m : ℕ) (bytes rest : List ℕ) → SomeOp os → SpellsOps os ts → Ends rest →
    length bytes < m → Begins bytes ts rest → more_at semicolon_at (op_at n) m bytes ≡ Ok (op_list os, rest)

abbrev OpsRead : ℕ → OpTerms → Type 0
OpsRead n os = (ts : List Token) (bytes rest : List ℕ) → SpellsOps os ts → Ends rest → Begins bytes ts rest →
    ops_at (op_at n) bytes ≡ Ok (op_list os, rest)

abbrev BlocksRead : ℕ → BlockTerms → Type 0
BlocksRead n bs = (ts : List Token) (m : ℕ) (bytes rest : List ℕ) → SomeBlock bs → SpellsBlocks bs ts →
    length bytes < m → Begins bytes (ts ++ sign 125 ∷ []) rest →
    more_at brace_at (block_at (op_at n) n) m bytes ≡ Ok (block_list bs, rest)

one_op : (n : ℕ) (o : OpTerm) (os : OpTerms) → OpRead n o → SeveralRead n os →
    (first more : List Token) (m : ℕ) (bytes rest : List ℕ) → SpellsOp o first → SpellsMoreOps os more → Ends rest →
    length bytes < m → Begins bytes (first ++ more) rest
    → more_at semicolon_at (op_at n) m bytes ≡ Ok (o ∷ op_list os, rest)
one_op n o no_ops op several first more m bytes rest s q e lt b =
    let d = Begins-split first more bytes rest b in
    let k : d.0 ≡ rest = subst (λ y. Begins d.0 y rest) q d.2 in
    last_again semicolon_at (op_at n) m o bytes rest rest lt
    (op first bytes rest s (subst (λ (z : List ℕ). Begins bytes first z) k d.1)) (no_semicolon rest e.no_more)
one_op n o (op_before o' os) op several first more m bytes rest s q e lt b =
    let d = Begins-split first more bytes rest b in
    let k = subst (λ y. Begins d.0 y rest) q.4 d.2 in
    next_again semicolon_at (op_at n) m o (o' ∷ op_list os) bytes d.0 k.0 rest lt (op first bytes d.0 s d.1)
    (semicolon_again d.0 k.0 k.1)
    (omega (arith, Begins-length first bytes d.0 d.1, Takes-shorter d.0 (sign 59) k.0 k.1))
    (λ j less. several (q.0 ++ q.1) j k.0 rest tt (q.0, q.1, q.2, q.3, refl) e less k.2)

one_block : (n : ℕ) (h : BlockHead) (os : OpTerms) (bs : BlockTerms) → OpsRead n os → BlocksRead n bs →
    (head ops more : List Token) (m : ℕ) (bytes rest : List ℕ) → SpellsBlockHead h head → block_levels h ≤ n →
    SpellsOps os ops → SpellsBlocks bs more → length bytes < m
    → Begins bytes ((head ++ (ops ++ more)) ++ sign 125 ∷ []) rest →
    more_at brace_at (block_at (op_at n) n) m bytes ≡ Ok (block_list (block_before h os bs), rest)
one_block n h os no_blocks inside blocks head ops more m bytes rest f fits p q lt b =
    let c = Begins-split (head ++ (ops ++ more)) (sign 125 ∷ []) bytes rest b in
    let d = Begins-split head (ops ++ more) bytes c.0 c.1 in
    let g = Begins-split ops more d.0 c.0 d.2 in
    let same : g.0 ≡ c.0 = subst (λ (y : List Token). Begins g.0 y c.0) q g.2 in
    let k = c.2 in
    let at_end = subst (λ (z : List ℕ). Begins d.0 ops z) same g.1 in
    last_again brace_at (block_at (op_at n) n) m (h, op_list os) bytes c.0 rest lt
    (block_behind (op_at n) n h bytes d.0 c.0 (op_list os) (block_head_again n h head bytes d.0 f fits d.1)
    (inside ops d.0 c.0 p (ends_brace c.0 k.0 k.1) at_end))
    (brace_again c.0 k.0 k.1 ∙ ap (λ (r : List ℕ). done (false, r)) k.2)
one_block n h os (block_before h' os' bs) inside blocks head ops more m bytes rest f fits p q lt b =
    let c = Begins-split head ((ops ++ more) ++ sign 125 ∷ []) bytes rest
    (subst (λ (y : List Token). Begins bytes y rest) (append_assoc head (ops ++ more) (sign 125 ∷ [])) b) in
    let d = Begins-split ops (more ++ sign 125 ∷ []) c.0 rest
    (subst (λ (y : List Token). Begins c.0 y rest) (append_assoc ops more (sign 125 ∷ [])) c.2) in
    let tokens = subst (λ (y : List Token). Begins d.0 (y ++ sign 125 ∷ []) rest) q.6 d.2 in
    let e = caret_comes h' q.0 ((q.1 ++ q.2) ++ sign 125 ∷ []) d.0 rest q.3
    (subst (λ (y : List Token). Begins d.0 y rest) (append_assoc q.0 (q.1 ++ q.2) (sign 125 ∷ [])) tokens) in
    let first = caret_comes h head ((ops ++ more) ++ sign 125 ∷ []) bytes rest f
    (subst (λ (y : List Token). Begins bytes y rest) (append_assoc head (ops ++ more) (sign 125 ∷ [])) b) in
    next_again brace_at (block_at (op_at n) n) m (h, op_list os) (block_list (block_before h' os' bs)) bytes d.0 d.0
    rest lt
    (block_behind (op_at n) n h bytes c.0 d.0 (op_list os) (block_head_again n h head bytes c.0 f fits c.1)
    (inside ops c.0 d.0 p (ends_caret d.0 e.0 e.1) d.1))
    (no_brace_yet d.0 e.0 e.1)
    (omega (arith, block_head-length h head f, Begins-length head bytes c.0 c.1, Begins-length ops c.0 d.0 d.1))
    (λ k less. blocks more k d.0 rest tt q less d.2)

-- a constant is read
constant_read : (n : ℕ) (w : List ℕ) (a : AttrTerm) (t : TypeTerm) → levels a ≤ n → type_levels t ≤ n →
    OpRead (suc n) (constant_term w a t)
constant_read n w a t le fits ts bytes rest s b =
    let start = word w ∷ sign 61 ∷ word (codes "builtin.constant") ∷ [] in
    let c = Begins-split start (typed_value s.0 s.1) bytes rest (subst (λ y. Begins bytes y rest) s.5 b) in
    constant_behind n w a t bytes c.0 rest (constant_starts w bytes c.0 s.2 c.1)
    (constant_again n a t s.0 s.1 c.0 rest s.3 s.4 le fits c.2)

mutual
  pub op_again : (o : OpTerm) (n : ℕ) → op_levels o ≤ n → OpRead n o
  op_again (constant_term w a t) zero le ts bytes rest s b = absurd (omega arith)
  op_again (constant_term w a t) (suc n) le ts bytes rest s b =
      constant_read n w a t (omega arith) (omega arith) ts bytes rest s b
  op_again (op_term h bs) zero le ts bytes rest s b = absurd (omega arith)
  op_again (op_term h bs) (suc n) le ts bytes rest s b =
      let c = Begins-split s.0 (enclosed 123 s.1 125) bytes rest (subst (λ y. Begins bytes y rest) s.4 b) in
      op_behind n h bs bytes c.0 rest (header_again h s.0 n bytes c.0 c.2.0 s.2 (omega arith) c.1 c.2.1)
      (body_again bs n (omega arith) s.1 c.0 rest s.3 c.2)

  body_again : (bs : BlockTerms) (n : ℕ) → blocks_levels bs ≤ n → (ts : List Token) (bytes rest : List ℕ) →
      SpellsBlocks bs ts → Begins bytes (enclosed 123 ts 125) rest →
      blocks_at (op_at n) n bytes ≡ Ok (block_list bs, rest)
  body_again no_blocks n le ts bytes rest s b =
      let c = subst (λ y. Begins bytes (enclosed 123 y 125) rest) s b in
      let d = c.2 in
      bodiless (op_at n) n bytes c.0 rest c.1 (d.1 ∙ ap (λ (r : List ℕ). done (sign 125, r)) d.2)
  body_again (block_before h os bs) n le ts bytes rest s b =
      let c = subst (λ (y : List Token). Begins b.0 (y ++ sign 125 ∷ []) rest) s.6 b.2 in
      let d = caret_comes h s.0 ((s.1 ++ s.2) ++ sign 125 ∷ []) b.0 rest s.3
      (subst (λ (y : List Token). Begins b.0 y rest) (append_assoc s.0 (s.1 ++ s.2) (sign 125 ∷ [])) c) in
      bodied (op_at n) n bytes b.0 d.0 rest (block_list (block_before h os bs)) b.1 d.1
      (one_block n h os bs (ops_again os n (omega arith)) (blocks_again bs n (omega arith)) s.0 s.1 s.2
      (suc (length b.0)) b.0 rest s.3 (omega arith) s.4 s.5 (omega arith) c)

  blocks_again : (bs : BlockTerms) (n : ℕ) → blocks_levels bs ≤ n → BlocksRead n bs
  blocks_again no_blocks n le ts m bytes rest some s lt b = absurd some
  blocks_again (block_before h os bs) n le ts m bytes rest some s lt b =
      one_block n h os bs (ops_again os n (omega arith)) (blocks_again bs n (omega arith)) s.0 s.1 s.2 m bytes rest s.3
      (omega arith) s.4 s.5 lt (subst (λ (y : List Token). Begins bytes (y ++ sign 125 ∷ []) rest) s.6 b)

  ops_again : (os : OpTerms) (n : ℕ) → ops_levels os ≤ n → OpsRead n os
  ops_again no_ops n le ts bytes rest s e b =
      let c : bytes ≡ rest = subst (λ y. Begins bytes y rest) s b in
      subst (λ (r : List ℕ). ops_at (op_at n) bytes ≡ Ok ([], r)) c
      (no_ops_again (op_at n) bytes (subst Ends (sym c) e))
  ops_again (op_before o os) n le ts bytes rest s e b =
      let c = subst (λ y. Begins bytes y rest) s.4 b in
      let d = Begins-split s.0 s.1 bytes rest c in
      ops_behind (op_at n) bytes rest (o ∷ op_list os) (op_starts o s.0 bytes d.0 s.2 d.1)
      (one_op n o os (op_again o n (omega arith)) (several_again os n (omega arith)) s.0 s.1 (suc (length bytes))
      bytes rest s.2 s.3 e (omega arith) c)

  several_again : (os : OpTerms) (n : ℕ) → ops_levels os ≤ n → SeveralRead n os
  several_again no_ops n le ts m bytes rest some s e lt b = absurd some
  several_again (op_before o os) n le ts m bytes rest some s e lt b =
      one_op n o os (op_again o n (omega arith)) (several_again os n (omega arith)) s.0 s.1 m bytes rest s.2 s.3 e lt
      (subst (λ y. Begins bytes y rest) s.4 b)

pub op_within_again : (n : ℕ) (o : OpTerm) (ts : List Token) (bytes rest : List ℕ) → OpWithin n o ts →
    Begins bytes ts rest → op_at n bytes ≡ Ok (o, rest)
op_within_again n o ts bytes rest h b = op_again o n h.1 ts bytes rest h.0 b
