-- Operations that are read stand there.
use Rattle.std.proofs.Common.{◌≡◌, ℕ, zero, suc, ◌+◌, ◌<◌, ◌≤◌, Bool, true, false, List, [], ◌∷◌, ◌++◌, length, Option}
use Rattle.std.proofs.Common.{Some, None, Result, Ok, Err, refl, sym, ap, subst, ◌∙◌, arith, inl, inr, append_assoc}
use Rattle.std.proofs.Common.{length-append}
use Rattle.plir_data.specs.Identifier.{is_identifier}
use Rattle.plir_attr_text.specs.declared.fault.Fault.{Fault}
use Rattle.plir_attr_text.specs.declared.fault.Fault.TheVariants.{TooDeep}
use Rattle.plir_attr_text.specs.Steps.{◌>>=◌, read_as}
use Rattle.plir_attr_text.specs.Terms.{type_levels}
use Rattle.plir_attr_text.specs.Tokens.{Token, word, sign, look, Begins}
use Rattle.plir_attr_text.specs.AttrGrammar.{SpellsMore, SpellsSeveral}
use Rattle.plir_attr_text.specs.TypeGrammar.{enclosed}
use Rattle.plir_attr_text.specs.Lists.{sign_at, past_sign, more_at, unless_closed, items_at}
use Rattle.plir_attr_text.specs.TypeReading.{word_at, type_at}
use Rattle.plir_attr_text.specs.AttrReading.{name_at}
use Rattle.plir_attr_text.specs.laws.StepLaws.{chosen, bind_ok, done, ok_is}
use Rattle.plir_attr_text.specs.laws.Begun.{Begins-append, Begins-length, sign_found, past_sign_found}
use Rattle.plir_attr_text.specs.laws.ListsFound.{FoundOne, IsSound, After, Chain, several_found, items_found}
use Rattle.plir_attr_text.specs.laws.LeavesFound.{name_found}
use Rattle.plir_attr_text.specs.laws.TypesFound.{type_found}
use Rattle.plir_read.specs.OpTerms.{Head, module_head, func_head, Header, Argument, BlockHead, OpTerm, op_term}
use Rattle.plir_read.specs.OpTerms.{constant_term, BlockTerm, ops_of, blocks_of, head_levels, header_levels}
use Rattle.plir_read.specs.OpTerms.{arguments_levels, block_levels, ops_levels, blocks_levels}
use Rattle.plir_read.specs.OpGrammar.{symbol, SpellsHead, SpellsHeader, SpellsArgument, SpellsBlockHead, SpellsOp}
use Rattle.plir_read.specs.OpGrammar.{SpellsOps, SpellsMoreOps, SpellsBlocks, OpWithin, OpsWithin, BlockWithin}
use Rattle.plir_read.specs.OpReading.{start_at, named, first_name, symbol_at, argument_at, block_head_at, head_at}
use Rattle.plir_read.specs.OpReading.{dictionary_at, header_at, ends_block, behind_semicolon, semicolon_at}
use Rattle.plir_read.specs.OpReading.{behind_brace, brace_at, ops_at, block_at, blocks_at, constant_at}
use Rattle.plir_read.specs.OpReading.{named_constant_at, bodied_at, behind_id, op_at}
use Rattle.plir_read.specs.declared.heads.HeadKind.{HeadKind}
use Rattle.plir_read.specs.declared.heads.HeadKind.TheVariants.{Bodied, Constant, ForwardRef}
use Rattle.plir_read.specs.declared.heads.BodyKind.{BodyKind}
use Rattle.plir_read.specs.declared.heads.BodyKind.TheVariants.{Module, Func}
use Rattle.plir_read.specs.laws.Dictionaries.{dictionary_found}
use Rattle.plir_read.specs.laws.StartFound.{id_of, Opened, start_found, named_is, bare_id, named_id, constant_found}

-- ---- what parts them

abbrev pub by_semicolon : Bool → List Token
by_semicolon true = sign 59 ∷ []
by_semicolon false = []

abbrev pub by_brace : Bool → List Token
by_brace true = []
by_brace false = sign 125 ∷ []

pub semicolon_found : (bytes : List ℕ) (s : Bool × List ℕ) → semicolon_at bytes ≡ Ok s →
    Begins bytes (by_semicolon s.0) s.1
unfolding semicolon_at
semicolon_found bytes s e =
    subst (λ (y : Bool × List ℕ). Begins bytes (by_semicolon y.0) y.1) (ok_is _ s e) (at (past_sign 59 bytes) refl)
  where
    at : (o : Option (List ℕ)) → past_sign 59 bytes ≡ o →
        Begins bytes (by_semicolon (behind_semicolon bytes o).0) (behind_semicolon bytes o).1
    at (Some rest) e = (rest, past_sign_found 59 bytes rest e, refl)
    at None e = refl

pub brace_found : (bytes : List ℕ) (s : Bool × List ℕ) → brace_at bytes ≡ Ok s → Begins bytes (by_brace s.0) s.1
unfolding brace_at
brace_found bytes s e =
    subst (λ (y : Bool × List ℕ). Begins bytes (by_brace y.0) y.1) (ok_is _ s e) (at (past_sign 125 bytes) refl)
  where
    at : (o : Option (List ℕ)) → past_sign 125 bytes ≡ o →
        Begins bytes (by_brace (behind_brace bytes o).0) (behind_brace bytes o).1
    at (Some rest) e = (rest, past_sign_found 125 bytes rest e, refl)
    at None e = refl

-- ---- headers

-- a name behind a sign
record FoundNamed (b : ℕ) (bytes w rest : List ℕ) : Type 0 where
  formed : is_identifier w ≡ true
  begins : Begins bytes (sign b ∷ word w ∷ []) rest

named_found : (b : ℕ) (bytes start : List ℕ) (x : List ℕ × List ℕ) → sign_at b bytes ≡ Ok start → name_at start ≡ Ok x →
    FoundNamed b bytes x.0 x.1
named_found b bytes start x e f =
    let n = name_found start x f in
    record {
      formed = n.spelled.0;
      begins = (start, sign_found b bytes start e, subst (λ ts. Begins start ts x.1) n.spelled.1 n.begins);
    }

symbol_found : (bytes : List ℕ) (x : List ℕ × List ℕ) → symbol_at bytes ≡ Ok x → FoundNamed 64 bytes x.0 x.1
unfolding symbol_at
symbol_found bytes x e =
    let a = bind_ok (sign_at 64 bytes) (λ start. name_at start) x e in
    named_found 64 bytes a.0 x a.1 a.2

-- an argument
abbrev pub ArgumentWithin : ℕ → Argument → List Token → Type 0
ArgumentWithin n a ts = SpellsArgument a ts × (type_levels a.1 ≤ n)

pub argument_found : (n : ℕ) → IsSound (ArgumentWithin n) (argument_at n)
unfolding argument_at
argument_found n bytes x e =
    let a = bind_ok (name_at bytes) (λ w. sign_at 58 w.1 >>= λ colon. type_at n colon >>= λ t. Ok ((w.0, t.0), t.1)) x e
    in
    let b = bind_ok (sign_at 58 a.0.1) (λ colon. type_at n colon >>= λ t. Ok ((a.0.0, t.0), t.1)) x a.2 in
    let d = bind_ok (type_at n b.0) (λ t. Ok ((a.0.0, t.0), t.1)) x b.2 in
    let w = name_found bytes a.0 a.1 in
    let t = type_found n b.0 d.0 d.1 in
    let begins : Begins bytes (word a.0.0 ∷ sign 58 ∷ t.tokens) d.0.1 =
    Begins-append (word a.0.0 ∷ []) (sign 58 ∷ t.tokens) bytes a.0.1 d.0.1
    (subst (λ (ts : List Token). Begins bytes ts a.0.1) w.spelled.1 w.begins)
    (b.0, sign_found 58 a.0.1 b.0 b.1, t.begins) in
    let found : FoundOne (ArgumentWithin n) bytes (a.0.0, d.0.0) d.0.1 =
    record {
      tokens = word a.0.0 ∷ sign 58 ∷ t.tokens;
      begins = begins;
      spelled =
          ((t.tokens, w.spelled.0, t.spelled.0, refl), t.spelled.1);
    } in
    subst (λ (y : Argument × List ℕ). FoundOne (ArgumentWithin n) bytes y.0 y.1) (ok_is _ x d.2) found

more_arguments : (n : ℕ) (as_ : List Argument) (ts : List Token) → SpellsMore (ArgumentWithin n) as_ ts →
    SpellsMore SpellsArgument as_ ts × (arguments_levels as_ ≤ n)
more_arguments n [] ts h = (h, omega arith)
more_arguments n (a ∷ as_) ts h = let m = more_arguments n as_ h.1 h.3 in
    ((h.0, h.1, h.2.0, m.0, h.4), omega (arith, h.2.1, m.1))

several_arguments : (n : ℕ) (as_ : List Argument) (ts : List Token) → SpellsSeveral (ArgumentWithin n) as_ ts →
    SpellsSeveral SpellsArgument as_ ts × (arguments_levels as_ ≤ n)
several_arguments n [] ts h = (h, omega arith)
several_arguments n (a ∷ as_) ts h = let m = more_arguments n as_ h.1 h.3 in
    ((h.0, h.1, h.2.0, m.0, h.4), omega (arith, h.2.1, m.1))

pub argument_at-shorter : (n : ℕ) (bytes : List ℕ) (x : Argument × List ℕ) → argument_at n bytes ≡ Ok x →
    length x.1 < length bytes
argument_at-shorter n bytes x e =
    let f = argument_found n bytes x e in
    let k : 1 ≤ length f.tokens = rw (f.spelled.0.3) (omega arith) in
    omega (arith, Begins-length f.tokens bytes x.1 f.begins, k)

abbrev pub BlockHeadWithin : ℕ → BlockHead → List Token → Type 0
BlockHeadWithin n b ts = SpellsBlockHead b ts × (block_levels b ≤ n)

pub block_head_found : (n : ℕ) → IsSound (BlockHeadWithin n) (block_head_at n)
unfolding block_head_at
block_head_found n bytes x e =
    let a = bind_ok (sign_at 94 bytes)
    (λ start. name_at start >>= λ w. items_at 40 41 (argument_at n) w.1 >>= λ as_. sign_at 58 as_.1 >>=
    λ end. Ok ((w.0, as_.0), end)) x e in
    let m = bind_ok (name_at a.0)
    (λ w. items_at 40 41 (argument_at n) w.1 >>= λ as_. sign_at 58 as_.1 >>= λ end. Ok ((w.0, as_.0), end)) x a.2 in
    let i = bind_ok (items_at 40 41 (argument_at n) m.0.1) (λ as_. sign_at 58 as_.1 >>= λ end. Ok ((m.0.0, as_.0), end))
    x m.2 in
    let f = bind_ok (sign_at 58 i.0.1) (λ end. Ok ((m.0.0, i.0.0), end)) x i.2 in
    let g = named_found 94 bytes a.0 m.0 a.1 m.1 in
    let items = items_found (ArgumentWithin n) 41 (argument_at n) (argument_found n) 40 m.0.1 i.0 i.1 in
    let inside = several_arguments n i.0.0 items.tokens items.spelled in
    let behind : Begins m.0.1 (enclosed 40 items.tokens 41 ++ sign 58 ∷ []) f.0 =
    Begins-append (enclosed 40 items.tokens 41) (sign 58 ∷ []) m.0.1 i.0.1 f.0 items.begins
    (f.0, sign_found 58 i.0.1 f.0 f.1, refl) in
    let found : FoundOne (BlockHeadWithin n) bytes (m.0.0, i.0.0) f.0 = record {
      tokens = sign 94 ∷ word m.0.0 ∷ (enclosed 40 items.tokens 41 ++ sign 58 ∷ []);
      begins = Begins-append (sign 94 ∷ word m.0.0 ∷ []) (enclosed 40 items.tokens 41 ++ sign 58 ∷ []) bytes m.0.1 f.0
          g.begins behind;
      spelled = ((items.tokens, g.formed, inside.0, refl), inside.1);
    } in
    subst (λ (y : BlockHead × List ℕ). FoundOne (BlockHeadWithin n) bytes y.0 y.1) (ok_is _ x f.2) found

abbrev pub HeadWithin : ℕ → Head → List Token → Type 0
HeadWithin n h ts = SpellsHead h ts × (head_levels h ≤ n)

head_found : (n : ℕ) (k : BodyKind) (bytes rest : List ℕ) (x : Head × List ℕ) →
    look bytes ≡ Ok (word (id_of (Bodied k)), rest) → head_at n k rest ≡ Ok x → FoundOne (HeadWithin n) bytes x.0 x.1
unfolding head_at
head_found n Module bytes rest x id e =
    let a = bind_ok (symbol_at rest) (λ w. Ok (module_head w.0, w.1)) x e in
    let s = symbol_found rest a.0 a.1 in
    let found : FoundOne (HeadWithin n) bytes (module_head a.0.0) a.0.1 =
    record {
      tokens = word (id_of (Bodied Module)) ∷ symbol a.0.0;
      begins = (rest, id, s.begins);
      spelled =
          ((s.formed, refl), omega arith);
    } in
    subst (λ (y : Head × List ℕ). FoundOne (HeadWithin n) bytes y.0 y.1) (ok_is _ x a.2) found
head_found n Func bytes rest x id e =
    let a = bind_ok (symbol_at rest)
    (λ w. sign_at 58 w.1 >>= λ colon. type_at n colon >>= λ t. Ok (func_head w.0 t.0, t.1)) x e in
    let b = bind_ok (sign_at 58 a.0.1) (λ colon. type_at n colon >>= λ t. Ok (func_head a.0.0 t.0, t.1)) x a.2 in
    let d = bind_ok (type_at n b.0) (λ t. Ok (func_head a.0.0 t.0, t.1)) x b.2 in
    let s = symbol_found rest a.0 a.1 in
    let t = type_found n b.0 d.0 d.1 in
    let behind : Begins a.0.1 (sign 58 ∷ t.tokens) d.0.1 = (b.0, sign_found 58 a.0.1 b.0 b.1, t.begins) in
    let found : FoundOne (HeadWithin n) bytes (func_head a.0.0 d.0.0) d.0.1 =
    record {
      tokens = word (id_of (Bodied Func)) ∷ (symbol a.0.0 ++ sign 58 ∷ t.tokens);
      begins =
          (rest, id, Begins-append (symbol a.0.0) (sign 58 ∷ t.tokens) rest a.0.1 d.0.1 s.begins behind);
      spelled =
          ((t.tokens, s.formed, t.spelled.0, refl), t.spelled.1);
    } in
    subst (λ (y : Head × List ℕ). FoundOne (HeadWithin n) bytes y.0 y.1) (ok_is _ x d.2) found

abbrev pub HeaderWithin : ℕ → Header → List Token → Type 0
HeaderWithin n h ts = SpellsHeader h ts × (header_levels h ≤ n)

pub header_found : (n : ℕ) (k : BodyKind) (bytes rest : List ℕ) (x : Header × List ℕ) →
    look bytes ≡ Ok (word (id_of (Bodied k)), rest) → header_at n k rest ≡ Ok x →
    FoundOne (HeaderWithin n) bytes x.0 x.1
unfolding header_at
header_found n k bytes rest x id e =
    let a = bind_ok (head_at n k rest) (λ h. dictionary_at n h.1 >>= λ d. Ok ((h.0, d.0), d.1)) x e in
    let b = bind_ok (dictionary_at n a.0.1) (λ d. Ok ((a.0.0, d.0), d.1)) x a.2 in
    let h = head_found n k bytes rest a.0 id a.1 in
    let d = dictionary_found n a.0.1 b.0 b.1 in
    let found : FoundOne (HeaderWithin n) bytes (a.0.0, b.0.0) b.0.1 = record {
      tokens = h.tokens ++ d.tokens;
      begins = Begins-append h.tokens d.tokens bytes a.0.1 b.0.1 h.begins d.begins;
      spelled = ((h.tokens, d.tokens, h.spelled.0, d.spelled.0, refl), omega (arith, h.spelled.1, d.spelled.1));
    } in
    subst (λ (y : Header × List ℕ). FoundOne (HeaderWithin n) bytes y.0 y.1) (ok_is _ x b.2) found

-- ---- operations and blocks

more_wrote : (n : ℕ) (os : List OpTerm) (ts : List Token) → After (OpWithin n) by_semicolon os ts →
    SpellsMoreOps (ops_of os) ts × (ops_levels (ops_of os) ≤ n)
more_wrote n [] ts h = (h, omega arith)
more_wrote n (o ∷ os) ts h =
    let w = more_wrote n os h.1 h.3 in
    ((h.0, h.1, h.2.0, w.0, h.4), omega (arith, h.2.1, w.1))

pub ops_wrote : (n : ℕ) (os : List OpTerm) (ts : List Token) → Chain (OpWithin n) by_semicolon os ts → OpsWithin n os ts
ops_wrote n [] ts h = absurd h
ops_wrote n (o ∷ os) ts h =
    let w = more_wrote n os h.1 h.3 in
    ((h.0, h.1, h.2.0, w.0, h.4), omega (arith, h.2.1, w.1))

ops_found : (n : ℕ) (read : List ℕ → Result (OpTerm × List ℕ) Fault) → IsSound (OpWithin n) read →
    IsSound (OpsWithin n) (ops_at read)
unfolding ops_at
ops_found n read sound bytes x e =
    elim (chosen (ends_block bytes) (done ([], bytes)) (more_at semicolon_at read (suc (length bytes)) bytes) (done x)
    e) [
      | inl h ↦
          let none : FoundOne (OpsWithin n) bytes [] bytes =
          record { tokens = []; begins = refl; spelled = (refl, omega arith) } in
          subst (λ (y : List OpTerm × List ℕ). FoundOne (OpsWithin n) bytes y.0 y.1) (ok_is ([], bytes) x h.1) none
      | inr h ↦
          let f = several_found (OpWithin n) by_semicolon semicolon_at semicolon_found read sound (suc (length bytes))
          bytes x h.1 in
          record { tokens = f.tokens; begins = f.begins; spelled = ops_wrote n x.0 f.tokens f.spelled }
    ]

pub block_found : (n : ℕ) (read : List ℕ → Result (OpTerm × List ℕ) Fault) → IsSound (OpWithin n) read →
    IsSound (BlockWithin n) (block_at read n)
unfolding block_at
block_found n read sound bytes x e =
    let a = bind_ok (block_head_at n bytes) (λ w. ops_at read w.1 >>= λ os. Ok ((w.0, os.0), os.1)) x e in
    let b = bind_ok (ops_at read a.0.1) (λ os. Ok ((a.0.0, os.0), os.1)) x a.2 in
    let h = block_head_found n bytes a.0 a.1 in
    let o = ops_found n read sound a.0.1 b.0 b.1 in
    let found : FoundOne (BlockWithin n) bytes (a.0.0, b.0.0) b.0.1 = record {
      tokens = h.tokens ++ o.tokens;
      begins = Begins-append h.tokens o.tokens bytes a.0.1 b.0.1 h.begins o.begins;
      spelled = record {
        head = h.tokens;
        inside = o.tokens;
        head_spelled = h.spelled.0;
        head_within = h.spelled.1;
        spelled = o.spelled.0;
        within = o.spelled.1;
        tokens = refl;
      };
    } in
    subst (λ (y : BlockTerm × List ℕ). FoundOne (BlockWithin n) bytes y.0 y.1) (ok_is _ x b.2) found

-- blocks up to the closing brace
pub record WroteBlocks (n : ℕ) (bs : List BlockTerm) (ts : List Token) : Type 0 where
  pub body : List Token
  pub spelled : SpellsBlocks (blocks_of bs) body
  pub within : blocks_levels (blocks_of bs) ≤ n
  pub tokens : ts ≡ body ++ sign 125 ∷ []

wrote_block : (n : ℕ) (b : BlockTerm) (bs : List BlockTerm) (first more : List Token) → BlockWithin n b first →
    WroteBlocks n bs more → WroteBlocks n (b ∷ bs) (first ++ more)
wrote_block n b bs first more f w = record {
  body = f.head ++ (f.inside ++ w.body);
  spelled = (f.head, f.inside, w.body, f.head_spelled, f.spelled, w.spelled, refl);
  within = omega (arith, f.head_within, f.within, w.within);
  tokens =
      ap (λ (ts : List Token). ts ++ more) f.tokens ∙ ap (λ (ts : List Token). (f.head ++ f.inside) ++ ts) w.tokens ∙
      append_assoc f.head f.inside (w.body ++ sign 125 ∷ [])
      ∙ ap (λ (ts : List Token). f.head ++ ts) (sym (append_assoc f.inside w.body (sign 125 ∷ []))) ∙
      sym (append_assoc f.head (f.inside ++ w.body) (sign 125 ∷ []));
}

blocks_wrote : (n : ℕ) (bs : List BlockTerm) (ts : List Token) → After (BlockWithin n) by_brace bs ts →
    WroteBlocks n bs ts
blocks_wrote n [] ts h = record { body = []; spelled = refl; within = omega arith; tokens = h }
blocks_wrote n (b ∷ bs) ts h =
    subst (WroteBlocks n (b ∷ bs)) (sym h.4) (wrote_block n b bs h.0 h.1 h.2 (blocks_wrote n bs h.1 h.3))

pub chain_wrote : (n : ℕ) (bs : List BlockTerm) (ts : List Token) → Chain (BlockWithin n) by_brace bs ts →
    WroteBlocks n bs ts
chain_wrote n [] ts h = absurd h
chain_wrote n (b ∷ bs) ts h =
    subst (WroteBlocks n (b ∷ bs)) (sym h.4) (wrote_block n b bs h.0 h.1 h.2 (blocks_wrote n bs h.1 h.3))

-- a body in braces
record FoundBody (n : ℕ) (bytes : List ℕ) (bs : List BlockTerm) (rest : List ℕ) : Type 0 where
  body : List Token
  begins : Begins bytes (enclosed 123 body 125) rest
  spelled : SpellsBlocks (blocks_of bs) body
  within : blocks_levels (blocks_of bs) ≤ n

body_found : (n : ℕ) (read : List ℕ → Result (OpTerm × List ℕ) Fault) → IsSound (OpWithin n) read →
    (bytes : List ℕ) (x : List BlockTerm × List ℕ) → blocks_at read n bytes ≡ Ok x → FoundBody n bytes x.0 x.1
unfolding blocks_at
body_found n read sound bytes x e =
    let a = bind_ok (sign_at 123 bytes)
    (λ start. unless_closed (past_sign 125 start) (more_at brace_at (block_at read n) (suc (length start)) start)) x
    e in
    at a.0 (sign_found 123 bytes a.0 a.1) (past_sign 125 a.0) refl a.2
  where
    at : (start : List ℕ) → look bytes ≡ Ok (sign 123, start) → (o : Option (List ℕ)) → past_sign 125 start ≡ o →
        unless_closed o (more_at brace_at (block_at read n) (suc (length start)) start) ≡ Ok x →
        FoundBody n bytes x.0 x.1
    at start s (Some rest) p h =
        let none : FoundBody n bytes [] rest =
        record {
          body = [];
          begins = (start, s, (rest, past_sign_found 125 start rest p, refl));
          spelled = refl;
          within = omega arith;
        } in
        subst (λ (y : List BlockTerm × List ℕ). FoundBody n bytes y.0 y.1) (ok_is ([], rest) x h) none
    at start s None p h =
        let f = several_found (BlockWithin n) by_brace brace_at brace_found (block_at read n) (block_found n read sound)
        (suc (length start)) start x h in
        let w = chain_wrote n x.0 f.tokens f.spelled in
        record {
          body = w.body;
          begins = (start, s, subst (λ ts. Begins start ts x.1) w.tokens f.begins);
          spelled =
              w.spelled;
          within = w.within;
        }

-- a module or a function behind its id
bodied_found : (n : ℕ) (read : List ℕ → Result (OpTerm × List ℕ) Fault) → IsSound (OpWithin n) read →
    (k : BodyKind) (ws : List (List ℕ)) (bytes rest : List ℕ) (x : OpTerm × List ℕ) → Opened bytes ws (Bodied k) rest →
    bodied_at read n k (length ws) rest ≡ Ok x → FoundOne (OpWithin (suc n)) bytes x.0 x.1
unfolding bodied_at
bodied_found n read sound k ws bytes rest x o e =
    let a = bind_ok (named 0 (length ws))
    (λ u. header_at n k rest >>= λ h. blocks_at read n h.1 >>= λ bs. Ok (op_term h.0 (blocks_of bs.0), bs.1)) x e in
    let b = bind_ok (header_at n k rest) (λ h. blocks_at read n h.1 >>= λ bs. Ok (op_term h.0 (blocks_of bs.0), bs.1)) x
    a.2 in
    let d = bind_ok (blocks_at read n b.0.1) (λ bs. Ok (op_term b.0.0 (blocks_of bs.0), bs.1)) x b.2 in
    let h = header_found n k bytes rest b.0 (bare_id bytes ws (Bodied k) rest o (named_is 0 (length ws) a.0 a.1)) b.1 in
    let f = body_found n read sound b.0.1 d.0 d.1 in
    let found : FoundOne (OpWithin (suc n)) bytes (op_term b.0.0 (blocks_of d.0.0)) d.0.1 =
    record {
      tokens = h.tokens ++ enclosed 123 f.body 125;
      begins =
          Begins-append h.tokens (enclosed 123 f.body 125) bytes b.0.1 d.0.1 h.begins f.begins;
      spelled =
          ((h.tokens, f.body, h.spelled.0, f.spelled, refl), omega (arith, h.spelled.1, f.within));
    } in
    subst (λ (y : OpTerm × List ℕ). FoundOne (OpWithin (suc n)) bytes y.0 y.1) (ok_is _ x d.2) found

-- a constant behind its id
named_constant_found : (n : ℕ) (ws : List (List ℕ)) (bytes rest : List ℕ) (x : OpTerm × List ℕ) →
    Opened bytes ws Constant rest →
    read_as (λ c. constant_term (first_name ws) c.0 c.1) (named_constant_at n (length ws) rest) ≡ Ok x →
    FoundOne (OpWithin (suc n)) bytes x.0 x.1
unfolding named_constant_at
named_constant_found n ws bytes rest x o e =
    let w = first_name ws in
    let a = bind_ok (named_constant_at n (length ws) rest) (λ y. Ok (constant_term w y.0.0 y.0.1, y.1)) x e in
    let b = bind_ok (named 1 (length ws)) (λ u. constant_at n rest) a.0 a.1 in
    let i = named_id bytes ws Constant rest o (named_is 1 (length ws) b.0 b.1) in
    let f = constant_found n rest a.0 b.2 in
    let s = f.spelled in
    let found : FoundOne (OpWithin (suc n)) bytes (constant_term w a.0.0.0 a.0.0.1) a.0.1 = record {
      tokens = word w ∷ sign 61 ∷ word (id_of Constant) ∷ f.tokens;
      begins = Begins-append (word w ∷ sign 61 ∷ word (id_of Constant) ∷ []) f.tokens bytes rest a.0.1 i.begins
          f.begins;
      spelled = (
        (
          s.attr,
          s.type,
          i.formed,
          s.value,
          s.typed,
          ap (λ (ts : List Token). word w ∷ sign 61 ∷ word (id_of Constant) ∷ ts) s.tokens,
        ),
        omega (arith, s.within),
      );
    } in
    subst (λ (y : OpTerm × List ℕ). FoundOne (OpWithin (suc n)) bytes y.0 y.1) (ok_is _ x a.2) found

behind_found : (n : ℕ) (read : List ℕ → Result (OpTerm × List ℕ) Fault) → IsSound (OpWithin n) read →
    (k : HeadKind) (ws : List (List ℕ)) (bytes rest : List ℕ) (x : OpTerm × List ℕ) → Opened bytes ws k rest →
    behind_id read n ws k rest ≡ Ok x → FoundOne (OpWithin (suc n)) bytes x.0 x.1
behind_found n read sound (Bodied k) ws bytes rest x o e = bodied_found n read sound k ws bytes rest x o e
behind_found n read sound Constant ws bytes rest x o e = named_constant_found n ws bytes rest x o e
behind_found n read sound ForwardRef ws bytes rest x o e = absurd (let v = e in cc)

no_op : (bytes : List ℕ) (x : OpTerm × List ℕ) → Err TooDeep ≡ done x → ⊥
no_op bytes x e = cc

pub op_found : (n : ℕ) → IsSound (OpWithin n) (op_at n)
unfolding op_at
op_found zero bytes x e = let a = bind_ok (word_at bytes) (λ w. Err TooDeep) x e in absurd (no_op bytes x a.2)
op_found (suc n) bytes x e =
    let a = bind_ok (start_at bytes) (λ s. behind_id (op_at n) n s.0.0 s.0.1 s.1) x e in
    behind_found n (op_at n) (op_found n) a.0.0.1 a.0.0.0 bytes a.0.1 x (start_found bytes a.0 a.1) a.2

-- ---- each takes a byte or more

head-length : (h : Head) (ts : List Token) → SpellsHead h ts → 1 ≤ length ts
head-length (module_head w) ts h = rw (h.1) (omega arith)
head-length (func_head w t) ts h = rw (h.3) (omega arith)

header-length : (h : Header) (ts : List Token) → SpellsHeader h ts → 1 ≤ length ts
header-length h ts s = let k = head-length h.0 s.0 s.2 in rw (s.4, length-append s.0 s.1) (omega arith)

op-length : (o : OpTerm) (ts : List Token) → SpellsOp o ts → 1 ≤ length ts
op-length (constant_term w a t) ts s = rw (s.5) (omega arith)
op-length (op_term h bs) ts s = let k = header-length h s.0 s.2 in
    rw (s.4, length-append s.0 (enclosed 123 s.1 125)) (omega arith)

pub op_at-shorter : (n : ℕ) (bytes : List ℕ) (x : OpTerm × List ℕ) → op_at n bytes ≡ Ok x → length x.1 < length bytes
op_at-shorter n bytes x e =
    let f = op_found n bytes x e in
    omega (arith, Begins-length f.tokens bytes x.1 f.begins, op-length x.0 f.tokens f.spelled.0)

pub block_head-length : (b : BlockHead) (ts : List Token) → SpellsBlockHead b ts → 1 ≤ length ts
block_head-length b ts h = rw (h.3) (omega arith)

pub block_at-shorter : (n : ℕ) (bytes : List ℕ) (x : BlockTerm × List ℕ) → block_at (op_at n) n bytes ≡ Ok x →
    length x.1 < length bytes
block_at-shorter n bytes x e =
    let f = block_found n (op_at n) (op_found n) bytes x e in
    let k = block_head-length x.0.0 f.spelled.head f.spelled.head_spelled in
    let size : length f.tokens ≡ length f.spelled.head + length f.spelled.inside = ap length f.spelled.tokens ∙
    length-append f.spelled.head f.spelled.inside in
    omega (arith, Begins-length f.tokens bytes x.1 f.begins, k, size)

pub semicolon_at-shorter : (bytes : List ℕ) (s : Bool × List ℕ) → semicolon_at bytes ≡ Ok s → length s.1 ≤ length bytes
semicolon_at-shorter bytes s e = omega (arith, Begins-length (by_semicolon s.0) bytes s.1 (semicolon_found bytes s e))

pub brace_at-shorter : (bytes : List ℕ) (s : Bool × List ℕ) → brace_at bytes ≡ Ok s → length s.1 ≤ length bytes
brace_at-shorter bytes s e = omega (arith, Begins-length (by_brace s.0) bytes s.1 (brace_found bytes s e))
