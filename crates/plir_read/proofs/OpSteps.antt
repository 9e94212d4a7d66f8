-- What the parts of an operation, as they are read, make of the whole.
use Rattle.std.proofs.Common.{◌≡◌, ℕ, zero, suc, ◌-◌, ◌<◌, List, [], length, Bool, true, false, None, Some, Result, Ok}
use Rattle.std.proofs.Common.{Err, refl, sym, ◌∙◌, arith, Option, ◌∷◌, ap, subst}
use Rattle.std.proofs.lemmas.List.{length-map}
use Rattle.plir_core.specs.declared.ptr.IRNode.{IRNode}
use Rattle.plir_core.specs.ContextView.{ContextView}
use Rattle.plir_core.specs.Room.{IsFullFor, HaveCome, one_op}
use Rattle.plir_attr_text.specs.declared.fault.Fault.{Fault}
use Rattle.plir_attr_text.specs.declared.fault.Fault.TheVariants.{TooDeep}
use Rattle.plir_attr_text.specs.declared.fault.Stop.{Stop}
use Rattle.plir_attr_text.specs.declared.fault.Stop.TheVariants.{OutOfMemory, Crowded, At}
use Rattle.plir_attr_text.specs.Steps.{◌>>=◌}
use Rattle.plir_attr_text.specs.Reading.{Ends, Fails}
use Rattle.plir_attr_text.specs.Terms.{AttrTerm, TypeTerm, EntryTerms, no_entries, entries_of}
use Rattle.plir_attr_text.specs.Lists.{sign_at, past_sign, more_at, items_at}
use Rattle.plir_attr_text.specs.AttrReading.{name_at, entry_at, attr_at}
use Rattle.plir_attr_text.specs.TypeReading.{word_at, type_at}
use Rattle.plir_attr_text.specs.Levels.{level_at}
use Rattle.plir_attr_text.specs.laws.TypeSteps.{level-word, level-deep}
use Rattle.plir_attr_text.specs.laws.Fronts.{GoesOn, with_front}
use Rattle.plir_attr_text.specs.laws.StepLaws.{done, bind_ok, Ends-bind, Ends-from}
use Rattle.plir_read.specs.OpTerms.{Head, module_head, func_head, Header, Argument, BlockHead, OpTerm, op_term}
use Rattle.plir_read.specs.OpTerms.{constant_term, BlockTerm, blocks_of}
use Rattle.plir_read.specs.OpReading.{op_id, names_before, start_at, named, first_name, symbol_at, argument_at}
use Rattle.plir_read.specs.OpReading.{block_head_at, head_at, dictionary_at, header_at, ends_block, ops_at, block_at}
use Rattle.plir_read.specs.OpReading.{blocks_at, value_at, constant_at, named_constant_at, bodied_at, behind_id, op_at}
use Rattle.plir_read.specs.OpReading.{semicolon_at, brace_at}
use Rattle.plir_data.specs.AttrView.{AttrView}
use Rattle.plir_data.specs.Types.{TypeView}
use Rattle.plir_read.specs.Heads.{result_names, IsConstant}
use Rattle.plir_read.specs.OpsStanding.{IsConstantAt, IsOpAt}
use Rattle.plir_read.specs.OpGrammar.{OpWithin}
use Rattle.plir_read.specs.Room.{LacksRoom, op_count}
use Rattle.plir_read.specs.Stopping.{ReadsOn, IsRefusal}
use Rattle.plir_read.specs.Suffixes.{given_name}
use Rattle.plir_read.specs.declared.names.Suffix.TheVariants as kinds
use Rattle.plir_read.specs.declared.heads.HeadKind.{HeadKind}
use Rattle.plir_read.specs.declared.heads.HeadKind.TheVariants.{Bodied, Constant}
use Rattle.plir_read.specs.declared.heads.BodyKind.{BodyKind}
use Rattle.plir_read.specs.declared.heads.BodyKind.TheVariants.{Module, Func}
use Rattle.plir_read.proofs.Beginnings.{Ends-map, read_lacks_room}
use Rattle.plir_read.specs.laws.StartFound.{named_is}

-- a fault of the readers below is a fault here
pub Ends-of : {A : Type 0} (P : Type 0) (stop : Stop) (r : Result A Fault) → Fails stop r → Ends P stop r
Ends-of P OutOfMemory r h = tt
Ends-of P Crowded r h = absurd h
Ends-of P (At d left) r h = h

-- a refusal is no fault of the text
pub Ends-refused : {A : Type 0} (P : Type 0) (e : Stop) (r : Result A Fault) → IsRefusal P e → Ends P e r
Ends-refused P OutOfMemory r h = tt
Ends-refused P Crowded r h = h
Ends-refused P (At f l) r h = absurd h

-- a refusal for one want of room is one for another that follows from it
pub refused_as : (P Q : Type 0) (e : Stop) → (P → Q) → IsRefusal P e → IsRefusal Q e
refused_as P Q OutOfMemory f h = tt
refused_as P Q Crowded f h = f h
refused_as P Q (At g l) f h = h

-- reading goes on from where it begins
pub from_start : {A : Type 0} (goes : List ℕ → Result (Bool × List ℕ) Fault) (read : List ℕ → Result (A × List ℕ) Fault)
    (bytes : List ℕ) (total : Result (List A × List ℕ) Fault) → total ≡ more_at goes read (suc (length bytes)) bytes →
    GoesOn goes read [] bytes total
from_start goes read bytes total e =
    record {
      steps = suc (length bytes);
      enough = omega arith;
      gives =
          front_nothing (more_at goes read (suc (length bytes)) bytes) ∙ sym e;
    }
  where
    front_nothing : {A : Type 0} (r : Result (List A × List ℕ) Fault) → with_front [] r ≡ r
    front_nothing (Ok x) = refl
    front_nothing (Err f) = refl

pub module_read : (n : ℕ) (bytes w rest : List ℕ) → symbol_at bytes ≡ Ok (w, rest) →
    head_at n Module bytes ≡ Ok (module_head w, rest)
unfolding head_at
module_read n bytes w rest p = rw p refl

pub func_read : (n : ℕ) (bytes w rest colon end : List ℕ) (t : TypeTerm) → symbol_at bytes ≡ Ok (w, rest) →
    sign_at 58 rest ≡ Ok colon → type_at n colon ≡ Ok (t, end) → head_at n Func bytes ≡ Ok (func_head w t, end)
unfolding head_at
func_read n bytes w rest colon end t p q r = rw (p, q, r) refl

pub no_dictionary : (n : ℕ) (bytes : List ℕ) → past_sign 91 bytes ≡ None →
    dictionary_at n bytes ≡ Ok (no_entries, bytes)
unfolding dictionary_at
no_dictionary n bytes e = rw e refl

pub dictionary_is : (n : ℕ) (bytes inside end : List ℕ) (es : List (List ℕ × AttrTerm)) →
    past_sign 91 bytes ≡ Some inside → items_at 91 93 (entry_at (attr_at n)) bytes ≡ Ok (es, end) →
    dictionary_at n bytes ≡ Ok (entries_of es, end)
unfolding dictionary_at
dictionary_is n bytes inside end es p q = rw (p, q) refl

pub header_is : (n : ℕ) (k : BodyKind) (bytes rest end : List ℕ) (h : Head) (es : EntryTerms) →
    head_at n k bytes ≡ Ok (h, rest) → dictionary_at n rest ≡ Ok (es, end) → header_at n k bytes ≡ Ok ((h, es), end)
unfolding header_at
header_is n k bytes rest end h es p q = rw (p, q) refl

-- ---- heads of blocks

pub argument_is : (n : ℕ) (bytes w rest colon end : List ℕ) (t : TypeTerm) → name_at bytes ≡ Ok (w, rest) →
    sign_at 58 rest ≡ Ok colon → type_at n colon ≡ Ok (t, end) → argument_at n bytes ≡ Ok ((w, t), end)
unfolding argument_at
argument_is n bytes w rest colon end t p q r = rw (p, q, r) refl

pub block_head_is : (n : ℕ) (bytes start w rest behind end : List ℕ) (as_ : List Argument) →
    sign_at 94 bytes ≡ Ok start → name_at start ≡ Ok (w, rest) →
    items_at 40 41 (argument_at n) rest ≡ Ok (as_, behind) → sign_at 58 behind ≡ Ok end →
    block_head_at n bytes ≡ Ok ((w, as_), end)
unfolding block_head_at
block_head_is n bytes start w rest behind end as_ p q r s = rw (p, q, r, s) refl

-- ---- names and ids

pub start_is : (bytes rest end : List ℕ) (ws : List (List ℕ)) (k : HeadKind) → names_before bytes ≡ Ok (ws, rest) →
    op_id rest ≡ Ok (k, end) → start_at bytes ≡ Ok ((ws, k), end)
unfolding start_at
start_is bytes rest end ws k p q = rw (p, q) refl

-- as many names are given as are written
pub as_many : (ws : List (List ℕ)) (names : List (Option (List ℕ))) → names ≡ result_names ws → length ws ≡ length names
as_many ws names e = sym (ap length e ∙ length-map ws (given_name kinds.OpResult))

-- one name is given where one is written
one_given : (ws : List (List ℕ)) (names : List (Option (List ℕ))) → names ≡ result_names ws → 1 ≡ length names →
    names ≡ result_names (first_name ws ∷ [])
one_given [] names e f = absurd (let g : 1 ≡ 0 = f ∙ ap length e in omega (arith, g))
one_given (w ∷ []) names e f = e
one_given (v ∷ w ∷ ws) names e f = absurd (let g = f ∙ ap length e in omega (arith, g))

-- ---- constants

pub value_is : (n : ℕ) (bytes start mid end : List ℕ) (a : AttrTerm) → sign_at 60 bytes ≡ Ok start →
    attr_at n start ≡ Ok (a, mid) → sign_at 62 mid ≡ Ok end → value_at n bytes ≡ Ok (a, end)
unfolding value_at
value_is n bytes start mid end a p q r = rw (p, q, r) refl

pub constant_is : (n : ℕ) (bytes rest colon end : List ℕ) (a : AttrTerm) (t : TypeTerm) →
    value_at n bytes ≡ Ok (a, rest) → sign_at 58 rest ≡ Ok colon → type_at n colon ≡ Ok (t, end) →
    constant_at n bytes ≡ Ok ((a, t), end)
unfolding constant_at
constant_is n bytes rest colon end a t p q r = rw (p, q, r) refl

-- behind as many names as there are results
pub named_constant_is : (n names : ℕ) (bytes : List ℕ) (c : (AttrTerm × TypeTerm) × List ℕ)
    → named_constant_at n names bytes ≡ Ok c → constant_at n bytes ≡ Ok c
unfolding named_constant_at
named_constant_is n names bytes c e = let u = bind_ok (named 1 names) (λ u. constant_at n bytes) c e in u.2

pub is_named_constant : (n names : ℕ) (bytes : List ℕ) (u : Unit {0}) (c : (AttrTerm × TypeTerm) × List ℕ)
    → named 1 names ≡ Ok u → constant_at n bytes ≡ Ok c → named_constant_at n names bytes ≡ Ok c
unfolding named_constant_at
is_named_constant n names bytes u c p q = rw p q

-- a constant that is held is the same one in an equal table
pub constant_still : {A T : Type 0} (xs ys : List (TypeView T)) (value : AttrView A) (handle : ℕ)
    (k : AttrTerm × TypeTerm) → ys ≡ xs → IsConstant xs value handle k → IsConstant ys value handle k
constant_still {A} {T} xs ys value handle k e h =
    subst (λ (l : List (TypeView T)). IsConstant l value handle k) (sym e) h

-- ---- an operation

pub op_at-behind : (n : ℕ) (bytes rest : List ℕ) (ws : List (List ℕ)) (k : HeadKind) → 0 < n →
    start_at bytes ≡ Ok ((ws, k), rest) → op_at n bytes ≡ behind_id (op_at (n - 1)) (n - 1) ws k rest
unfolding op_at
op_at-behind zero bytes rest ws k lt e = absurd (omega arith)
op_at-behind (suc n) bytes rest ws k lt e = let m : suc n - 1 ≡ n = omega arith in rw (e, m) refl

pub no_start : (P : Type 0) (n : ℕ) (e : Stop) (bytes : List ℕ) → 0 < n → Fails e (start_at bytes) →
    Ends P e (op_at n bytes)
unfolding op_at
no_start P zero e bytes lt h = absurd (omega (arith, lt))
no_start P (suc n) e bytes lt h =
    Ends-bind P e (start_at bytes) (λ s. behind_id (op_at n) n s.0.0 s.0.1 s.1) (Ends-of P e (start_at bytes) h)

-- an operation begins with a word: a name, or its id
no_names : (d : Fault) (bytes : List ℕ) → word_at bytes ≡ Err d → names_before bytes ≡ Ok ([], bytes)
unfolding names_before name_at
no_names d bytes h = rw h refl

no_id : (d : Fault) (bytes : List ℕ) → word_at bytes ≡ Err d → op_id bytes ≡ Err d
unfolding op_id
no_id d bytes h = rw h refl

start_is_word : (d : Fault) (bytes : List ℕ) → word_at bytes ≡ Err d → start_at bytes ≡ Err d
unfolding start_at
start_is_word d bytes h = rw (no_names d bytes h) (rw (no_id d bytes h) refl)

start_word : (e : Stop) (bytes : List ℕ) → Fails e (word_at bytes) → Fails e (start_at bytes)
start_word OutOfMemory bytes h = tt
start_word Crowded bytes h = h
start_word (At d left) bytes h = (start_is_word d bytes h.0, h.1)

-- where no level begins, the fault of that is one of the operation
pub no_level : (P : Type 0) (n : ℕ) (e : Stop) (bytes : List ℕ) → Fails e (level_at n bytes) → Ends P e (op_at n bytes)
unfolding op_at
no_level P zero e bytes h = Ends-of P e (word_at bytes >>= λ w. Err TooDeep) (level-deep _ e bytes h)
no_level P (suc n) e bytes h =
    Ends-bind P e (start_at bytes) (λ s. behind_id (op_at n) n s.0.0 s.0.1 s.1)
    (Ends-of P e (start_at bytes) (start_word e bytes (level-word e (suc n) bytes (omega arith) h)))

-- a module or a function is read behind its id
pub bodied_behind : (n : ℕ) (bytes rest : List ℕ) (ws : List (List ℕ)) (names : List (Option (List ℕ))) (k : HeadKind)
    (b : BodyKind) → 0 < n → start_at bytes ≡ Ok ((ws, k), rest) → k ≡ Bodied b → names ≡ result_names ws →
    op_at n bytes ≡ bodied_at (op_at (n - 1)) (n - 1) b (length names) rest
bodied_behind n bytes rest ws names k b lt e is given =
    op_at-behind n bytes rest ws k lt e ∙ ap (λ (z : HeadKind). behind_id (op_at (n - 1)) (n - 1) ws z rest) is ∙
    ap (λ m. bodied_at (op_at (n - 1)) (n - 1) b m rest) (as_many ws names given)

-- and a constant
pub constant_at_id : (n : ℕ) (bytes rest : List ℕ) (ws : List (List ℕ)) (names : List (Option (List ℕ)))
    (k : HeadKind) → 0 < n → start_at bytes ≡ Ok ((ws, k), rest) → k ≡ Constant → names ≡ result_names ws
    → op_at n bytes ≡ (named_constant_at (n - 1) (length names) rest >>=
    λ c. done (constant_term (first_name ws) c.0.0 c.0.1, c.1))
constant_at_id n bytes rest ws names k lt e is given =
    op_at-behind n bytes rest ws k lt e ∙ ap (λ (z : HeadKind). behind_id (op_at (n - 1)) (n - 1) ws z rest) is
    ∙ ap (λ m. named_constant_at (n - 1) m rest >>= λ c. done (constant_term (first_name ws) c.0.0 c.0.1, c.1))
    (as_many ws names given)

-- what is read under another name, where there is no room for another reason
pub ReadsOn-as : {X Y : Type 0} (P Q : Type 0) (means : X → Y → Type 0) (r : Result X Stop)
    (read total : Result Y Fault) → total ≡ read → (P → Q) → ReadsOn P means r read → ReadsOn Q means r total
ReadsOn-as P Q means (Ok x) read total e f h = (h.0, e ∙ h.1, h.2)
ReadsOn-as P Q means (Err stop) read total e f h = Ends-map P Q stop total f (Ends-from P stop read total (sym e) h)

-- a constant is read behind its id, with the one name that stands before that
module _ {K A T X : Type 0} (s t : ContextView K A T) (node : X → IRNode) (after : X → List ℕ) (n : ℕ)
    (bytes rest : List ℕ) (ws : List (List ℕ)) (names : List (Option (List ℕ))) (given : names ≡ result_names ws) where
  abbrev as_constant : (AttrTerm × TypeTerm) × List ℕ → OpTerm × List ℕ
  as_constant c = (constant_term (first_name ws) c.0.0 c.0.1, c.1)

  constant_behind : (k : HeadKind) → 0 < n → start_at bytes ≡ Ok ((ws, k), rest) → k ≡ Constant →
      op_at n bytes ≡ (named_constant_at (n - 1) (length names) rest >>= λ c. done (as_constant c))
  constant_behind k lt e is = constant_at_id n bytes rest ws names k lt e is given

  one_name_given : (c : (AttrTerm × TypeTerm) × List ℕ) → named_constant_at (n - 1) (length names) rest ≡ Ok c →
      names ≡ result_names (first_name ws ∷ [])
  unfolding named_constant_at
  one_name_given c e = let u = bind_ok (named 1 (length names)) (λ u. constant_at (n - 1) rest) c e in
      one_given ws names given (named_is 1 (length names) u.0 u.1)

  -- a constant was read that has no room
  abbrev IsFullForConstant : Type 0
  IsFullForConstant =
      (c : _) × (named_constant_at (n - 1) (length names) rest ≡ Ok c) × IsFullFor s.nodes one_op

  pub constant_reads : (r : Result X Stop) (k : HeadKind) → 0 < n → start_at bytes ≡ Ok ((ws, k), rest) → k ≡ Constant
      → ReadsOn IsFullForConstant
      (λ x y. (IsConstantAt t (node x) names y.0 × HaveCome s.nodes t.nodes one_op) × (after x ≡ y.1)) r
      (named_constant_at (n - 1) (length names) rest) →
      ReadsOn (LacksRoom op_count (OpWithin n) s.nodes bytes (op_at n bytes))
      (λ x y. (IsOpAt t (node x) y.0 × HaveCome s.nodes t.nodes (op_count y.0)) × (after x ≡ y.1)) r (op_at n bytes)
  constant_reads (Ok x) k lt e is h =
      let total = constant_behind k lt e is in (
        as_constant h.0,
        total ∙ rw (h.1) refl,
        ((subst (λ z. IsConstantAt t (node x) z h.0.0) (one_name_given h.0 h.1) h.2.0.0, h.2.0.1), h.2.1),
      )
  constant_reads (Err stop) k lt e is h =
      let total = constant_behind k lt e is in
      Ends-map IsFullForConstant _ stop (op_at n bytes)
      (λ c. read_lacks_room s.nodes n bytes (as_constant c.0) (total ∙ rw (c.1) refl) c.2)
      (Ends-from IsFullForConstant stop _ _ (sym total)
      (Ends-bind IsFullForConstant stop _ (λ c. done (as_constant c)) h))

module _ (read : List ℕ → Result (OpTerm × List ℕ) Fault) (n : ℕ) (k : BodyKind) (names : ℕ) where
  -- what is read behind the id of a module or a function
  abbrev behind_names : List ℕ → Result (OpTerm × List ℕ) Fault
  behind_names bytes = header_at n k bytes >>= λ h. blocks_at read n h.1 >>=
      λ bs. Ok (op_term h.0 (blocks_of bs.0), bs.1)

  pub no_head : (P : Type 0) (e : Stop) (u : Unit {0}) (bytes : List ℕ) → named 0 names ≡ Ok u →
      Fails e (header_at n k bytes) → Ends P e (bodied_at read n k names bytes)
  unfolding bodied_at
  no_head P e u bytes p h =
      let is : behind_names bytes ≡ bodied_at read n k names bytes = rw p refl in
      Ends-from P e _ _ is (Ends-bind P e (header_at n k bytes)
      (λ h. blocks_at read n h.1 >>= λ bs. Ok (op_term h.0 (blocks_of bs.0), bs.1))
      (Ends-of P e (header_at n k bytes) h))

  pub no_body : (P : Type 0) (e : Stop) (u : Unit {0}) (bytes rest : List ℕ) (h : Header) → named 0 names ≡ Ok u →
      header_at n k bytes ≡ Ok (h, rest) → Ends P e (blocks_at read n rest) → Ends P e (bodied_at read n k names bytes)
  unfolding bodied_at
  no_body P e u bytes rest h p q r =
      let is : (blocks_at read n rest >>= λ bs. done (op_term h (blocks_of bs.0), bs.1)) ≡ bodied_at read n k names
      bytes = rw (p, q) refl in
      Ends-from P e _ _ is (Ends-bind P e (blocks_at read n rest) (λ bs. done (op_term h (blocks_of bs.0), bs.1)) r)

  pub bodied_read : (u : Unit {0}) (bytes rest end : List ℕ) (h : Header) (bs : List BlockTerm) → named 0 names ≡ Ok u →
      header_at n k bytes ≡ Ok (h, rest) → blocks_at read n rest ≡ Ok (bs, end) →
      bodied_at read n k names bytes ≡ Ok (op_term h (blocks_of bs), end)
  unfolding bodied_at
  bodied_read u bytes rest end h bs p q r = rw (p, q, r) refl

-- ---- blocks and their operations

module _ (read : List ℕ → Result (OpTerm × List ℕ) Fault) where
  pub no_operations : (bytes : List ℕ) → ends_block bytes ≡ true → ops_at read bytes ≡ Ok ([], bytes)
  unfolding ops_at
  no_operations bytes e = rw e refl

  pub operations : (bytes : List ℕ) → ends_block bytes ≡ false →
      ops_at read bytes ≡ more_at semicolon_at read (suc (length bytes)) bytes
  unfolding ops_at
  operations bytes e = rw e refl

  pub no_block_head : (P : Type 0) (n : ℕ) (e : Stop) (bytes : List ℕ) → Fails e (block_head_at n bytes) →
      Ends P e (block_at read n bytes)
  unfolding block_at
  no_block_head P n e bytes h =
      Ends-bind P e (block_head_at n bytes) (λ w. ops_at read w.1 >>= λ os. Ok ((w.0, os.0), os.1))
      (Ends-of P e (block_head_at n bytes) h)

  pub no_block : (P : Type 0) (n : ℕ) (e : Stop) (bytes : List ℕ) (w : BlockHead) (rest : List ℕ) →
      block_head_at n bytes ≡ Ok (w, rest) → Ends P e (ops_at read rest) → Ends P e (block_at read n bytes)
  unfolding block_at
  no_block P n e bytes w rest p q =
      let is : (ops_at read rest >>= λ os. done ((w, os.0), os.1)) ≡ block_at read n bytes = rw p refl in
      Ends-from P e _ _ is (Ends-bind P e (ops_at read rest) (λ os. done ((w, os.0), os.1)) q)

  pub block_read : (n : ℕ) (bytes : List ℕ) (w : BlockHead) (rest end : List ℕ) (os : List OpTerm) →
      block_head_at n bytes ≡ Ok (w, rest) → ops_at read rest ≡ Ok (os, end) → block_at read n bytes ≡ Ok ((w, os), end)
  unfolding block_at
  block_read n bytes w rest end os p q = rw (p, q) refl

  pub no_brace : (P : Type 0) (n : ℕ) (e : Stop) (bytes : List ℕ) → Fails e (sign_at 123 bytes) →
      Ends P e (blocks_at read n bytes)
  unfolding blocks_at
  no_brace P n e bytes h = Ends-bind P e (sign_at 123 bytes) _ (Ends-of P e (sign_at 123 bytes) h)

  pub no_blocks_inside : (n : ℕ) (bytes start rest : List ℕ) → sign_at 123 bytes ≡ Ok start →
      past_sign 125 start ≡ Some rest → blocks_at read n bytes ≡ Ok ([], rest)
  unfolding blocks_at
  no_blocks_inside n bytes start rest p q = rw (p, q) refl

  pub blocks : (n : ℕ) (bytes start : List ℕ) → sign_at 123 bytes ≡ Ok start → past_sign 125 start ≡ None →
      blocks_at read n bytes ≡ more_at brace_at (block_at read n) (suc (length start)) start
  unfolding blocks_at
  blocks n bytes start p q = rw (p, q) refl
