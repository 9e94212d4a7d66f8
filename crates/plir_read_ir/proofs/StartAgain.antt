-- Names of results, ids and constants that stand there are read.
use Rattle.std.proofs.Common.{◌≡◌, ℕ, zero, suc, ◌<◌, ◌≤◌, Bool, true, false, List, [], ◌∷◌, length, codes, Result, Ok}
use Rattle.std.proofs.Common.{refl, ap, arith}
use Rattle.plir_data.specs.Identifier.{is_identifier}
use Rattle.plir_attr_text.specs.declared.fault.Fault.{Fault}
use Rattle.plir_attr_text.specs.Terms.{AttrTerm, TypeTerm, levels, type_levels}
use Rattle.plir_attr_text.specs.Tokens.{Token, word, sign, look, Begins}
use Rattle.plir_attr_text.specs.AttrGrammar.{Spells}
use Rattle.plir_attr_text.specs.TypeGrammar.{enclosed, SpellsType}
use Rattle.plir_attr_text.specs.Lists.{separator_at, more_at}
use Rattle.plir_attr_text.specs.AttrReading.{name_at}
use Rattle.plir_attr_text.specs.laws.StepLaws.{done}
use Rattle.plir_attr_text.specs.laws.Begun.{Begins-split, word_again, sign_again, closed_again}
use Rattle.plir_attr_text.specs.laws.LeavesAgain.{name_again}
use Rattle.plir_attr_text.specs.laws.TypesAgain.{type_again}
use Rattle.plir_attr_text.specs.laws.AttrsAgain.{attr_again}
use Rattle.plir_read.specs.OpGrammar.{typed_value}
use Rattle.plir_read.specs.OpReading.{op_kind, op_id, names_at, names_before, start_at, value_at, constant_at}
use Rattle.plir_read.specs.declared.heads.BodyKind.TheVariants.{Module, Func}
use Rattle.plir_read.specs.declared.heads.HeadKind.TheVariants.{Bodied, Constant}

-- ---- things one behind another

module _ {A : Type 0} (goes : List ℕ → Result (Bool × List ℕ) Fault) (read : List ℕ → Result (A × List ℕ) Fault) where
  pub last_again : (m : ℕ) (x : A) (bytes after rest : List ℕ) → length bytes < m → read bytes ≡ Ok (x, after) →
      goes after ≡ Ok (false, rest) → more_at goes read m bytes ≡ Ok (x ∷ [], rest)
  unfolding more_at
  last_again zero x bytes after rest lt e f = absurd (omega arith)
  last_again (suc m) x bytes after rest lt e f = rw (e, f) refl

  pub next_again : (m : ℕ) (x : A) (xs : List A) (bytes after behind rest : List ℕ) → length bytes < m →
      read bytes ≡ Ok (x, after) → goes after ≡ Ok (true, behind) → length behind < length bytes
      → ((k : ℕ) → length behind < k → more_at goes read k behind ≡ Ok (xs, rest)) →
      more_at goes read m bytes ≡ Ok (x ∷ xs, rest)
  unfolding more_at
  next_again zero x xs bytes after behind rest lt e f less g = absurd (omega arith)
  next_again (suc m) x xs bytes after behind rest lt e f less g = rw (e, f, g m (omega arith)) refl

-- ---- names and ids

-- no name stands before an id
no_names : (bytes w rest : List ℕ) → look bytes ≡ Ok (word w, rest) → is_identifier w ≡ false →
    names_before bytes ≡ Ok ([], bytes)
unfolding names_before name_at
no_names bytes w rest e f = rw (word_again bytes w rest e, f) refl

pub module_id : (bytes rest : List ℕ) → look bytes ≡ Ok (word (codes "builtin.module"), rest) →
    start_at bytes ≡ Ok (([], Bodied Module), rest)
unfolding start_at op_id op_kind
module_id bytes rest e =
    rw (no_names bytes (codes "builtin.module") rest e refl, word_again bytes (codes "builtin.module") rest e) refl

pub func_id : (bytes rest : List ℕ) → look bytes ≡ Ok (word (codes "builtin.func"), rest) →
    start_at bytes ≡ Ok (([], Bodied Func), rest)
unfolding start_at op_id op_kind
func_id bytes rest e =
    rw (no_names bytes (codes "builtin.func") rest e refl, word_again bytes (codes "builtin.func") rest e) refl

-- one name stands before `=`
one_name : (w bytes after rest : List ℕ) → is_identifier w ≡ true → look bytes ≡ Ok (word w, after) →
    look after ≡ Ok (sign 61, rest) → names_before bytes ≡ Ok (w ∷ [], rest)
unfolding names_before names_at
one_name w bytes after rest f e s =
    let name = name_again w (word w ∷ []) bytes after (f, refl) (after, e, refl) in
    rw name (last_again (separator_at 61) name_at (suc (length bytes)) w bytes after rest (omega arith) name
    (closed_again 61 after rest s))

constant_id : (bytes rest : List ℕ) → look bytes ≡ Ok (word (codes "builtin.constant"), rest) →
    op_id bytes ≡ Ok (Constant, rest)
unfolding op_id op_kind
constant_id bytes rest e = rw (word_again bytes (codes "builtin.constant") rest e) refl

pub constant_starts : (w bytes rest : List ℕ) → is_identifier w ≡ true →
    Begins bytes (word w ∷ sign 61 ∷ word (codes "builtin.constant") ∷ []) rest →
    start_at bytes ≡ Ok ((w ∷ [], Constant), rest)
unfolding start_at
constant_starts w bytes rest f b =
    let sign_comes = b.2 in
    let id_comes = sign_comes.2 in
    rw (one_name w bytes b.0 sign_comes.0 f b.1 sign_comes.1, constant_id sign_comes.0 id_comes.0 id_comes.1)
    (ap (λ (r : List ℕ). done ((w ∷ [], Constant), r)) id_comes.2)

-- ---- constants

value_again : (n : ℕ) (a : AttrTerm) (attr : List Token) (bytes rest : List ℕ) → Spells a attr → levels a ≤ n →
    Begins bytes (enclosed 60 attr 62) rest → value_at n bytes ≡ Ok (a, rest)
unfolding value_at
value_again n a attr bytes rest s le b =
    let d = Begins-split attr (sign 62 ∷ []) b.0 rest b.2 in
    let end = d.2 in
    rw (sign_again 60 bytes b.0 b.1, attr_again a attr n b.0 d.0 s le d.1, sign_again 62 d.0 end.0 end.1)
    (ap (λ (r : List ℕ). done (a, r)) end.2)

pub constant_again : (n : ℕ) (a : AttrTerm) (t : TypeTerm) (attr type : List Token) (bytes rest : List ℕ) →
    Spells a attr → SpellsType t type → levels a ≤ n → type_levels t ≤ n → Begins bytes (typed_value attr type) rest →
    constant_at n bytes ≡ Ok ((a, t), rest)
unfolding constant_at
constant_again n a t attr type bytes rest s v le fits b =
    let c = Begins-split (enclosed 60 attr 62) (sign 58 ∷ type) bytes rest b in
    let d = c.2 in
    rw (value_again n a attr bytes c.0 s le c.1, sign_again 58 c.0 d.0 d.1, type_again t type n d.0 rest v fits d.2)
    refl
