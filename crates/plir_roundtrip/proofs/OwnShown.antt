-- What stands before the regions of an operation of one's own is tokens that stand for its header.
use Rattle.std.proofs.Common.{◌≡◌, ℕ, ◌<◌, true, List, [], ◌∷◌, ◌++◌, codes, length, Option, Some, refl, sym, ap}
use Rattle.std.proofs.Common.{subst, ◌∙◌, arith, append_assoc, get_or}
use Rattle.std.proofs.lemmas.Option.{slice_get-get_or}
use Rattle.plir_data.specs.Identifier.{is_identifier}
use Rattle.plir_data.specs.TypeTree.{tree_of}
use Rattle.plir_data.specs.declared.op_set.OpKind.TheVariants.{Own}
use Rattle.plir_data.specs.declared.op_set.OpSet as op_set
use Rattle.plir_store.specs.Members.{Has}
use Rattle.plir_core.specs.declared.ptr.Ptr.{Ptr}
use Rattle.plir_core.specs.declared.ptr.Operation.{Operation as OperationKind}
use Rattle.plir_core.specs.declared.ptr.BasicBlock.{BasicBlock as BlockKind}
use Rattle.plir_core.specs.declared.value.Value.{Value}
use Rattle.plir_core.specs.declared.value.DefiningEntity.{DefiningEntity}
use Rattle.plir_core.specs.declared.value.DefiningEntity.TheVariants.{Op, Block}
use Rattle.plir_core.specs.ContextView.{ContextView, operands_of, successors_of, types_from, type_of_value, label_of}
use Rattle.plir_attr_text.specs.AttrGrammar.{SpellsEntries, SpellsIdentifier, SpellsSeveral}
use Rattle.plir_attr_text.specs.Tokens.{Token, word, sign}
use Rattle.plir_attr_text.specs.TypeGrammar.{enclosed, SpellsType}
use Rattle.plir_attr_text.specs.Writable.{IsBuiltin, IsNameOrMark}
use Rattle.plir_attr_text.specs.laws.Lexing.{look-sign}
use Rattle.plir_attr_text.specs.laws.Printed.{is_word}
use Rattle.plir_attr_text.specs.laws.Runs.{Run, Shown, Shown-as, behind_id, word-shown, identifier_is_word}
use Rattle.plir_attr_text.specs.laws.TypesShown.{signature-shown, type-shown}
use Rattle.plir_walk.specs.GivenNames.{names_at, name_at}
use Rattle.plir_print.specs.Dictionaries.{dictionary, shown}
use Rattle.plir_print.specs.Headers.{header_of, names_text, signature_text, some_type_text, successor_text}
use Rattle.plir_print.specs.Headers.{successors_text, value_type_text}
use Rattle.plir_print.specs.OpText.{equals_behind, results_text}
use Rattle.plir_print.specs.ValueNames.{block_name, name_from, results_of, value_name}
use Rattle.plir_read_own.specs.OwnGrammar.{SpellsHeader, SpellsLabel, SpellsNames, SpellsSignature, has_point}
use Rattle.plir_read_own.specs.OwnTerms.{Header, num_types}
use Rattle.plir_roundtrip.specs.Readable.{AreValuesReadable}
use Rattle.plir_roundtrip.specs.Written.{some_type_term}
use Rattle.plir_roundtrip.specs.IrWritten.{names_of, own_header, signature_written}
use Rattle.plir_roundtrip.proofs.Children.{in_row}
use Rattle.plir_roundtrip.proofs.Joined.{Behind, Between, Then, blank-shown, both-run, both-shown, run-shown}
use Rattle.plir_roundtrip.proofs.Joined.{sign-shown, tail-shown}
use Rattle.plir_roundtrip.proofs.ListsShown.{as_many, several-shown, some-shown, types-shown}
use Rattle.plir_roundtrip.proofs.PartsShown.{AreWritable, bracketed, entries-shown, typed-tail}
use Rattle.plir_roundtrip.proofs.PrintedNames.{argument_name_good, block_name_good, result_name_good}

-- ---- names and types of values

-- a name, and a label behind its sign
name-shown : (w : List ℕ) → is_identifier w ≡ true → Shown (SpellsIdentifier w) w
name-shown w h = Shown-as (λ ts s. (h, s)) (word-shown w (identifier_is_word w h))

label-shown : (w : List ℕ) → is_identifier w ≡ true → Shown (SpellsLabel w) (94 ∷ w)
label-shown w h =
    Shown-as (λ ts s. (h, s.2 ∙ ap (λ l. sign 94 ∷ l) s.1))
    (sign-shown 94 (look-sign 94 refl) (run-shown (word-shown w (identifier_is_word w h))))

module _ {K A T : Type 0} (s : ContextView K A T) where
  -- a name that is an identifier, if any, and a builtin type
  pub record IsShownValue (v : Value) : Type 0 where
    pub named : IsNameOrMark (name_at (names_at s v.entity) v.index)
    pub handle : ℕ
    pub has : type_of_value s v ≡ Some handle
    pub builtin : IsBuiltin (tree_of s.types handle)

  -- what an own operation makes and uses can be named
  pub record IsShownOwn (p : Ptr OperationKind) : Type 0 where
    pub operands : (v : Value) → Has (operands_of s p) v → IsShownValue v
    pub results : (v : Value) → Has (results_of s p) v → IsShownValue v
    pub successors : (b : Ptr BlockKind) → Has (successors_of s p) b → IsNameOrMark (label_of s b)

  name_good : (e : DefiningEntity) (i : ℕ) → IsNameOrMark (name_at (names_at s e) i)
      → is_identifier (name_from s e i) ≡ true
  name_good (Op p) i n = result_name_good s p i n
  name_good (Block b) i n = argument_name_good s b i n

  value-shown : (v : Value) → IsShownValue v → Shown (SpellsIdentifier (value_name s v)) (value_name s v)
  value-shown v h = name-shown (value_name s v) (name_good v.entity v.index h.named)

  successor-shown : (b : Ptr BlockKind) → IsNameOrMark (label_of s b)
      → Shown (SpellsLabel (block_name s b)) (successor_text s b)
  successor-shown b n = label-shown (block_name s b) (block_name_good s b n)

  -- the results of an operation
  pub result_shown : (p : Ptr OperationKind) → AreValuesReadable s (Op p) → (v : Value) → Has (results_of s p) v
      → IsShownValue v
  result_shown p r v h =
      let at = in_row (λ i. record { entity = Op p; index = i }) 0 (length (types_from s (Op p))) v h in
      let lt : at.0 < length (types_from s (Op p)) = omega (arith, at.1) in
      let here : IsShownValue (record { entity = Op p; index = at.0 }) = record {
        named = r.names at.0 lt;
        handle = get_or (types_from s (Op p)) at.0 0;
        has = slice_get-get_or (types_from s (Op p)) at.0 0 lt;
        builtin = r.types at.0 0 lt;
      } in
      subst IsShownValue (sym at.2) here

  -- names of results and `=`, if there are any, and what stands behind
  behind_names : {F : List Token → Type 0} {text : List ℕ} (vs : List Value)
      → ((v : Value) → Has vs v → IsShownValue v) → Shown F text
      → Shown (Then (SpellsNames (names_of s vs)) F) ((names_text s vs ++ equals_behind vs) ++ text)
  behind_names {F} {text} [] each p = Shown-as (λ ts q. ([], ts, refl, q, refl)) p
  behind_names {F} {text} (v ∷ vs) each p =
      let names =
      some-shown SpellsIdentifier (value_name s) (value_name s) v vs (λ w h. value-shown w (each w h)) in
      let behind =
      tail-shown 32 refl (blank-shown 32 refl
      (sign-shown 61 (look-sign 61 refl) (run-shown (blank-shown 32 refl p)))) in
      subst (Shown (Then (SpellsNames (names_of s (v ∷ vs))) F))
      (sym (append_assoc (names_text s (v ∷ vs)) (codes " = ") text))
      (Shown-as (λ ts q. (
        q.0 ++ sign 61 ∷ [],
        q.3.0,
        (q.0, q.2, refl),
        q.3.1,
        q.4 ∙ ap (λ l. q.0 ++ l) q.3.2 ∙ sym (append_assoc q.0 (sign 61 ∷ []) q.3.0),
      )) (both-shown behind names))

-- ---- behind the id

-- the tokens in brackets, and what stands behind them
closed : (c d : ℕ) (inner rest : List Token) → enclosed c inner d ++ rest ≡ sign c ∷ (inner ++ sign d ∷ rest)
closed c d inner rest = ap (λ l. sign c ∷ l) (append_assoc inner (sign d ∷ []) rest)

module _ {K : Type 0} (h : Header K) where
  -- attributes and types
  abbrev SpellsTyped : List Token → Type 0
  SpellsTyped ts =
      Then (Between 91 93 (SpellsEntries h.entries)) (Behind 58 (SpellsSignature h.signature)) ts

  -- successors, and what stands behind them
  abbrev SuccessorsOn : List Token → Type 0
  SuccessorsOn ts = Then (SpellsSeveral SpellsLabel h.uses.successors) (Behind 93 SpellsTyped) ts

  -- operands likewise
  abbrev OperandsOn : List Token → Type 0
  OperandsOn ts = Then (SpellsSeveral SpellsIdentifier h.uses.operands) (Behind 41 (Behind 91 SuccessorsOn)) ts

  -- what stands behind the id, by its parts
  record AreBehind (ts : List Token) : Type 0 where
    operands : List Token
    successors : List Token
    entries : List Token
    signature : List Token
    are_operands : SpellsSeveral SpellsIdentifier h.uses.operands operands
    are_successors : SpellsSeveral SpellsLabel h.uses.successors successors
    are_entries : SpellsEntries h.entries entries
    is_signature : SpellsSignature h.signature signature
    tokens : ts ≡ (enclosed 40 operands 41 ++ enclosed 91 successors 93) ++
        (enclosed 91 entries 93 ++ sign 58 ∷ signature)

  uses_grouped : (operands successors rest : List Token)
      → sign 40 ∷ (operands ++ sign 41 ∷ sign 91 ∷ (successors ++ sign 93 ∷ rest)) ≡
      (enclosed 40 operands 41 ++ enclosed 91 successors 93) ++ rest
  uses_grouped operands successors rest =
      sym (append_assoc (enclosed 40 operands 41) (enclosed 91 successors 93) rest
      ∙ closed 40 41 operands (enclosed 91 successors 93 ++ rest)
      ∙ ap (λ l. sign 40 ∷ (operands ++ sign 41 ∷ l)) (closed 91 93 successors rest))

  typed_tokens : (ts : List Token) (q : SpellsTyped ts) → ts ≡ enclosed 91 q.2.0 93 ++ sign 58 ∷ q.3.0
  typed_tokens ts q = q.4 ∙ ap (λ l. l ++ q.1) q.2.2 ∙ ap (λ l. enclosed 91 q.2.0 93 ++ l) q.3.2

  are_behind : (ts : List Token) → Behind 40 OperandsOn ts → AreBehind ts
  are_behind ts q =
      let operands = q.1 in
      let bracket = operands.3.1 in
      let successors = bracket.1 in
      let typed = successors.3.1 in
      record {
        operands = operands.0;
        successors = successors.0;
        entries = typed.2.0;
        signature = typed.3.0;
        are_operands = operands.2;
        are_successors = successors.2;
        are_entries = typed.2.1;
        is_signature = typed.3.1;
        tokens =
            q.2
            ∙ ap (λ l. sign 40 ∷ l) (operands.4 ∙ ap (λ l. operands.0 ++ l) operands.3.2)
            ∙ ap (λ l. sign 40 ∷ (operands.0 ++ sign 41 ∷ l)) bracket.2
            ∙ ap (λ l. sign 40 ∷ (operands.0 ++ sign 41 ∷ sign 91 ∷ l))
            (successors.4 ∙ ap (λ l. successors.0 ++ l) successors.3.2)
            ∙ ap (λ l. sign 40 ∷ (operands.0 ++ sign 41 ∷ sign 91 ∷ (successors.0 ++ sign 93 ∷ l)))
            (typed_tokens successors.3.0 typed)
            ∙ uses_grouped operands.0 successors.0 (enclosed 91 typed.2.0 93 ++ sign 58 ∷ typed.3.0);
      }

  -- an id and what stands behind it
  abbrev BehindId : (id : List ℕ) → List Token → Type 0
  BehindId id ts = (behind : List Token) × Behind 40 OperandsOn behind × (ts ≡ word id ∷ behind)

  header_spelled : (find : List ℕ → Option K) (id : List ℕ) → has_point id ≡ true → find id ≡ Some h.kind
      → length h.uses.operands ≡ num_types h.signature.operand_types
      → num_types h.signature.result_types ≡ length h.names → (ts : List Token)
      → Then (SpellsNames h.names) (BehindId id) ts → SpellsHeader find h ts
  header_spelled find id point found operands results ts q =
      let b = are_behind q.3.0 q.3.1 in
      record {
        names = q.0;
        id = word id ∷ [];
        uses = enclosed 40 b.operands 41 ++ enclosed 91 b.successors 93;
        entries = b.entries;
        signature = b.signature;
        are_names = q.2;
        is_id = (id, point, found, refl);
        are_uses = (b.operands, b.successors, b.are_operands, b.are_successors, refl);
        are_entries = b.are_entries;
        is_signature = b.is_signature;
        typed_operands = operands;
        typed_results = results;
        tokens = q.4 ∙ ap (λ l. q.0 ++ l) (q.3.2 ∙ ap (λ l. word id ∷ l) b.tokens);
      }

  -- behind the id, as it is printed
  behind_id-shown : {operands successors entries signature : List ℕ}
      → Run (SpellsSeveral SpellsIdentifier h.uses.operands) operands
      → Run (SpellsSeveral SpellsLabel h.uses.successors) successors
      → Run (SpellsEntries h.entries) entries → Shown (SpellsSignature h.signature) signature
      → Shown (Behind 40 OperandsOn)
      (40 ∷ (operands ++ (41 ∷ 32 ∷ 91 ∷
      (successors ++ (93 ∷ 32 ∷ ((91 ∷ (entries ++ 93 ∷ [])) ++ (58 ∷ 32 ∷ signature)))))))
  behind_id-shown operands successors entries signature =
      let typed = both-shown (typed-tail signature) (bracketed entries) in
      let behind_successors =
      tail-shown 93 refl (sign-shown 93 (look-sign 93 refl) (run-shown (blank-shown 32 refl typed))) in
      let listed = sign-shown 91 (look-sign 91 refl) (both-run behind_successors successors) in
      let behind_operands =
      tail-shown 41 refl (sign-shown 41 (look-sign 41 refl) (run-shown (blank-shown 32 refl listed))) in
      sign-shown 40 (look-sign 40 refl) (both-run behind_operands operands)

-- ---- the whole header

regroup : (id operands successors rest : List ℕ)
    → (id ++ (codes " (" ++ (operands ++ (codes ") [" ++ (successors ++ codes "] "))))) ++ rest ≡
    id ++ (32 ∷ 40 ∷ (operands ++ (41 ∷ 32 ∷ 91 ∷ (successors ++ (93 ∷ 32 ∷ rest)))))
regroup id operands successors rest =
    append_assoc id (codes " (" ++ (operands ++ (codes ") [" ++ (successors ++ codes "] ")))) rest
    ∙ ap (λ l. id ++ (32 ∷ 40 ∷ l))
    (append_assoc operands (codes ") [" ++ (successors ++ codes "] ")) rest
    ∙ ap (λ l. operands ++ (41 ∷ 32 ∷ 91 ∷ l)) (append_assoc successors (codes "] ") rest))

module _ {D K A T E : Type 0} (o : op_set.Ghosts D K A T E) (s : ContextView K A T) where
  value_type-shown : (v : Value) → IsShownValue s v
      → Shown (SpellsType (some_type_term s.types (type_of_value s v))) (value_type_text o s v)
  value_type-shown v h =
      subst (λ z. Shown (SpellsType (some_type_term s.types z)) (some_type_text o s z)) (sym h.has)
      (type-shown o.type_id o.type_body_text s.types h.handle h.builtin)

  signed : (p : Ptr OperationKind) → IsShownOwn s p
      → Shown (SpellsSignature (signature_written s p)) (signature_text o s p)
  signed p h =
      signature-shown
      (types-shown (λ v. some_type_term s.types (type_of_value s v)) (value_type_text o s) (operands_of s p)
      (λ v m. value_type-shown v (h.operands v m)))
      (types-shown (λ v. some_type_term s.types (type_of_value s v)) (value_type_text o s) (results_of s p)
      (λ v m. value_type-shown v (h.results v m)))

  -- the results, and the header behind them
  pub own_header-shown : (find : List ℕ → Option K) (k : K) (p : Ptr OperationKind) → is_word (o.kind_id k) ≡ true
      → has_point (o.kind_id k) ≡ true → find (o.kind_id k) ≡ Some k → AreWritable s.types (shown o s p)
      → IsShownOwn s p
      → Shown (SpellsHeader find (own_header o s k p)) (results_text s p ++ header_of o s (Some (Own k)) p)
  own_header-shown find k p is point found writable h =
      let term = own_header o s k p in
      let operands =
      several-shown SpellsIdentifier (value_name s) (value_name s) (operands_of s p)
      (λ v m. value-shown s v (h.operands v m)) in
      let successors =
      several-shown SpellsLabel (block_name s) (successor_text s) (successors_of s p)
      (λ b m. successor-shown s b (h.successors b m)) in
      let entries = entries-shown o.attr_id o.attr_text o.type_id o.type_body_text s.types (shown o s p) writable in
      let behind = behind_id-shown term operands successors entries (signed p h) in
      let text =
      regroup (o.kind_id k) (names_text s (operands_of s p)) (successors_text s p)
      (dictionary o s p ++ (codes ": " ++ signature_text o s p)) in
      let front = subst (Shown (BehindId term (o.kind_id k))) (sym text) (behind_id (o.kind_id k) is behind) in
      Shown-as (header_spelled term find (o.kind_id k) point found
      (as_many (value_name s) (λ v. some_type_term s.types (type_of_value s v)) (operands_of s p))
      (sym (as_many (value_name s) (λ v. some_type_term s.types (type_of_value s v)) (results_of s p))))
      (behind_names s (results_of s p) h.results front)
