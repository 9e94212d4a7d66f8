-- The numbers of what heads and operations hold, and ends of texts behind them.
use Rattle.std.proofs.Common.{◌≡◌, ◌<◌, ℕ, zero, suc, List, [], ◌∷◌, length, replicate, Ok, Err, Result, Option, Some}
use Rattle.std.proofs.Common.{None}
use Rattle.std.proofs.Common.{option_map, refl, sym, ap, subst, ◌∙◌, append-nil, arith}
use Rattle.std.specs.Prelude.{All}
use Rattle.std.proofs.lemmas.List.Elements.{All-nil, All-cons}
use Rattle.std.proofs.lemmas.List.{length-map}
use Rattle.plir_data.specs.Types.{TypeView, AllLive}
use Rattle.plir_core.specs.ContextView.{ContextView, IsLive}
use Rattle.plir_core.specs.declared.ptr.Ptr.{Ptr}
use Rattle.plir_core.specs.declared.ptr.Region.{Region as RegionKind}
use Rattle.plir_core.specs.declared.ptr.BasicBlock.{BasicBlock as BlockKind}
use Rattle.plir_core.specs.declared.ptr.IRNode.TheVariants.{BasicBlock}
use Rattle.plir_attr_text.specs.Names.{NamesAll}
use Rattle.plir_attr_text.specs.laws.Growth.{both_live}
use Rattle.plir_attr_text.specs.declared.fault.Fault.{Fault}
use Rattle.plir_attr_text.specs.Steps.{◌>>=◌}
use Rattle.plir_attr_text.specs.laws.Begun.{Begins-length, word_found, look-shorter}
use Rattle.plir_attr_text.specs.laws.Ends.{IsEnd, end_on, found_end, takes_end}
use Rattle.plir_attr_text.specs.laws.LeavesFound.{found-shorter}
use Rattle.plir_attr_text.specs.laws.StepLaws.{bind_ok, done, ok_is}
use Rattle.plir_attr_text.specs.TypeReading.{word_at}
use Rattle.plir_attr_text.specs.Tokens.{word}
use Rattle.plir_read.specs.Heads.{argument_types}
use Rattle.plir_read.specs.OpReading.{block_head_at, constant_at, named, named_constant_at, op_id, op_kind}
use Rattle.plir_read.specs.OpTerms.{Argument, BlockHead}
use Rattle.plir_attr_text.specs.Terms.{AttrTerm, TypeTerm, TypeTerms, no_types}
use Rattle.plir_read.specs.declared.heads.HeadKind.{HeadKind}
use Rattle.plir_read.specs.laws.OpFound.{BlockHeadWithin, block_head-length, block_head_found}
use Rattle.plir_read.specs.laws.StartFound.{ConstantWithin, constant_found, named_is}
use Rattle.plir_read_own.specs.OwnReading.{kind_at, kind_of, names_before}
use Rattle.plir_read_own.specs.OwnTerms.{num_types}
use Rattle.plir_read_own.specs.laws.Starts.{before_found}
use Rattle.plir_read_own.specs.laws.TypeLists.{as_many}
use Rattle.plir_read_ir.specs.IrMeaning.{IsSpelledHead}
use Rattle.plir_read_ir.specs.Noting.{IsBlockLive}
use Rattle.plir_read_ir.specs.OwnOps.{times}
use Rattle.plir_read_ir.specs.IrReading.{builtin_or, ir_kind_at, ir_opening_at}
use Rattle.plir_read_ir.specs.Spelling.{word_of}
use Rattle.plir_read_ir.specs.declared.heads.SpelledHead.{SpelledHead}
use Rattle.plir_read_ir.specs.declared.openings.IrKind.{IrKind}
use Rattle.plir_read_ir.specs.declared.openings.IrKind.TheVariants.{Builtin, Own}

-- ---- blocks

many_arguments : (as_ : List Argument) → num_types (argument_types as_) ≡ length as_
many_arguments [] = refl
many_arguments (a ∷ as_) = ap (λ k. suc k) (many_arguments as_)

-- as many names as arguments
pub head_counts : {T : Type 0} (types : List (TypeView T)) (h : SpelledHead) (b : BlockHead) → IsSpelledHead types h b →
    length h.words.items ≡ length h.head.arguments.types.items
head_counts types h b is =
    sym (length-map h.words.items word_of) ∙ ap length is.spelled ∙ length-map b.1 (λ (a : Argument). a.0) ∙
    sym (many_arguments b.1) ∙ as_many types h.head.arguments.types.items (argument_types b.1) is.head.arguments.typed

pub head_shorter : (n : ℕ) (bytes : List ℕ) (b : BlockHead) (rest : List ℕ) → block_head_at n bytes ≡ Ok (b, rest) →
    length rest < length bytes
head_shorter n bytes b rest e =
    found-shorter (BlockHeadWithin n) (block_head_at n) (block_head_found n) (λ x ts h. block_head-length x ts h.0) bytes
    (b, rest) e

-- ---- constants

-- the numbers of what is read as a constant behind its id, and an end of the text
pub record ReadConstant (names : ℕ) (bytes rest : List ℕ) : Type 0 where
  pub one : 1 ≡ names
  pub behind : IsEnd bytes rest

pub constant_read : (n names : ℕ) (bytes : List ℕ) (c : AttrTerm × TypeTerm) (rest : List ℕ) →
    named_constant_at n names bytes ≡ Ok (c, rest) → ReadConstant names bytes rest
unfolding named_constant_at
constant_read n names bytes c rest e =
    let a = bind_ok (named 1 names) (λ u. constant_at n bytes) (c, rest) e in
    record {
      one = named_is 1 names a.0 a.1;
      behind = found_end (ConstantWithin n) (constant_at n) (constant_found n) bytes c rest a.2;
    }

-- ---- names of results and ids

word_end : (bytes w rest : List ℕ) → word_at bytes ≡ Ok (w, rest) → IsEnd bytes rest
word_end bytes w rest e = takes_end bytes (word w) rest (word_found bytes (w, rest) e)

word_shorter : (bytes w rest : List ℕ) → word_at bytes ≡ Ok (w, rest) → length rest < length bytes
word_shorter bytes w rest e = look-shorter bytes (word w, rest) (word_found bytes (w, rest) e)

-- an end of the text is left, and it is shorter
pub record IsShorter (bytes rest : List ℕ) : Type 0 where
  pub behind : IsEnd bytes rest
  pub shorter : length rest < length bytes

word_left : (bytes w rest : List ℕ) → word_at bytes ≡ Ok (w, rest) → IsShorter bytes rest
word_left bytes w rest e = record { behind = word_end bytes w rest e; shorter = word_shorter bytes w rest e }

op_id_left : (bytes : List ℕ) (x : HeadKind × List ℕ) → op_id bytes ≡ Ok x → IsShorter bytes x.1
unfolding op_id
op_id_left bytes x e =
    let a = bind_ok (word_at bytes) (λ w. op_kind w.0 >>= λ k. Ok (k, w.1)) x e in
    let b = bind_ok (op_kind a.0.0) (λ k. done (k, a.0.1)) x a.2 in
    subst (λ (z : HeadKind × List ℕ). IsShorter bytes z.1) (ok_is (b.0, a.0.1) x b.2)
    (word_left bytes a.0.0 a.0.1 a.1)

module _ {K : Type 0} (find : List ℕ → Option K) where
  kind_left : (bytes : List ℕ) (x : K × List ℕ) → kind_at find bytes ≡ Ok x → IsShorter bytes x.1
  unfolding kind_at
  kind_left bytes x e =
      let a = bind_ok (word_at bytes) (λ w. kind_of find w.0 >>= λ k. Ok (k, w.1)) x e in
      let b = bind_ok (kind_of find a.0.0) (λ k. done (k, a.0.1)) x a.2 in
      subst (λ (z : K × List ℕ). IsShorter bytes z.1) (ok_is (b.0, a.0.1) x b.2) (word_left bytes a.0.0 a.0.1 a.1)

  either_left : (bytes : List ℕ) (x : IrKind K × List ℕ) (r : Result (HeadKind × List ℕ) Fault) → op_id bytes ≡ r →
      builtin_or find r (kind_at find bytes) ≡ Ok x → IsShorter bytes x.1
  either_left bytes x (Ok y) f e =
      subst (λ (z : IrKind K × List ℕ). IsShorter bytes z.1) (ok_is (Builtin y.0, y.1) x e) (op_id_left bytes y f)
  either_left bytes x (Err d) f e =
      let a = bind_ok (kind_at find bytes) (λ y. done (Own y.0, y.1)) x e in
      subst (λ (z : IrKind K × List ℕ). IsShorter bytes z.1) (ok_is (Own a.0.0, a.0.1) x a.2)
      (kind_left bytes a.0 a.1)

  ir_kind_left : (bytes : List ℕ) (x : IrKind K × List ℕ) → ir_kind_at find bytes ≡ Ok x → IsShorter bytes x.1
  unfolding ir_kind_at
  ir_kind_left bytes x e = either_left bytes x (op_id bytes) refl e

  pub opening_left : (bytes : List ℕ) (x : (List (List ℕ) × IrKind K) × List ℕ) → ir_opening_at find bytes ≡ Ok x →
      IsShorter bytes x.1
  unfolding ir_opening_at
  opening_left bytes x e =
      let a = bind_ok (names_before bytes) (λ ns. ir_kind_at find ns.1 >>= λ k. Ok ((ns.0, k.0), k.1)) x e in
      let b = bind_ok (ir_kind_at find a.0.1) (λ k. done ((a.0.0, k.0), k.1)) x a.2 in
      let f = before_found bytes a.0 a.1 in
      let k = ir_kind_left a.0.1 b.0 b.1 in
      let whole : IsShorter bytes b.0.1 = record {
        behind = end_on bytes a.0.1 b.0.1 (f.tokens, f.begins) k.behind;
        shorter = omega (arith, Begins-length f.tokens bytes a.0.1 f.begins, k.shorter);
      } in
      subst (λ (z : (List (List ℕ) × IrKind K) × List ℕ). IsShorter bytes z.1)
      (ok_is ((a.0.0, b.0.0), b.0.1) x b.2) whole

-- ---- what an own operation is made of

pub all_live : {T : Type 0} (types : List (TypeView T)) (hs : List ℕ) (ts : TypeTerms) → NamesAll types hs ts →
    AllLive types hs
all_live types hs ts n =
    subst (AllLive types) (append-nil hs) (both_live types hs [] ts no_types n refl)

all_replicated : {X : Type 0} (P : X → Type 0) (x : X) (n : ℕ) → P x → All P (replicate n x)
all_replicated P x zero h = All-nil P
all_replicated P x (suc n) h = All-cons P x (replicate n x) h (all_replicated P x n h)

-- blocks that stand for successors are live
pub stand_ins_live : {K A T : Type 0} (s : ContextView K A T) (block : Option (Ptr RegionKind × Ptr BlockKind)) (n : ℕ) →
    IsBlockLive s block →
    All (λ (b : Ptr BlockKind). IsLive s (BasicBlock b))
    (times (option_map (λ (b : Ptr RegionKind × Ptr BlockKind). b.1) block) n)
stand_ins_live s None n h = All-nil (λ (b : Ptr BlockKind). IsLive s (BasicBlock b))
stand_ins_live s (Some around) n h = all_replicated (λ (b : Ptr BlockKind). IsLive s (BasicBlock b)) around.1 n h
