-- How operations of all kinds begin, and what comes next in a text.
use Rattle.std.proofs.Common.{true}
use Rattle.std.proofs.Common.{◌≡◌, ℕ, false, List, [], ◌∷◌, ◌++◌, codes, Option, None}
use Rattle.std.proofs.Common.{Result, Ok, Err, refl, sym, ap, subst, ◌∙◌, append_assoc, inl, inr}
use Rattle.plir_attr_text.specs.Lists.{past_sign}
use Rattle.plir_attr_text.specs.Steps.{◌>>=◌}
use Rattle.plir_attr_text.specs.Tokens.{Token, sign, look, Begins}
use Rattle.plir_attr_text.specs.TypeGrammar.{enclosed}
use Rattle.plir_attr_text.specs.TypeReading.{word_at}
use Rattle.plir_attr_text.specs.declared.fault.Fault.{Fault}
use Rattle.plir_attr_text.specs.declared.fault.Fault.TheVariants.{Unexpected}
use Rattle.plir_attr_text.specs.laws.Begun.{Begins-split, past_sign_again}
use Rattle.plir_attr_text.specs.laws.StepLaws.{bind_ok, chosen, done, ok_is}
use Rattle.plir_read.specs.OpGrammar.{SpellsHead}
use Rattle.plir_read.specs.OpReading.{op_id}
use Rattle.plir_read.specs.OpReading.{op_kind, start_at}
use Rattle.plir_read.specs.OpReading.{names_before as bodied_names_before}
use Rattle.plir_read.specs.OpTerms.{BlockHead, Head, module_head, func_head}
use Rattle.plir_read.specs.declared.heads.HeadKind.{HeadKind}
use Rattle.plir_read_own.specs.OwnGrammar.{SpellsKind, SpellsNames, has_point}
use Rattle.plir_read_own.specs.OwnReading.{if_found, kind_at, kind_of, names_before, opening_at}
use Rattle.plir_read_ir.specs.IrGrammar.{own_kind, SpellsBlocks, SpellsFront, SpellsOp}
use Rattle.plir_read_ir.specs.IrOpReading.{another_at, opens_region}
use Rattle.plir_read_ir.specs.IrReading.{ir_kind_at, ir_opening_at}
use Rattle.plir_read_ir.specs.IrTerms.{Front, bodied_front, constant_front, own_front, IrOp, ir_op, IrRegions}
use Rattle.plir_read_ir.specs.IrTerms.{no_regions}
use Rattle.plir_read_ir.specs.IrTerms.{region_before, IrBlocks, no_blocks, block_before, IrOps, no_ops, op_before}
use Rattle.plir_read_ir.specs.IrTerms.{ops_of, blocks_of, regions_of}
use Rattle.plir_read_ir.specs.declared.openings.IrKind.TheVariants.{Builtin, Own}
use Rattle.plir_read_ir.proofs.Grammar.{same_names, unbuiltin}
use Rattle.plir_read_ir.proofs.HeadsAgain.{StartsWord, Ends}
use Rattle.plir_read_ir.proofs.HeadsAgain.{ends_brace, ends_caret, caret_comes}

-- the operations, the blocks and the regions, as lists
module _ {K : Type 0} where
  abbrev pub op_list : IrOps K → List (IrOp K)
  op_list no_ops = []
  op_list (op_before o os) = o ∷ op_list os

  abbrev pub block_list : IrBlocks K → List (BlockHead × List (IrOp K))
  block_list no_blocks = []
  block_list (block_before w os bs) = (w, op_list os) ∷ block_list bs

  abbrev pub region_list : IrRegions K → List (List (BlockHead × List (IrOp K)))
  region_list no_regions = []
  region_list (region_before bs rs) = block_list bs ∷ region_list rs

  pub ops_of-list : (os : IrOps K) → ops_of (op_list os) ≡ os
  ops_of-list no_ops = refl
  ops_of-list (op_before o os) = ap (op_before o) (ops_of-list os)

  pub blocks_of-list : (bs : IrBlocks K) → blocks_of (block_list bs) ≡ bs
  blocks_of-list no_blocks = refl
  blocks_of-list (block_before w os bs) =
      ap (λ x. block_before w x (blocks_of (block_list bs))) (ops_of-list os) ∙
      ap (block_before w os) (blocks_of-list bs)

  pub regions_of-list : (rs : IrRegions K) → regions_of (region_list rs) ≡ rs
  regions_of-list no_regions = refl
  regions_of-list (region_before bs rs) =
      ap (λ x. region_before x (regions_of (region_list rs))) (blocks_of-list bs) ∙
      ap (region_before bs) (regions_of-list rs)

-- ---- names of results, and ids

module _ {K : Type 0} (find : List ℕ → Option K) where
  pub opened_builtin : (bytes : List ℕ) (ws : List (List ℕ)) (k : HeadKind) (rest : List ℕ) →
      start_at bytes ≡ Ok ((ws, k), rest) → ir_opening_at find bytes ≡ Ok ((ws, Builtin k), rest)
  unfolding start_at ir_opening_at ir_kind_at
  opened_builtin bytes ws k rest e =
      let a = bind_ok (bodied_names_before bytes) (λ ns. op_id ns.1 >>= λ j. Ok ((ns.0, j.0), j.1)) ((ws, k), rest) e in
      let b = bind_ok (op_id a.0.1) (λ j. done ((a.0.0, j.0), j.1)) ((ws, k), rest) a.2 in
      rw (same_names bytes ∙ a.1, b.1)
      (ap (λ (y : (List (List ℕ) × HeadKind) × List ℕ). done ((y.0.0, Builtin y.0.1), y.1))
      (ok_is ((a.0.0, b.0.0), b.0.1) ((ws, k), rest) b.2))

  -- the id of a builtin operation names no kind of the set
  unnamed : (w : List ℕ) (j : HeadKind) (k : K) → op_kind w ≡ Ok j → kind_of (own_kind find) w ≡ Ok k → ⊥
  unfolding kind_of
  unnamed w j k h e =
      let none : own_kind find w ≡ None = rw h refl in
      elim (chosen (has_point w) (if_found (own_kind find) (own_kind find w)) (Err Unexpected) (Ok k) e) [
        | inl p ↦ absurd (let q : if_found (own_kind find) None ≡ Ok k = ap (if_found (own_kind find)) (sym none) ∙ p.1 in cc)
        | inr p ↦ absurd (let v = p.1 in cc)
      ]

  no_builtin : (w : List ℕ) (k : K) → kind_of (own_kind find) w ≡ Ok k → (g : Fault) × (op_kind w ≡ Err g)
  no_builtin w k e = at (op_kind w) refl
    where
      at : (r : Result HeadKind Fault) → op_kind w ≡ r → (g : Fault) × (op_kind w ≡ Err g)
      at (Err g) h = (g, h)
      at (Ok j) h = absurd (unnamed w j k h e)

  kind_again : (bytes : List ℕ) (k : K) (rest : List ℕ) → kind_at (own_kind find) bytes ≡ Ok (k, rest) →
      ir_kind_at find bytes ≡ Ok (Own k, rest)
  unfolding kind_at ir_kind_at op_id
  kind_again bytes k rest e =
      let a = bind_ok (word_at bytes) (λ w. kind_of (own_kind find) w.0 >>= λ j. Ok (j, w.1)) (k, rest) e in
      let b = bind_ok (kind_of (own_kind find) a.0.0) (λ j. done (j, a.0.1)) (k, rest) a.2 in
      let g = no_builtin a.0.0 b.0 b.1 in
      rw (a.1, g.1, sym (unbuiltin find a.0.0 g.0 g.1) ∙ b.1)
      (ap (λ (y : K × List ℕ). done (Own y.0, y.1)) (ok_is (b.0, a.0.1) (k, rest) b.2))

  pub opened_own : (bytes : List ℕ) (ws : List (List ℕ)) (k : K) (rest : List ℕ) →
      opening_at (own_kind find) bytes ≡ Ok ((ws, k), rest) → ir_opening_at find bytes ≡ Ok ((ws, Own k), rest)
  unfolding opening_at ir_opening_at
  opened_own bytes ws k rest e =
      let a = bind_ok (names_before bytes) (λ ns. kind_at (own_kind find) ns.1 >>= λ j. Ok ((ns.0, j.0), j.1))
      ((ws, k), rest) e in
      let b = bind_ok (kind_at (own_kind find) a.0.1) (λ j. done ((a.0.0, j.0), j.1)) ((ws, k), rest) a.2 in
      rw (a.1, kind_again a.0.1 b.0.0 b.0.1 b.1)
      (ap (λ (y : (List (List ℕ) × K) × List ℕ). done ((y.0.0, Own y.0.1), y.1))
      (ok_is ((a.0.0, b.0.0), b.0.1) ((ws, k), rest) b.2))

  -- ---- what comes next

  head_starts : (h : Head) (ts : List Token) (bytes rest : List ℕ) → SpellsHead h ts → Begins bytes ts rest →
      StartsWord bytes
  head_starts (module_head w) ts bytes rest s b = let d = subst (λ y. Begins bytes y rest) s.1 b in
      record { text = codes "builtin.module"; rest = d.0; is = d.1 }
  head_starts (func_head w t) ts bytes rest s b = let d = subst (λ y. Begins bytes y rest) s.3 b in
      record { text = codes "builtin.func"; rest = d.0; is = d.1 }

  own_starts : (ws : List (List ℕ)) (k : K) (names id more : List Token) (bytes mid rest : List ℕ) →
      SpellsNames ws names → SpellsKind (own_kind find) k id → Begins bytes names mid → Begins mid (id ++ more) rest →
      StartsWord bytes
  own_starts [] k names id more bytes mid rest h i b c =
      let same : bytes ≡ mid = subst (λ (y : List Token). Begins bytes y mid) h b in
      let d = subst (λ (y : List Token). Begins mid (y ++ more) rest) i.3 c in
      record { text = i.0; rest = d.0; is = ap look same ∙ d.1 }
  own_starts (w ∷ ws) k names id more bytes mid rest h i b c =
      let s = h.1 in
      let all = Begins-split h.0 (sign 61 ∷ []) bytes mid (subst (λ (y : List Token). Begins bytes y mid) h.2 b) in
      let one = Begins-split s.0 s.1 bytes all.0 (subst (λ (y : List Token). Begins bytes y all.0) s.4 all.1) in
      let d = subst (λ (y : List Token). Begins bytes y one.0) s.2.1 one.1 in
      record { text = w; rest = d.0; is = d.1 }

  front_starts : (f : Front K) (ts : List Token) (bytes rest : List ℕ) → SpellsFront find f ts →
      Begins bytes ts rest → StartsWord bytes
  front_starts (bodied_front h) ts bytes rest s b =
      let d = Begins-split s.0 s.1 bytes rest (subst (λ y. Begins bytes y rest) s.4 b) in
      head_starts h.0 s.0 bytes d.0 s.2 d.1
  front_starts (constant_front w a t) ts bytes rest s b = let c = subst (λ y. Begins bytes y rest) s.5 b in
      record { text = w; rest = c.0; is = c.1 }
  front_starts (own_front h) ts bytes rest s b =
      let more = s.uses ++ (enclosed 91 s.entries 93 ++ sign 58 ∷ s.signature) in
      let d = Begins-split s.names (s.id ++ more) bytes rest (subst (λ y. Begins bytes y rest) s.tokens b) in
      own_starts h.names h.kind s.names s.id more bytes d.0 rest s.are_names s.is_id d.1 d.2

  pub op_starts : (o : IrOp K) (ts : List Token) (bytes rest : List ℕ) → SpellsOp find o ts → Begins bytes ts rest →
      StartsWord bytes
  op_starts (ir_op f rs) ts bytes rest s b =
      let c = Begins-split s.0 s.1 bytes rest (subst (λ y. Begins bytes y rest) s.5 b) in
      front_starts f s.0 bytes c.0 s.3 c.1

  -- what stands behind a block of a region
  pub ends_at : (bs : IrBlocks K) (more : List Token) (bytes rest : List ℕ) → SpellsBlocks find bs more →
      Begins bytes (more ++ sign 125 ∷ []) rest → Ends bytes
  ends_at no_blocks more bytes rest s b =
      let c = subst (λ (y : List Token). Begins bytes (y ++ sign 125 ∷ []) rest) s b in
      ends_brace bytes c.0 c.1
  ends_at (block_before h os bs) more bytes rest s b =
      let c = subst (λ (y : List Token). Begins bytes (y ++ sign 125 ∷ []) rest) s.6 b in
      let d = subst (λ (y : List Token). Begins bytes y rest) (append_assoc s.0 (s.1 ++ s.2) (sign 125 ∷ [])) c in
      let e = caret_comes h s.0 ((s.1 ++ s.2) ++ sign 125 ∷ []) bytes rest s.3 d in
      ends_caret bytes e.0 e.1

-- no region begins here
abbrev pub EndsRegions : List ℕ → Type 0
EndsRegions bytes = past_sign 123 bytes ≡ None

pub no_more_regions : (bytes : List ℕ) → EndsRegions bytes → another_at bytes ≡ Ok (false, bytes)
unfolding another_at opens_region
no_more_regions bytes e = rw e refl

pub one_more_region : (bytes start : List ℕ) → look bytes ≡ Ok (sign 123, start) → another_at bytes ≡ Ok (true, bytes)
unfolding another_at opens_region
one_more_region bytes start e = rw (past_sign_again 123 bytes start e) refl
