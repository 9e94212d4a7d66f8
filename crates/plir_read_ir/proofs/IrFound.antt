-- Operations of all kinds that are read stand there.
use Rattle.std.proofs.Common.{◌≡◌, ℕ, zero, suc, ◌≤◌, Bool, List, [], ◌∷◌, ◌++◌, length, Option, Some, None}
use Rattle.std.proofs.Common.{Result, Ok, Err, refl, sym, ap, subst, ◌∙◌, arith, append-nil, append_assoc, inl, inr}
use Rattle.plir_attr_text.specs.Lists.{past_sign, sign_at, more_at, unless_closed}
use Rattle.plir_attr_text.specs.Steps.{◌>>=◌, read_as}
use Rattle.plir_attr_text.specs.Tokens.{Token, sign, look, Begins}
use Rattle.plir_attr_text.specs.TypeGrammar.{IsText, enclosed}
use Rattle.plir_attr_text.specs.TypeReading.{word_at}
use Rattle.plir_attr_text.specs.Wholes.{whole}
use Rattle.plir_attr_text.specs.declared.fault.Fault.{Fault}
use Rattle.plir_attr_text.specs.declared.fault.Fault.TheVariants.{TooDeep}
use Rattle.plir_attr_text.specs.laws.Begun.{Begins-append, past_sign_found, sign_found}
use Rattle.plir_attr_text.specs.laws.ListsFound.{After, Chain, FoundOne, IsSound, several_found, whole_found}
use Rattle.plir_attr_text.specs.laws.StepLaws.{bind_ok, chosen, done, ok_is}
use Rattle.plir_read.specs.OpReading.{block_head_at, brace_at, ends_block, first_name, header_at, named}
use Rattle.plir_read.specs.OpReading.{named_constant_at}
use Rattle.plir_read.specs.OpReading.{semicolon_at}
use Rattle.plir_read.specs.OpTerms.{BlockHead, block_levels}
use Rattle.plir_read.specs.declared.heads.BodyKind.{BodyKind}
use Rattle.plir_read.specs.declared.heads.HeadKind.TheVariants.{Bodied, Constant, ForwardRef}
use Rattle.plir_read.specs.laws.OpFound.{block_head_found, brace_found, by_brace, by_semicolon, semicolon_found}
use Rattle.plir_read.specs.laws.StartFound.{named_is}
use Rattle.plir_read_ir.specs.IrGrammar.{HasRegions, IrWithin, SpellsBlocks, SpellsMoreOps, SpellsOps}
use Rattle.plir_read_ir.specs.IrGrammar.{SpellsRegions}
use Rattle.plir_read_ir.specs.IrOpReading.{another_at, behind_id, block_at, bodied_at, ir_op_at, opens_region, ops_at}
use Rattle.plir_read_ir.specs.IrOpReading.{own_at, region_at, regions_at}
use Rattle.plir_read_ir.specs.IrReading.{header_with, ir_opening_at, parts_at}
use Rattle.plir_read_ir.specs.IrTerms.{Front, bodied_front, constant_front, own_front, IrOp, ir_op, IrRegions}
use Rattle.plir_read_ir.specs.IrTerms.{no_regions}
use Rattle.plir_read_ir.specs.IrTerms.{region_before, ops_of, blocks_of, regions_of}
use Rattle.plir_read_ir.specs.IrTerms.{regions_levels, blocks_levels, ops_levels}
use Rattle.plir_read_ir.specs.Readings.{IsFrontRead, SpellsBlock, SpellsBody}
use Rattle.plir_read_ir.specs.declared.openings.IrKind.{IrKind}
use Rattle.plir_read_ir.specs.declared.openings.IrKind.TheVariants.{Builtin, Own}
use Rattle.plir_read_ir.proofs.Grammar.{front_found}

module _ {K : Type 0} (find : List ℕ → Option K) (n : ℕ) where
  -- ---- lists of operations, of blocks and of regions, with at most n levels in them

  abbrev OpsWithin : List (IrOp K) → List Token → Type 0
  OpsWithin os ts = SpellsOps find (ops_of os) ts × (ops_levels (ops_of os) ≤ n)

  abbrev BlockWithin : BlockHead × List (IrOp K) → List Token → Type 0
  BlockWithin b ts = SpellsBlock find (b.0, ops_of b.1) ts × (block_levels b.0 ≤ n) × (ops_levels (ops_of b.1) ≤ n)

  abbrev RegionWithin : List (BlockHead × List (IrOp K)) → List Token → Type 0
  RegionWithin bs ts = SpellsBody find (blocks_of bs) ts × (blocks_levels (blocks_of bs) ≤ n)

  abbrev RegionsWithin : List (List (BlockHead × List (IrOp K))) → List Token → Type 0
  RegionsWithin rs ts = SpellsRegions find (regions_of rs) ts × (regions_levels (regions_of rs) ≤ n)

  -- blocks up to the closing brace
  record WroteBlocks (bs : List (BlockHead × List (IrOp K))) (ts : List Token) : Type 0 where
    body : List Token
    spelled : SpellsBlocks find (blocks_of bs) body
    within : blocks_levels (blocks_of bs) ≤ n
    tokens : ts ≡ body ++ sign 125 ∷ []

  -- nothing parts regions
  abbrev by_nothing : Bool → List Token
  by_nothing b = []

  -- ---- things one behind another stand for a list of them

  more_wrote : (os : List (IrOp K)) (ts : List Token) → After (IrWithin find n) by_semicolon os ts →
      SpellsMoreOps find (ops_of os) ts × (ops_levels (ops_of os) ≤ n)
  more_wrote [] ts h = (h, omega arith)
  more_wrote (o ∷ os) ts h =
      let w = more_wrote os h.1 h.3 in
      ((h.0, h.1, h.2.0, w.0, h.4), omega (arith, h.2.1, w.1))

  ops_wrote : (os : List (IrOp K)) (ts : List Token) → Chain (IrWithin find n) by_semicolon os ts → OpsWithin os ts
  ops_wrote [] ts h = absurd h
  ops_wrote (o ∷ os) ts h =
      let w = more_wrote os h.1 h.3 in
      ((h.0, h.1, h.2.0, w.0, h.4), omega (arith, h.2.1, w.1))

  wrote_block : (b : BlockHead × List (IrOp K)) (bs : List (BlockHead × List (IrOp K))) (first more : List Token) →
      BlockWithin b first → WroteBlocks bs more → WroteBlocks (b ∷ bs) (first ++ more)
  wrote_block b bs first more h w =
      let f = h.0 in
      record {
        body = f.head ++ (f.inside ++ w.body);
        spelled = (f.head, f.inside, w.body, f.head_spelled, f.spelled, w.spelled, refl);
        within = omega (arith, h.1, h.2, w.within);
        tokens = ap (λ (ts : List Token). ts ++ more) f.tokens ∙
            ap (λ (ts : List Token). (f.head ++ f.inside) ++ ts) w.tokens ∙
            append_assoc f.head f.inside (w.body ++ sign 125 ∷ []) ∙
            ap (λ (ts : List Token). f.head ++ ts) (sym (append_assoc f.inside w.body (sign 125 ∷ []))) ∙
            sym (append_assoc f.head (f.inside ++ w.body) (sign 125 ∷ []));
      }

  blocks_wrote : (bs : List (BlockHead × List (IrOp K))) (ts : List Token) → After BlockWithin by_brace bs ts →
      WroteBlocks bs ts
  blocks_wrote [] ts h = record { body = []; spelled = refl; within = omega arith; tokens = h }
  blocks_wrote (b ∷ bs) ts h =
      subst (WroteBlocks (b ∷ bs)) (sym h.4) (wrote_block b bs h.0 h.1 h.2 (blocks_wrote bs h.1 h.3))

  chain_wrote : (bs : List (BlockHead × List (IrOp K))) (ts : List Token) → Chain BlockWithin by_brace bs ts →
      WroteBlocks bs ts
  chain_wrote [] ts h = absurd h
  chain_wrote (b ∷ bs) ts h =
      subst (WroteBlocks (b ∷ bs)) (sym h.4) (wrote_block b bs h.0 h.1 h.2 (blocks_wrote bs h.1 h.3))

  more_regions : (rs : List (List (BlockHead × List (IrOp K)))) (ts : List Token) → After RegionWithin by_nothing rs ts →
      RegionsWithin rs ts
  more_regions [] ts h = (h, omega arith)
  more_regions (bs ∷ rs) ts h =
      let w = more_regions rs h.1 h.3 in
      let f = h.2.0 in
      ((f.0, h.1, f.1, w.0, h.4 ∙ ap (λ (l : List Token). l ++ h.1) f.2), omega (arith, h.2.1, w.1))

  regions_wrote : (rs : List (List (BlockHead × List (IrOp K)))) (ts : List Token) → Chain RegionWithin by_nothing rs ts →
      RegionsWithin rs ts
  regions_wrote [] ts h = absurd h
  regions_wrote (bs ∷ rs) ts h =
      let w = more_regions rs h.1 h.3 in
      let f = h.2.0 in
      ((f.0, h.1, f.1, w.0, h.4 ∙ ap (λ (l : List Token). l ++ h.1) f.2), omega (arith, h.2.1, w.1))

  another_found : (bytes : List ℕ) (s : Bool × List ℕ) → another_at bytes ≡ Ok s → Begins bytes (by_nothing s.0) s.1
  unfolding another_at
  another_found bytes s e = ap (λ (y : Bool × List ℕ). y.1) (ok_is (opens_region bytes, bytes) s e)

  -- ---- what is read stands there, if each operation does

  module _ (read : List ℕ → Result (IrOp K × List ℕ) Fault) (sound : IsSound (IrWithin find n) read) where
    ops_found : IsSound OpsWithin (ops_at read)
    unfolding ops_at
    ops_found bytes x e =
        elim (chosen (ends_block bytes) (done ([], bytes)) (more_at semicolon_at read (suc (length bytes)) bytes)
        (done x) e) [
          | inl h ↦
              let none : FoundOne OpsWithin bytes [] bytes = record {
                tokens = [];
                begins = refl;
                spelled = (refl, omega arith);
              } in
              subst (λ (y : List (IrOp K) × List ℕ). FoundOne OpsWithin bytes y.0 y.1) (ok_is ([], bytes) x h.1) none
          | inr h ↦
              let f = several_found (IrWithin find n) by_semicolon semicolon_at semicolon_found read sound
              (suc (length bytes)) bytes x h.1 in
              record { tokens = f.tokens; begins = f.begins; spelled = ops_wrote x.0 f.tokens f.spelled }
        ]

    block_found : IsSound BlockWithin (block_at read n)
    unfolding block_at
    block_found bytes x e =
        let a = bind_ok (block_head_at n bytes) (λ w. ops_at read w.1 >>= λ os. Ok ((w.0, os.0), os.1)) x e in
        let b = bind_ok (ops_at read a.0.1) (λ os. done ((a.0.0, os.0), os.1)) x a.2 in
        let h = block_head_found n bytes a.0 a.1 in
        let o = ops_found a.0.1 b.0 b.1 in
        let found : FoundOne BlockWithin bytes (a.0.0, b.0.0) b.0.1 = record {
          tokens = h.tokens ++ o.tokens;
          begins = Begins-append h.tokens o.tokens bytes a.0.1 b.0.1 h.begins o.begins;
          spelled = (
            record {
              head = h.tokens;
              inside = o.tokens;
              head_spelled = h.spelled.0;
              spelled = o.spelled.0;
              tokens = refl;
            },
            h.spelled.1,
            o.spelled.1,
          );
        } in
        subst (λ (y : (BlockHead × List (IrOp K)) × List ℕ). FoundOne BlockWithin bytes y.0 y.1)
        (ok_is ((a.0.0, b.0.0), b.0.1) x b.2) found

    region_found : IsSound RegionWithin (region_at read n)
    unfolding region_at
    region_found bytes x e =
        let a = bind_ok (sign_at 123 bytes) (λ start. unless_closed (past_sign 125 start)
        (more_at brace_at (block_at read n) (suc (length start)) start)) x e in
        at a.0 (sign_found 123 bytes a.0 a.1) (past_sign 125 a.0) refl a.2
      where
        at : (start : List ℕ) → look bytes ≡ Ok (sign 123, start) → (o : Option (List ℕ)) → past_sign 125 start ≡ o →
            unless_closed o (more_at brace_at (block_at read n) (suc (length start)) start) ≡ Ok x →
            FoundOne RegionWithin bytes x.0 x.1
        at start s (Some rest) p h =
            let none : FoundOne RegionWithin bytes [] rest = record {
              tokens = enclosed 123 [] 125;
              begins = (start, s, (rest, past_sign_found 125 start rest p, refl));
              spelled = (([], refl, refl), omega arith);
            } in
            subst (λ (y : List (BlockHead × List (IrOp K)) × List ℕ). FoundOne RegionWithin bytes y.0 y.1)
            (ok_is ([], rest) x h) none
        at start s None p h =
            let f = several_found BlockWithin by_brace brace_at brace_found (block_at read n) block_found
            (suc (length start)) start x h in
            let w = chain_wrote x.0 f.tokens f.spelled in
            record {
              tokens = enclosed 123 w.body 125;
              begins = (start, s, subst (λ ts. Begins start ts x.1) w.tokens f.begins);
              spelled = ((w.body, w.spelled, refl), w.within);
            }

    regions_found : IsSound RegionsWithin (regions_at read n)
    unfolding regions_at
    regions_found bytes x e =
        elim (chosen (opens_region bytes) (more_at another_at (region_at read n) (suc (length bytes)) bytes)
        (done ([], bytes)) (done x) e) [
          | inl h ↦
              let f = several_found RegionWithin by_nothing another_at another_found (region_at read n) region_found
              (suc (length bytes)) bytes x h.1 in
              record { tokens = f.tokens; begins = f.begins; spelled = regions_wrote x.0 f.tokens f.spelled }
          | inr h ↦
              let none : FoundOne RegionsWithin bytes [] bytes = record {
                tokens = [];
                begins = refl;
                spelled = (refl, omega arith);
              } in
              subst (λ (y : List (List (BlockHead × List (IrOp K))) × List ℕ). FoundOne RegionsWithin bytes y.0 y.1)
              (ok_is ([], bytes) x h.1) none
        ]

    -- what stands before the regions, and the regions
    both_found : (bytes : List ℕ) (ws : List (List ℕ)) (k : IrKind K) (rest mid end : List ℕ) (f : Front K)
        (rs : IrRegions K) (us : List Token) → ir_opening_at find bytes ≡ Ok ((ws, k), rest) →
        IsFrontRead n ws k rest mid f → HasRegions f rs → Begins mid us end → SpellsRegions find rs us →
        regions_levels rs ≤ n → FoundOne (IrWithin find (suc n)) bytes (ir_op f rs) end
    both_found bytes ws k rest mid end f rs us e r has b s le =
        let h = front_found find n bytes ws k rest mid f e r in
        record {
          tokens = h.tokens ++ us;
          begins = Begins-append h.tokens us bytes mid end h.begins b;
          spelled = ((h.tokens, us, has, h.spelled.0, s, refl), omega (arith, h.spelled.1, le));
        }

    bodied_found : (bytes : List ℕ) (ws : List (List ℕ)) (k : BodyKind) (rest : List ℕ) (x : IrOp K × List ℕ) →
        ir_opening_at find bytes ≡ Ok ((ws, Builtin (Bodied k)), rest) →
        bodied_at read n k (length ws) rest ≡ Ok x → FoundOne (IrWithin find (suc n)) bytes x.0 x.1
    unfolding bodied_at
    bodied_found bytes ws k rest x o e =
        let a = bind_ok (named 0 (length ws)) (λ u. header_at n k rest >>= λ h. region_at read n h.1 >>=
        λ bs. Ok (ir_op (bodied_front h.0) (region_before (blocks_of bs.0) no_regions), bs.1)) x e in
        let b = bind_ok (header_at n k rest) (λ h. region_at read n h.1 >>=
        λ bs. Ok (ir_op (bodied_front h.0) (region_before (blocks_of bs.0) no_regions), bs.1)) x a.2 in
        let d = bind_ok (region_at read n b.0.1) (λ bs. done
        (ir_op (bodied_front b.0.0) (region_before (blocks_of bs.0) no_regions), bs.1)) x b.2 in
        let f = region_found b.0.1 d.0 d.1 in
        let s = f.spelled.0 in
        subst (λ (y : IrOp K × List ℕ). FoundOne (IrWithin find (suc n)) bytes y.0 y.1) (ok_is _ x d.2)
        (both_found bytes ws (Builtin (Bodied k)) rest b.0.1 d.0.1 (bodied_front b.0.0)
        (region_before (blocks_of d.0.0) no_regions) f.tokens o
        (b.0.0, named_is 0 (length ws) a.0 a.1, b.1, refl) (blocks_of d.0.0, refl) f.begins
        (s.0, [], s.1, refl, s.2 ∙ sym (append-nil (enclosed 123 s.0 125))) (omega (arith, f.spelled.1)))

    constant_found : (bytes : List ℕ) (ws : List (List ℕ)) (rest : List ℕ) (x : IrOp K × List ℕ) →
        ir_opening_at find bytes ≡ Ok ((ws, Builtin Constant), rest) →
        read_as (λ c. ir_op (constant_front (first_name ws) c.0 c.1) no_regions) (named_constant_at n (length ws) rest)
        ≡ Ok x → FoundOne (IrWithin find (suc n)) bytes x.0 x.1
    constant_found bytes ws rest x o e =
        let a = bind_ok (named_constant_at n (length ws) rest)
        (λ c. done (ir_op (constant_front (first_name ws) c.0.0 c.0.1) no_regions, c.1)) x e in
        subst (λ (y : IrOp K × List ℕ). FoundOne (IrWithin find (suc n)) bytes y.0 y.1) (ok_is _ x a.2)
        (both_found bytes ws (Builtin Constant) rest a.0.1 a.0.1 (constant_front (first_name ws) a.0.0.0 a.0.0.1)
        no_regions [] o (a.0.0, a.1, refl) refl refl refl (omega arith))

    own_found : (bytes : List ℕ) (ws : List (List ℕ)) (k : K) (rest : List ℕ) (x : IrOp K × List ℕ) →
        ir_opening_at find bytes ≡ Ok ((ws, Own k), rest) → own_at read n ws k rest ≡ Ok x →
        FoundOne (IrWithin find (suc n)) bytes x.0 x.1
    unfolding own_at
    own_found bytes ws k rest x o e =
        let a = bind_ok (parts_at n (length ws) rest) (λ p. regions_at read n p.1 >>=
        λ rs. Ok (ir_op (own_front (header_with ws k p.0)) (regions_of rs.0), rs.1)) x e in
        let b = bind_ok (regions_at read n a.0.1)
        (λ rs. done (ir_op (own_front (header_with ws k a.0.0)) (regions_of rs.0), rs.1)) x a.2 in
        let f = regions_found a.0.1 b.0 b.1 in
        subst (λ (y : IrOp K × List ℕ). FoundOne (IrWithin find (suc n)) bytes y.0 y.1) (ok_is _ x b.2)
        (both_found bytes ws (Own k) rest a.0.1 b.0.1 (own_front (header_with ws k a.0.0)) (regions_of b.0.0) f.tokens o
        (a.0.0, a.1, refl) tt f.begins f.spelled.0 f.spelled.1)

    behind_found : (bytes : List ℕ) (ws : List (List ℕ)) (k : IrKind K) (rest : List ℕ) (x : IrOp K × List ℕ) →
        ir_opening_at find bytes ≡ Ok ((ws, k), rest) → behind_id read n ws k rest ≡ Ok x →
        FoundOne (IrWithin find (suc n)) bytes x.0 x.1
    behind_found bytes ws (Builtin (Bodied k)) rest x o e = bodied_found bytes ws k rest x o e
    behind_found bytes ws (Builtin Constant) rest x o e = constant_found bytes ws rest x o e
    behind_found bytes ws (Builtin ForwardRef) rest x o e = absurd (let v = e in cc)
    behind_found bytes ws (Own k) rest x o e = own_found bytes ws k rest x o e

module _ {K : Type 0} (find : List ℕ → Option K) where
  too_deep : (x : IrOp K × List ℕ) → Err TooDeep ≡ done x → ⊥
  too_deep x e = cc

  op_found : (n : ℕ) → IsSound (IrWithin find n) (ir_op_at find n)
  unfolding ir_op_at
  op_found zero bytes x e = let a = bind_ok (word_at bytes) (λ w. Err TooDeep) x e in absurd (too_deep x a.2)
  op_found (suc n) bytes x e =
      let a = bind_ok (ir_opening_at find bytes) (λ s. behind_id (ir_op_at find n) n s.0.0 s.0.1 s.1) x e in
      behind_found find n (ir_op_at find n) (op_found n) bytes a.0.0.0 a.0.0.1 a.0.1 x a.1 a.2

  -- a whole text that is read stands for what is read
  pub text_found : (n : ℕ) (bytes : List ℕ) (o : IrOp K) → whole (ir_op_at find n) bytes ≡ Ok o →
      IsText (IrWithin find n) bytes o
  text_found n bytes o e = whole_found (IrWithin find n) 41 (ir_op_at find n) (op_found n) bytes o e
