-- Operations of all kinds that stand there are read.
use Rattle.std.proofs.Common.{◌≡◌, ℕ, zero, suc, ◌<◌, ◌≤◌, false, List, [], ◌∷◌, ◌++◌, length, codes, Option}
use Rattle.std.proofs.Common.{Result, Ok, refl, sym, ap, subst, ◌∙◌, arith, append_assoc}
use Rattle.plir_attr_text.specs.Lists.{more_at}
use Rattle.plir_attr_text.specs.Terms.{AttrTerm, TypeTerm}
use Rattle.plir_attr_text.specs.Tokens.{Token, word, sign, look, Begins}
use Rattle.plir_attr_text.specs.TypeGrammar.{enclosed}
use Rattle.plir_attr_text.specs.declared.fault.Fault.{Fault}
use Rattle.plir_attr_text.specs.laws.Begun.{Begins-split, Begins-length, Takes-shorter, sign_again, past_sign_again}
use Rattle.plir_attr_text.specs.laws.Begun.{no_sign}
use Rattle.plir_attr_text.specs.laws.StepLaws.{done}
use Rattle.plir_read.specs.OpGrammar.{typed_value, SpellsBlockHead}
use Rattle.plir_read.specs.OpReading.{block_head_at, brace_at, constant_at, named, named_constant_at}
use Rattle.plir_read.specs.OpReading.{semicolon_at, start_at}
use Rattle.plir_read.specs.OpTerms.{BlockHead, block_levels, Header as BodiedHeader}
use Rattle.plir_read.specs.declared.heads.HeadKind.TheVariants.{Bodied, Constant}
use Rattle.plir_read.specs.laws.OpFound.{block_head-length}
use Rattle.plir_read_own.specs.OwnGrammar.{SpellsHeader}
use Rattle.plir_read_own.specs.OwnTerms.{Header, header_levels}
use Rattle.plir_read_own.specs.laws.Starts.{opening_again}
use Rattle.plir_read_ir.specs.IrGrammar.{own_kind, SpellsBlocks, SpellsMoreOps, SpellsOp, SpellsOps}
use Rattle.plir_read_ir.specs.IrGrammar.{SpellsRegions}
use Rattle.plir_read_ir.specs.IrOpReading.{another_at, block_at, bodied_at, ir_op_at, opens_region, ops_at, own_at}
use Rattle.plir_read_ir.specs.IrOpReading.{region_at, regions_at}
use Rattle.plir_read_ir.specs.IrReading.{ir_opening_at, parts_at}
use Rattle.plir_read_ir.specs.IrTerms.{bodied_front, constant_front, own_front, IrOp, ir_op, IrRegions, no_regions}
use Rattle.plir_read_ir.specs.IrTerms.{region_before, IrBlocks, no_blocks, block_before, IrOps, no_ops, op_before}
use Rattle.plir_read_ir.specs.IrTerms.{op_levels, regions_levels, blocks_levels, ops_levels}
use Rattle.plir_read_ir.specs.declared.openings.IrKind.TheVariants.{Own}
use Rattle.plir_read_ir.proofs.HeadsAgain.{block_head_again, HeaderRead, header_again, StartsWord, goes_on_word, Ends}
use Rattle.plir_read_ir.proofs.HeadsAgain.{ends_brace, ends_caret, caret_comes, no_semicolon, semicolon_again}
use Rattle.plir_read_ir.proofs.HeadsAgain.{brace_again}
use Rattle.plir_read_ir.proofs.HeadsAgain.{no_brace_yet}
use Rattle.plir_read_ir.proofs.OwnAgain.{counted_again, typed_again, uses_again}
use Rattle.plir_read_ir.proofs.Parts.{parts_is}
use Rattle.plir_read_ir.proofs.StartAgain.{last_again, next_again, constant_starts, constant_again}
use Rattle.plir_read_ir.proofs.OpenedAgain.{op_list, block_list, region_list, blocks_of-list, regions_of-list}
use Rattle.plir_read_ir.proofs.OpenedAgain.{opened_builtin, opened_own, op_starts, EndsRegions, no_more_regions}
use Rattle.plir_read_ir.proofs.OpenedAgain.{one_more_region}

-- ---- parts of an operation, by how operations are read

module _ {X : Type 0} (read : List ℕ → Result (X × List ℕ) Fault) (n : ℕ) where
  no_regions_again : (bytes : List ℕ) → EndsRegions bytes → regions_at read n bytes ≡ Ok ([], bytes)
  unfolding regions_at opens_region
  no_regions_again bytes e = rw e refl

  regions_behind : (bytes start rest : List ℕ) (rs : List (List (BlockHead × List X))) →
      look bytes ≡ Ok (sign 123, start) →
      more_at another_at (region_at read n) (suc (length bytes)) bytes ≡ Ok (rs, rest) →
      regions_at read n bytes ≡ Ok (rs, rest)
  unfolding regions_at opens_region
  regions_behind bytes start rest rs p e = rw (past_sign_again 123 bytes start p) e

  empty_region : (bytes start rest : List ℕ) → look bytes ≡ Ok (sign 123, start) → look start ≡ Ok (sign 125, rest) →
      region_at read n bytes ≡ Ok ([], rest)
  unfolding region_at
  empty_region bytes start rest p q = rw (sign_again 123 bytes start p, past_sign_again 125 start rest q) refl

  region_inside : (bytes start next rest : List ℕ) (bs : List (BlockHead × List X)) →
      look bytes ≡ Ok (sign 123, start) → look start ≡ Ok (sign 94, next) →
      more_at brace_at (block_at read n) (suc (length start)) start ≡ Ok (bs, rest) →
      region_at read n bytes ≡ Ok (bs, rest)
  unfolding region_at
  region_inside bytes start next rest bs p q e =
      rw (sign_again 123 bytes start p, no_sign 125 start (sign 94, next) q refl) e

  block_behind : (w : BlockHead) (bytes mid rest : List ℕ) (os : List X) → block_head_at n bytes ≡ Ok (w, mid) →
      ops_at read mid ≡ Ok (os, rest) → block_at read n bytes ≡ Ok ((w, os), rest)
  unfolding block_at
  block_behind w bytes mid rest os p q = rw (p, q) refl

  no_ops_again : (bytes : List ℕ) → Ends bytes → ops_at read bytes ≡ Ok ([], bytes)
  unfolding ops_at
  no_ops_again bytes e = rw (e.ends) refl

  ops_behind : (bytes rest : List ℕ) (os : List X) → StartsWord bytes →
      more_at semicolon_at read (suc (length bytes)) bytes ≡ Ok (os, rest) → ops_at read bytes ≡ Ok (os, rest)
  unfolding ops_at
  ops_behind bytes rest os s e = rw (goes_on_word bytes s) e

module _ {K : Type 0} (find : List ℕ → Option K) where
  bodied_behind : (n : ℕ) (h : BodiedHeader) (bs : IrBlocks K) (bytes mid rest : List ℕ) → HeaderRead n h bytes mid →
      region_at (ir_op_at find n) n mid ≡ Ok (block_list bs, rest) →
      ir_op_at find (suc n) bytes ≡ Ok (ir_op (bodied_front h) (region_before bs no_regions), rest)
  unfolding ir_op_at bodied_at named
  bodied_behind n h bs bytes mid rest r e =
      rw (opened_builtin find bytes [] (Bodied r.kind) r.behind r.id, r.reads, e)
      (ap (λ x. done (ir_op (bodied_front h) (region_before x no_regions), rest)) (blocks_of-list bs))

  constant_behind : (n : ℕ) (w : List ℕ) (a : AttrTerm) (t : TypeTerm) (bytes mid rest : List ℕ) →
      start_at bytes ≡ Ok ((w ∷ [], Constant), mid) → constant_at n mid ≡ Ok ((a, t), rest) →
      ir_op_at find (suc n) bytes ≡ Ok (ir_op (constant_front w a t) no_regions, rest)
  unfolding ir_op_at named_constant_at named
  constant_behind n w a t bytes mid rest p q = rw (opened_builtin find bytes (w ∷ []) Constant mid p, q) refl

  own_behind : (n : ℕ) (h : Header K) (rs : IrRegions K) (bytes mid behind rest : List ℕ) →
      ir_opening_at find bytes ≡ Ok ((h.names, Own h.kind), mid) →
      parts_at n (length h.names) mid ≡ Ok ((h.uses, (h.entries, h.signature)), behind) →
      regions_at (ir_op_at find n) n behind ≡ Ok (region_list rs, rest) →
      ir_op_at find (suc n) bytes ≡ Ok (ir_op (own_front h) rs, rest)
  unfolding ir_op_at own_at
  own_behind n h rs bytes mid behind rest p q r =
      rw (p, q, r) (ap (λ x. done (ir_op (own_front h) x, rest)) (regions_of-list rs))

  -- an own operation is read before its regions
  record OwnRead (n : ℕ) (h : Header K) (bytes rest : List ℕ) : Type 0 where
    behind : List ℕ
    id : ir_opening_at find bytes ≡ Ok ((h.names, Own h.kind), behind)
    reads : parts_at n (length h.names) behind ≡ Ok ((h.uses, (h.entries, h.signature)), rest)

  own_again : (n : ℕ) (h : Header K) (ts : List Token) (bytes rest : List ℕ) → SpellsHeader (own_kind find) h ts →
      header_levels h ≤ n → Begins bytes ts rest → OwnRead n h bytes rest
  own_again n h ts bytes rest s le b =
      let typed = enclosed 91 s.entries 93 ++ sign 58 ∷ s.signature in
      let d = Begins-split s.names (s.id ++ (s.uses ++ typed)) bytes rest
      (subst (λ (y : List Token). Begins bytes y rest) s.tokens b) in
      let i = Begins-split s.id (s.uses ++ typed) d.0 rest d.2 in
      let u = Begins-split s.uses typed i.0 rest i.2 in
      let t = Begins-split (enclosed 91 s.entries 93) (sign 58 ∷ s.signature) u.0 rest u.2 in
      record {
        behind = i.0;
        id = opened_own find bytes h.names h.kind i.0
            (opening_again (own_kind find) h.names h.kind s.names s.id bytes d.0 i.0 s.are_names s.is_id d.1 i.1);
        reads = parts_is n (length h.names) i.0 u.0 rest h.uses h.entries h.signature
            (uses_again h.uses s.uses i.0 u.0 s.are_uses u.1)
            (typed_again n h.entries h.signature s.entries s.signature u.0 t.0 rest s.are_entries (omega (arith, le))
            s.is_signature (omega (arith, le)) t.1 t.2)
            (counted_again (length h.names) h.uses h.signature s.typed_operands s.typed_results);
      }

  -- ---- some operation, some block, and some region

  abbrev SomeOp : IrOps K → Type 0
  SomeOp no_ops = ⊥
  SomeOp (op_before o os) = Unit {0}

  abbrev SomeBlock : IrBlocks K → Type 0
  SomeBlock no_blocks = ⊥
  SomeBlock (block_before w os bs) = Unit {0}

  abbrev SomeRegion : IrRegions K → Type 0
  SomeRegion no_regions = ⊥
  SomeRegion (region_before bs rs) = Unit {0}

  -- ---- what is shown of each: an operation is read where no region begins behind it

  abbrev OpRead : ℕ → IrOp K → Type 0
  OpRead n o = (ts : List Token) (bytes rest : List ℕ) → SpellsOp find o ts → EndsRegions rest → Begins bytes ts rest →
      ir_op_at find n bytes ≡ Ok (o, rest)

  abbrev SeveralRead : ℕ → IrOps K → Type 0
  SeveralRead n os = (ts : List Token) (m : ℕ) (bytes rest : List ℕ) → SomeOp os → SpellsOps find os ts → Ends rest →
      length bytes < m → Begins bytes ts rest → more_at semicolon_at (ir_op_at find n) m bytes ≡ Ok (op_list os, rest)

  abbrev OpsRead : ℕ → IrOps K → Type 0
  OpsRead n os = (ts : List Token) (bytes rest : List ℕ) → SpellsOps find os ts → Ends rest → Begins bytes ts rest →
      ops_at (ir_op_at find n) bytes ≡ Ok (op_list os, rest)

  abbrev BlocksRead : ℕ → IrBlocks K → Type 0
  BlocksRead n bs = (ts : List Token) (m : ℕ) (bytes rest : List ℕ) → SomeBlock bs → SpellsBlocks find bs ts →
      length bytes < m → Begins bytes (ts ++ sign 125 ∷ []) rest →
      more_at brace_at (block_at (ir_op_at find n) n) m bytes ≡ Ok (block_list bs, rest)

  abbrev RegionRead : ℕ → IrBlocks K → Type 0
  RegionRead n bs = (ts : List Token) (bytes rest : List ℕ) → SpellsBlocks find bs ts →
      Begins bytes (enclosed 123 ts 125) rest → region_at (ir_op_at find n) n bytes ≡ Ok (block_list bs, rest)

  abbrev RegionsRead : ℕ → IrRegions K → Type 0
  RegionsRead n rs = (ts : List Token) (m : ℕ) (bytes rest : List ℕ) → SomeRegion rs → SpellsRegions find rs ts →
      EndsRegions rest → length bytes < m → Begins bytes ts rest →
      more_at another_at (region_at (ir_op_at find n) n) m bytes ≡ Ok (region_list rs, rest)

  -- ---- one more

  one_op : (n : ℕ) (o : IrOp K) (os : IrOps K) → OpRead n o → SeveralRead n os →
      (first more : List Token) (m : ℕ) (bytes rest : List ℕ) → SpellsOp find o first → SpellsMoreOps find os more →
      Ends rest → length bytes < m → Begins bytes (first ++ more) rest →
      more_at semicolon_at (ir_op_at find n) m bytes ≡ Ok (o ∷ op_list os, rest)
  one_op n o no_ops op several first more m bytes rest s q e lt b =
      let d = Begins-split first more bytes rest b in
      let k : d.0 ≡ rest = subst (λ y. Begins d.0 y rest) q d.2 in
      last_again semicolon_at (ir_op_at find n) m o bytes rest rest lt
      (op first bytes rest s e.no_region (subst (λ (z : List ℕ). Begins bytes first z) k d.1))
      (no_semicolon rest e.no_more)
  one_op n o (op_before o' os) op several first more m bytes rest s q e lt b =
      let d = Begins-split first more bytes rest b in
      let k = subst (λ y. Begins d.0 y rest) q.4 d.2 in
      next_again semicolon_at (ir_op_at find n) m o (o' ∷ op_list os) bytes d.0 k.0 rest lt
      (op first bytes d.0 s (no_sign 123 d.0 (sign 59, k.0) k.1 refl) d.1) (semicolon_again d.0 k.0 k.1)
      (omega (arith, Begins-length first bytes d.0 d.1, Takes-shorter d.0 (sign 59) k.0 k.1))
      (λ j less. several (q.0 ++ q.1) j k.0 rest tt (q.0, q.1, q.2, q.3, refl) e less k.2)

  one_block : (n : ℕ) (h : BlockHead) (os : IrOps K) (bs : IrBlocks K) → OpsRead n os → BlocksRead n bs →
      (head ops more : List Token) (m : ℕ) (bytes rest : List ℕ) → SpellsBlockHead h head → block_levels h ≤ n →
      SpellsOps find os ops → SpellsBlocks find bs more → length bytes < m →
      Begins bytes ((head ++ (ops ++ more)) ++ sign 125 ∷ []) rest →
      more_at brace_at (block_at (ir_op_at find n) n) m bytes ≡ Ok (block_list (block_before h os bs), rest)
  one_block n h os no_blocks inside blocks head ops more m bytes rest f fits p q lt b =
      let c = Begins-split (head ++ (ops ++ more)) (sign 125 ∷ []) bytes rest b in
      let d = Begins-split head (ops ++ more) bytes c.0 c.1 in
      let g = Begins-split ops more d.0 c.0 d.2 in
      let same : g.0 ≡ c.0 = subst (λ (y : List Token). Begins g.0 y c.0) q g.2 in
      let k = c.2 in
      let at_end = subst (λ (z : List ℕ). Begins d.0 ops z) same g.1 in
      last_again brace_at (block_at (ir_op_at find n) n) m (h, op_list os) bytes c.0 rest lt
      (block_behind (ir_op_at find n) n h bytes d.0 c.0 (op_list os) (block_head_again n h head bytes d.0 f fits d.1)
      (inside ops d.0 c.0 p (ends_brace c.0 k.0 k.1) at_end))
      (brace_again c.0 k.0 k.1 ∙ ap (λ (r : List ℕ). done (false, r)) k.2)
  one_block n h os (block_before h' os' bs) inside blocks head ops more m bytes rest f fits p q lt b =
      let whole = subst (λ (y : List Token). Begins bytes y rest) (append_assoc head (ops ++ more) (sign 125 ∷ [])) b in
      let c = Begins-split head ((ops ++ more) ++ sign 125 ∷ []) bytes rest whole in
      let d = Begins-split ops (more ++ sign 125 ∷ []) c.0 rest
      (subst (λ (y : List Token). Begins c.0 y rest) (append_assoc ops more (sign 125 ∷ [])) c.2) in
      let tokens = subst (λ (y : List Token). Begins d.0 (y ++ sign 125 ∷ []) rest) q.6 d.2 in
      let e = caret_comes h' q.0 ((q.1 ++ q.2) ++ sign 125 ∷ []) d.0 rest q.3
      (subst (λ (y : List Token). Begins d.0 y rest) (append_assoc q.0 (q.1 ++ q.2) (sign 125 ∷ [])) tokens) in
      next_again brace_at (block_at (ir_op_at find n) n) m (h, op_list os) (block_list (block_before h' os' bs)) bytes
      d.0 d.0 rest lt
      (block_behind (ir_op_at find n) n h bytes c.0 d.0 (op_list os) (block_head_again n h head bytes c.0 f fits c.1)
      (inside ops c.0 d.0 p (ends_caret d.0 e.0 e.1) d.1))
      (no_brace_yet d.0 e.0 e.1)
      (omega (arith, block_head-length h head f, Begins-length head bytes c.0 c.1, Begins-length ops c.0 d.0 d.1))
      (λ k less. blocks more k d.0 rest tt q less d.2)

  one_region : (n : ℕ) (bs : IrBlocks K) (rs : IrRegions K) → RegionRead n bs → RegionsRead n rs →
      (body more : List Token) (m : ℕ) (bytes rest : List ℕ) → SpellsBlocks find bs body → SpellsRegions find rs more →
      EndsRegions rest → length bytes < m → Begins bytes (enclosed 123 body 125 ++ more) rest →
      more_at another_at (region_at (ir_op_at find n) n) m bytes ≡ Ok (block_list bs ∷ region_list rs, rest)
  one_region n bs no_regions region regions body more m bytes rest s q e lt b =
      let d = Begins-split (enclosed 123 body 125) more bytes rest b in
      let k : d.0 ≡ rest = subst (λ y. Begins d.0 y rest) q d.2 in
      last_again another_at (region_at (ir_op_at find n) n) m (block_list bs) bytes rest rest lt
      (region body bytes rest s (subst (λ (z : List ℕ). Begins bytes (enclosed 123 body 125) z) k d.1))
      (no_more_regions rest e)
  one_region n bs (region_before bs' rs) region regions body more m bytes rest s q e lt b =
      let d = Begins-split (enclosed 123 body 125) more bytes rest b in
      let k = subst (λ y. Begins d.0 y rest) q.4 d.2 in
      next_again another_at (region_at (ir_op_at find n) n) m (block_list bs) (block_list bs' ∷ region_list rs) bytes d.0
      d.0 rest lt (region body bytes d.0 s d.1) (one_more_region d.0 k.0 k.1)
      (omega (arith, Begins-length (enclosed 123 body 125) bytes d.0 d.1))
      (λ j less. regions more j d.0 rest tt q e less d.2)

  -- ---- operations

  mutual
    pub op_again : (o : IrOp K) (n : ℕ) → op_levels o ≤ n → OpRead n o
    op_again (ir_op f rs) zero le ts bytes rest s e b = absurd (omega arith)
    op_again (ir_op (bodied_front h) no_regions) (suc n) le ts bytes rest s e b = absurd (let k = s.2.1 in cc)
    op_again (ir_op (bodied_front h) (region_before bs (region_before x rs))) (suc n) le ts bytes rest s e b =
        absurd (let k = s.2.1 in cc)
    op_again (ir_op (bodied_front h) (region_before bs no_regions)) (suc n) le ts bytes rest s e b =
        let r = s.4 in
        let c = Begins-split s.0 s.1 bytes rest (subst (λ y. Begins bytes y rest) s.5 b) in
        let d = Begins-split (enclosed 123 r.0 125) r.1 c.0 rest (subst (λ y. Begins c.0 y rest) r.4 c.2) in
        let k : d.0 ≡ rest = subst (λ y. Begins d.0 y rest) r.3 d.2 in
        bodied_behind n h bs bytes c.0 rest
        (header_again h s.0 n bytes c.0 d.1.0 s.3 (omega arith) c.1 d.1.1)
        (region_again bs n (omega arith) r.0 c.0 rest r.2
        (subst (λ (z : List ℕ). Begins c.0 (enclosed 123 r.0 125) z) k d.1))
    op_again (ir_op (constant_front w a t) (region_before bs rs)) (suc n) le ts bytes rest s e b =
        absurd (let k = s.2 in cc)
    op_again (ir_op (constant_front w a t) no_regions) (suc n) le ts bytes rest s e b =
        let start = word w ∷ sign 61 ∷ word (codes "builtin.constant") ∷ [] in
        let f = s.3 in
        let c = Begins-split s.0 s.1 bytes rest (subst (λ y. Begins bytes y rest) s.5 b) in
        let k : c.0 ≡ rest = subst (λ y. Begins c.0 y rest) s.4 c.2 in
        let d = Begins-split start (typed_value f.0 f.1) bytes rest (subst (λ y. Begins bytes y rest) f.5
        (subst (λ (z : List ℕ). Begins bytes s.0 z) k c.1)) in
        constant_behind n w a t bytes d.0 rest (constant_starts w bytes d.0 f.2 d.1)
        (constant_again n a t f.0 f.1 d.0 rest f.3 f.4 (omega arith) (omega arith) d.2)
    op_again (ir_op (own_front h) rs) (suc n) le ts bytes rest s e b =
        let c = Begins-split s.0 s.1 bytes rest (subst (λ y. Begins bytes y rest) s.5 b) in
        let o = own_again n h s.0 bytes c.0 s.3 (omega arith) c.1 in
        own_behind n h rs bytes o.behind c.0 rest o.id o.reads
        (regions_again rs n (omega arith) s.1 c.0 rest s.4 e c.2)

    regions_again : (rs : IrRegions K) (n : ℕ) → regions_levels rs ≤ n → (ts : List Token) (bytes rest : List ℕ) →
        SpellsRegions find rs ts → EndsRegions rest → Begins bytes ts rest →
        regions_at (ir_op_at find n) n bytes ≡ Ok (region_list rs, rest)
    regions_again no_regions n le ts bytes rest s e b =
        let c : bytes ≡ rest = subst (λ y. Begins bytes y rest) s b in
        subst (λ (r : List ℕ). regions_at (ir_op_at find n) n bytes ≡ Ok ([], r)) c
        (no_regions_again (ir_op_at find n) n bytes (subst EndsRegions (sym c) e))
    regions_again (region_before bs rs) n le ts bytes rest s e b =
        let c = subst (λ y. Begins bytes y rest) s.4 b in
        regions_behind (ir_op_at find n) n bytes c.0 rest (block_list bs ∷ region_list rs) c.1
        (one_region n bs rs (region_again bs n (omega arith)) (several_regions rs n (omega arith)) s.0 s.1
        (suc (length bytes)) bytes rest s.2 s.3 e (omega arith) c)

    several_regions : (rs : IrRegions K) (n : ℕ) → regions_levels rs ≤ n → RegionsRead n rs
    several_regions no_regions n le ts m bytes rest some s e lt b = absurd some
    several_regions (region_before bs rs) n le ts m bytes rest some s e lt b =
        one_region n bs rs (region_again bs n (omega arith)) (several_regions rs n (omega arith)) s.0 s.1 m bytes rest
        s.2 s.3 e lt (subst (λ y. Begins bytes y rest) s.4 b)

    region_again : (bs : IrBlocks K) (n : ℕ) → blocks_levels bs ≤ n → RegionRead n bs
    region_again no_blocks n le ts bytes rest s b =
        let c = subst (λ y. Begins bytes (enclosed 123 y 125) rest) s b in
        let d = c.2 in
        empty_region (ir_op_at find n) n bytes c.0 rest c.1 (d.1 ∙ ap (λ (r : List ℕ). done (sign 125, r)) d.2)
    region_again (block_before h os bs) n le ts bytes rest s b =
        let c = subst (λ (y : List Token). Begins b.0 (y ++ sign 125 ∷ []) rest) s.6 b.2 in
        let d = caret_comes h s.0 ((s.1 ++ s.2) ++ sign 125 ∷ []) b.0 rest s.3
        (subst (λ (y : List Token). Begins b.0 y rest) (append_assoc s.0 (s.1 ++ s.2) (sign 125 ∷ [])) c) in
        region_inside (ir_op_at find n) n bytes b.0 d.0 rest (block_list (block_before h os bs)) b.1 d.1
        (one_block n h os bs (ops_again os n (omega arith)) (blocks_again bs n (omega arith)) s.0 s.1 s.2
        (suc (length b.0)) b.0 rest s.3 (omega arith) s.4 s.5 (omega arith) c)

    blocks_again : (bs : IrBlocks K) (n : ℕ) → blocks_levels bs ≤ n → BlocksRead n bs
    blocks_again no_blocks n le ts m bytes rest some s lt b = absurd some
    blocks_again (block_before h os bs) n le ts m bytes rest some s lt b =
        one_block n h os bs (ops_again os n (omega arith)) (blocks_again bs n (omega arith)) s.0 s.1 s.2 m bytes rest
        s.3 (omega arith) s.4 s.5 lt (subst (λ (y : List Token). Begins bytes (y ++ sign 125 ∷ []) rest) s.6 b)

    ops_again : (os : IrOps K) (n : ℕ) → ops_levels os ≤ n → OpsRead n os
    ops_again no_ops n le ts bytes rest s e b =
        let c : bytes ≡ rest = subst (λ y. Begins bytes y rest) s b in
        subst (λ (r : List ℕ). ops_at (ir_op_at find n) bytes ≡ Ok ([], r)) c
        (no_ops_again (ir_op_at find n) n bytes (subst Ends (sym c) e))
    ops_again (op_before o os) n le ts bytes rest s e b =
        let c = subst (λ y. Begins bytes y rest) s.4 b in
        let d = Begins-split s.0 s.1 bytes rest c in
        ops_behind (ir_op_at find n) n bytes rest (o ∷ op_list os) (op_starts find o s.0 bytes d.0 s.2 d.1)
        (one_op n o os (op_again o n (omega arith)) (several_again os n (omega arith)) s.0 s.1 (suc (length bytes))
        bytes rest s.2 s.3 e (omega arith) c)

    several_again : (os : IrOps K) (n : ℕ) → ops_levels os ≤ n → SeveralRead n os
    several_again no_ops n le ts m bytes rest some s e lt b = absurd some
    several_again (op_before o os) n le ts m bytes rest some s e lt b =
        one_op n o os (op_again o n (omega arith)) (several_again os n (omega arith)) s.0 s.1 m bytes rest s.2 s.3 e lt
        (subst (λ y. Begins bytes y rest) s.4 b)
