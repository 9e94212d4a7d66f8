-- Parts that are read one after the other stand there.
use Rattle.std.proofs.Common.{◌≡◌, ◌≤◌, ◌++◌, ℕ, max, cond, List, [], ◌∷◌, Ok, Err, Result, Option, None, Some, length}
use Rattle.std.proofs.Common.{refl, sym, ap, ap₂}
use Rattle.std.proofs.Common.{subst, ◌∙◌, arith, append-nil, append_assoc}
use Rattle.plir_attr_text.specs.declared.fault.Fault.{Fault}
use Rattle.plir_attr_text.specs.declared.fault.Fault.TheVariants.{Unexpected}
use Rattle.plir_attr_text.specs.Steps.{◌>>=◌}
use Rattle.plir_attr_text.specs.Terms.{AttrTerm, TypeTerm, EntryTerms}
use Rattle.plir_attr_text.specs.Tokens.{Token, word, sign}
use Rattle.plir_attr_text.specs.TypeGrammar.{enclosed}
use Rattle.plir_attr_text.specs.TypeReading.{word_at}
use Rattle.plir_attr_text.specs.laws.Begun.{Begins-append}
use Rattle.plir_attr_text.specs.laws.ListsFound.{FoundOne}
use Rattle.plir_attr_text.specs.laws.StepLaws.{bind_ok, done, ok_is}
use Rattle.plir_read.specs.OpReading.{constant_at, first_name, named, named_constant_at, op_id, op_kind, start_at}
use Rattle.plir_read.specs.OpReading.{names_before as bodied_names_before, names_at as bodied_names_at}
use Rattle.plir_read.specs.OpTerms.{BlockHead, block_levels}
use Rattle.plir_read.specs.declared.heads.HeadKind.{HeadKind}
use Rattle.plir_read.specs.declared.heads.HeadKind.TheVariants.{Bodied, Constant, ForwardRef}
use Rattle.plir_read.specs.laws.OpFound.{header_found as bodied_found}
use Rattle.plir_read.specs.laws.StartFound.{bare_id, constant_found, id_of, named_id, named_is, start_found}
use Rattle.plir_read_own.specs.OwnReading.{header_at, if_found, kind_at, kind_of, names_at, names_before, opening_at}
use Rattle.plir_read_own.specs.OwnReading.{typed_at, uses_at}
use Rattle.plir_read_own.specs.OwnReading.{counted as own_counted}
use Rattle.plir_read_own.specs.OwnGrammar.{has_point}
use Rattle.plir_read_own.specs.OwnTerms.{Signature, Uses}
use Rattle.plir_read_own.specs.laws.Found.{header_found}
use Rattle.plir_read_ir.specs.IrGrammar.{own_kind, SpellsBlocks, SpellsFront, SpellsMoreOps, SpellsOp, SpellsOps}
use Rattle.plir_read_ir.specs.IrGrammar.{SpellsRegions}
use Rattle.plir_read_ir.specs.IrReading.{builtin_or, counted, header_with, ir_kind_at, ir_opening_at, parts_at}
use Rattle.plir_read_ir.specs.IrTerms.{Front, IrOp, IrRegions, no_regions}
use Rattle.plir_read_ir.specs.IrTerms.{region_before, IrBlocks, no_blocks, block_before, IrOps, no_ops, op_before}
use Rattle.plir_read_ir.specs.IrTerms.{front_levels, op_levels, regions_levels, blocks_levels, ops_levels}
use Rattle.plir_read_ir.specs.Readings.{IsFrontRead, SpellsBlock, SpellsBody}
use Rattle.plir_read_ir.specs.declared.openings.IrKind.{IrKind}
use Rattle.plir_read_ir.specs.declared.openings.IrKind.TheVariants.{Builtin, Own}
use Rattle.plir_read_ir.proofs.Trees.{blocks_then, ops_then, regions_then}

module _ {K : Type 0} (find : List ℕ → Option K) where
  -- ---- one more at the end

  -- operations, each with a semicolon behind it
  abbrev pub SpellsFirstOps : IrOps K → List Token → Type 0
  SpellsFirstOps no_ops ts = ts ≡ []
  SpellsFirstOps (op_before o os) ts = (first more : List Token) × SpellsOp find o first × SpellsFirstOps os more ×
      (ts ≡ first ++ sign 59 ∷ more)

  pub first_push : (os : IrOps K) (o : IrOp K) (ts us : List Token) → SpellsFirstOps os ts → SpellsOp find o us →
      SpellsFirstOps (ops_then os o) (ts ++ (us ++ sign 59 ∷ []))
  first_push no_ops o ts us e h = (us, [], h, refl, ap (λ (l : List Token). l ++ (us ++ sign 59 ∷ [])) e)
  first_push (op_before x os) o ts us e h =
      let tail = us ++ sign 59 ∷ [] in (
        e.0,
        e.1 ++ tail,
        e.2,
        first_push os o e.1 us e.3 h,
        ap (λ (l : List Token). l ++ tail) e.4 ∙ append_assoc e.0 (sign 59 ∷ e.1) tail,
      )

  more_last : (os : IrOps K) (o : IrOp K) (ts us : List Token) → SpellsFirstOps os ts → SpellsOp find o us →
      SpellsMoreOps find (ops_then os o) (sign 59 ∷ (ts ++ us))
  more_last no_ops o ts us e h = (
    us,
    [],
    h,
    refl,
    ap (λ (l : List Token). sign 59 ∷ (l ++ us)) e ∙ ap (λ (l : List Token). sign 59 ∷ l) (sym (append-nil us)),
  )
  more_last (op_before x os) o ts us e h = (
    e.0,
    sign 59 ∷ (e.1 ++ us),
    e.2,
    more_last os o e.1 us e.3 h,
    ap (λ (l : List Token). sign 59 ∷ (l ++ us)) e.4 ∙
        ap (λ (l : List Token). sign 59 ∷ l) (append_assoc e.0 (sign 59 ∷ e.1) us),
  )

  -- the last one has none behind it
  pub ops_last : (os : IrOps K) (o : IrOp K) (ts us : List Token) → SpellsFirstOps os ts → SpellsOp find o us →
      SpellsOps find (ops_then os o) (ts ++ us)
  ops_last no_ops o ts us e h =
      (us, [], h, refl, ap (λ (l : List Token). l ++ us) e ∙ sym (append-nil us))
  ops_last (op_before x os) o ts us e h = (
    e.0,
    sign 59 ∷ (e.1 ++ us),
    e.2,
    more_last os o e.1 us e.3 h,
    ap (λ (l : List Token). l ++ us) e.4 ∙ append_assoc e.0 (sign 59 ∷ e.1) us,
  )

  pub blocks_last : (bs : IrBlocks K) (b : BlockHead × IrOps K) (ts us : List Token) → SpellsBlocks find bs ts →
      SpellsBlock find b us → SpellsBlocks find (blocks_then bs b) (ts ++ us)
  blocks_last no_blocks b ts us e h = (
    h.head,
    h.inside,
    [],
    h.head_spelled,
    h.spelled,
    refl,
    ap (λ (l : List Token). l ++ us) e ∙ h.tokens ∙ ap (λ (l : List Token). h.head ++ l) (sym (append-nil h.inside)),
  )
  blocks_last (block_before x os bs) b ts us e h = (
    e.0,
    e.1,
    e.2 ++ us,
    e.3,
    e.4,
    blocks_last bs b e.2 us e.5 h,
    ap (λ (l : List Token). l ++ us) e.6 ∙ append_assoc e.0 (e.1 ++ e.2) us ∙
        ap (λ (l : List Token). e.0 ++ l) (append_assoc e.1 e.2 us),
  )

  pub regions_last : (rs : IrRegions K) (bs : IrBlocks K) (ts us : List Token) → SpellsRegions find rs ts →
      SpellsBody find bs us → SpellsRegions find (regions_then rs bs) (ts ++ us)
  regions_last no_regions bs ts us e h = (
    h.0,
    [],
    h.1,
    refl,
    ap (λ (l : List Token). l ++ us) e ∙ h.2 ∙ sym (append-nil (enclosed 123 h.0 125)),
  )
  regions_last (region_before x rs) bs ts us e h = (
    e.0,
    e.1 ++ us,
    e.2,
    regions_last rs bs e.1 us e.3 h,
    ap (λ (l : List Token). l ++ us) e.4 ∙ append_assoc (enclosed 123 e.0 125) e.1 us,
  )

-- ---- levels

module _ {K : Type 0} where
  pub ops_within : (n : ℕ) (os : IrOps K) (o : IrOp K) → ops_levels os ≤ n → op_levels o ≤ n →
      ops_levels (ops_then os o) ≤ n
  ops_within n no_ops o p q = omega (arith, q)
  ops_within n (op_before x os) o p q = let r = ops_within n os o (omega (arith, p)) q in omega (arith, p, r)

  pub blocks_within : (n : ℕ) (bs : IrBlocks K) (b : BlockHead × IrOps K) → blocks_levels bs ≤ n →
      max (block_levels b.0) (ops_levels b.1) ≤ n → blocks_levels (blocks_then bs b) ≤ n
  blocks_within n no_blocks b p q = omega (arith, q)
  blocks_within n (block_before x os bs) b p q =
      let r = blocks_within n bs b (omega (arith, p)) q in
      omega (arith, p, r)

  pub regions_within : (n : ℕ) (rs : IrRegions K) (bs : IrBlocks K) → regions_levels rs ≤ n → blocks_levels bs ≤ n →
      regions_levels (regions_then rs bs) ≤ n
  regions_within n no_regions bs p q = omega (arith, q)
  regions_within n (region_before x rs) bs p q =
      let r = regions_within n rs bs (omega (arith, p)) q in
      omega (arith, p, r)

-- ---- what stands before the regions

-- the names before an id are those of a builtin operation
pub same_names : (bytes : List ℕ) → names_before bytes ≡ bodied_names_before bytes
unfolding names_before names_at bodied_names_before bodied_names_at
same_names bytes = refl

ok_parts : {X : Type 0} (a b : X) (x y : List ℕ) → done {A = X × List ℕ} (a, x) ≡ done {A = X × List ℕ} (b, y) →
    (a ≡ b) × (x ≡ y)
ok_parts {X} a b x y e =
    let p : X × List ℕ = (a, x) in
    let q : X × List ℕ = (b, y) in
    let f = ok_is p q e in
    (ap (λ (z : X × List ℕ). z.0) f, ap (λ (z : X × List ℕ). z.1) f)

ok_pair : {X : Type 0} (a b : X) (x y : List ℕ) → a ≡ b → x ≡ y →
    done {A = X × List ℕ} (a, x) ≡ done {A = X × List ℕ} (b, y)
ok_pair {X} a b x y e f = ap₂ (λ (c : X) (z : List ℕ). done {A = X × List ℕ} (c, z)) e f

module _ {K : Type 0} where
  same_builtin : (a b : HeadKind) → ◌≡◌ {A = IrKind K} (Builtin a) (Builtin b) → a ≡ b
  same_builtin a b e = cc

  same_own : (a b : K) → ◌≡◌ {A = IrKind K} (Own a) (Own b) → a ≡ b
  same_own a b e = cc

  not_builtin : (a : HeadKind) (b : K) → ◌≡◌ {A = IrKind K} (Own b) (Builtin a) → ⊥
  not_builtin a b e = absurd cc

-- and its numbers are right
same_counts : (ws : List (List ℕ)) (u : Uses) (t : Signature) → own_counted ws u t ≡ counted (length ws) u t
unfolding own_counted counted
same_counts ws u t = refl

no_kind : (r : Result HeadKind Fault) (rest : List ℕ) (f : Fault) →
    (r >>= λ j. done {A = HeadKind × List ℕ} (j, rest)) ≡ Err f → (g : Fault) × (r ≡ Err g)
no_kind (Ok j) rest f e = absurd cc
no_kind (Err g) rest f e = (g, refl)

module _ {K : Type 0} (find : List ℕ → Option K) where
  -- an id that is read
  record OpenedBy (bytes : List ℕ) (ws : List (List ℕ)) (k : IrKind K) (rest : List ℕ) : Type 0 where
    behind : List ℕ
    names : names_before bytes ≡ Ok (ws, behind)
    kind : ir_kind_at find behind ≡ Ok (k, rest)

  opened : (bytes : List ℕ) (ws : List (List ℕ)) (k : IrKind K) (rest : List ℕ) →
      ir_opening_at find bytes ≡ Ok ((ws, k), rest) → OpenedBy bytes ws k rest
  unfolding ir_opening_at
  opened bytes ws k rest e =
      let a = bind_ok (names_before bytes) (λ ns. ir_kind_at find ns.1 >>= λ y. Ok ((ns.0, y.0), y.1)) ((ws, k), rest) e
      in
      let b = bind_ok (ir_kind_at find a.0.1) (λ y. Ok ((a.0.0, y.0), y.1)) ((ws, k), rest) a.2 in
      let found : OpenedBy bytes a.0.0 b.0.0 b.0.1 = record { behind = a.0.1; names = a.1; kind = b.1 } in
      subst (λ (y : (List (List ℕ) × IrKind K) × List ℕ). OpenedBy bytes y.0.0 y.0.1 y.1)
      (ok_is ((a.0.0, b.0.0), b.0.1) ((ws, k), rest) b.2) found

  builtin_is : (r : Result (HeadKind × List ℕ) Fault) (own : Result (K × List ℕ) Fault) (k : HeadKind) (rest : List ℕ) →
      builtin_or find r own ≡ Ok (Builtin k, rest) → r ≡ Ok (k, rest)
  builtin_is (Ok x) own k rest e =
      let p = ok_parts (Builtin x.0) (Builtin k) x.1 rest e in
      ok_pair x.0 k x.1 rest (same_builtin x.0 k p.0) p.1
  builtin_is (Err g) (Ok y) k rest e = absurd (not_builtin k y.0 (ok_parts (Own y.0) (Builtin k) y.1 rest e).0)
  builtin_is (Err g) (Err h) k rest e = absurd cc

  no_op_id : (r : Result (HeadKind × List ℕ) Fault) (own : Result (K × List ℕ) Fault) (k : K) (rest : List ℕ) →
      builtin_or find r own ≡ Ok (Own k, rest) → ((g : Fault) × (r ≡ Err g)) × (own ≡ Ok (k, rest))
  no_op_id (Ok x) own k rest e = absurd (not_builtin x.0 k (sym (ok_parts (Builtin x.0) (Own k) x.1 rest e).0))
  no_op_id (Err g) (Ok y) k rest e =
      let p = ok_parts (Own y.0) (Own k) y.1 rest e in
      ((g, refl), ok_pair y.0 k y.1 rest (same_own y.0 k p.0) p.1)
  no_op_id (Err g) (Err h) k rest e = absurd cc

  same_found : (o : Option K) → if_found (own_kind find) o ≡ if_found find o
  same_found None = refl
  same_found (Some k) = refl

  -- where a word is no id of a builtin operation, it names what `find` says
  pub unbuiltin : (w : List ℕ) (g : Fault) → op_kind w ≡ Err g → kind_of (own_kind find) w ≡ kind_of find w
  unfolding kind_of
  unbuiltin w g e = rw e (ap (λ (r : Result K Fault). cond (has_point w) r (Err Unexpected)) (same_found (find w)))

  -- the id of an own operation is no builtin one
  own_is : (bytes : List ℕ) (k : K) (rest : List ℕ) → ir_kind_at find bytes ≡ Ok (Own k, rest) →
      kind_at (own_kind find) bytes ≡ Ok (k, rest)
  unfolding ir_kind_at kind_at op_id
  own_is bytes k rest e =
      let p = no_op_id (op_id bytes) (kind_at find bytes) k rest e in
      let a = bind_ok (word_at bytes) (λ w. kind_of find w.0 >>= λ j. Ok (j, w.1)) (k, rest) p.1 in
      let f : (op_kind a.0.0 >>= λ j. done {A = HeadKind × List ℕ} (j, a.0.1)) ≡ Err p.0.0 =
      ap (λ (r : Result (List ℕ × List ℕ) Fault). r >>= λ w. op_kind w.0 >>=
      λ j. done {A = HeadKind × List ℕ} (j, w.1)) (sym a.1) ∙ p.0.1 in
      let g = no_kind (op_kind a.0.0) a.0.1 p.0.0 f in
      rw (a.1, unbuiltin a.0.0 g.0 g.1) a.2

  start_is : (bytes : List ℕ) (ws : List (List ℕ)) (k : HeadKind) (rest : List ℕ) →
      ir_opening_at find bytes ≡ Ok ((ws, Builtin k), rest) → start_at bytes ≡ Ok ((ws, k), rest)
  unfolding start_at ir_kind_at
  start_is bytes ws k rest e =
      let o = opened bytes ws (Builtin k) rest e in
      rw (sym (same_names bytes) ∙ o.names, builtin_is (op_id o.behind) (kind_at find o.behind) k rest o.kind) refl

  header_is : (n : ℕ) (bytes : List ℕ) (ws : List (List ℕ)) (k : K) (rest end : List ℕ)
      (p : Uses × (EntryTerms × Signature)) → ir_opening_at find bytes ≡ Ok ((ws, Own k), rest) →
      parts_at n (length ws) rest ≡ Ok (p, end) → header_at (own_kind find) n bytes ≡ Ok (header_with ws k p, end)
  unfolding header_at opening_at parts_at
  header_is n bytes ws k rest end p e h =
      let o = opened bytes ws (Own k) rest e in
      let a = bind_ok (uses_at rest) (λ u. typed_at n u.1 >>= λ t. counted (length ws) u.0 t.0.1 >>=
      λ v. Ok ((u.0, t.0), t.1)) (p, end) h in
      let b = bind_ok (typed_at n a.0.1) (λ t. counted (length ws) a.0.0 t.0.1 >>= λ v. Ok ((a.0.0, t.0), t.1))
      (p, end) a.2 in
      let d = bind_ok (counted (length ws) a.0.0 b.0.0.1) (λ v. done ((a.0.0, b.0.0), b.0.1)) (p, end) b.2 in
      let same = ok_is ((a.0.0, b.0.0), b.0.1) (p, end) d.2 in
      rw (
        o.names,
        own_is o.behind k rest o.kind,
        a.1,
        b.1,
        same_counts ws a.0.0 b.0.0.1 ∙ d.1,
      )
      (ap (λ (y : (Uses × (EntryTerms × Signature)) × List ℕ). done (header_with ws k y.0, y.1)) same)

  constant_is : (n : ℕ) (ws : List (List ℕ)) (bytes end : List ℕ) (c : AttrTerm × TypeTerm) →
      named_constant_at n (length ws) bytes ≡ Ok (c, end) → (1 ≡ length ws) × (constant_at n bytes ≡ Ok (c, end))
  unfolding named_constant_at
  constant_is n ws bytes end c e =
      let a = bind_ok (named 1 (length ws)) (λ u. constant_at n bytes) (c, end) e in
      (named_is 1 (length ws) a.0 a.1, a.2)

  -- what stands before the regions of an operation, with at most n levels in it
  abbrev pub FrontWithin : ℕ → Front K → List Token → Type 0
  FrontWithin n f ts = SpellsFront find f ts × (front_levels f ≤ n)

  pub front_found : (n : ℕ) (bytes : List ℕ) (ws : List (List ℕ)) (k : IrKind K) (rest end : List ℕ) (f : Front K) →
      ir_opening_at find bytes ≡ Ok ((ws, k), rest) → IsFrontRead n ws k rest end f →
      FoundOne (FrontWithin n) bytes f end
  front_found n bytes ws (Builtin (Bodied k)) rest end f e h =
      let s = start_found bytes ((ws, Bodied k), rest) (start_is bytes ws (Bodied k) rest e) in
      let d = bodied_found n k bytes rest (h.0, end) (bare_id bytes ws (Bodied k) rest s h.1) h.2 in
      subst (λ x. FoundOne (FrontWithin n) bytes x end) (sym h.3)
      (record { tokens = d.tokens; begins = d.begins; spelled = d.spelled })
  front_found n bytes ws (Builtin Constant) rest end f e h =
      let s = start_found bytes ((ws, Constant), rest) (start_is bytes ws Constant rest e) in
      let c = constant_is n ws rest end h.0 h.1 in
      let i = named_id bytes ws Constant rest s c.0 in
      let d = constant_found n rest (h.0, end) c.1 in
      subst (λ x. FoundOne (FrontWithin n) bytes x end) (sym h.2) (record {
        tokens = word (first_name ws) ∷ sign 61 ∷ word (id_of Constant) ∷ d.tokens;
        begins = Begins-append (word (first_name ws) ∷ sign 61 ∷ word (id_of Constant) ∷ []) d.tokens bytes rest end
            i.begins d.begins;
        spelled = (
          (
            d.spelled.attr,
            d.spelled.type,
            i.formed,
            d.spelled.value,
            d.spelled.typed,
            ap (λ (ts : List Token). word (first_name ws) ∷ sign 61 ∷ word (id_of Constant) ∷ ts) d.spelled.tokens,
          ),
          d.spelled.within,
        );
      })
  front_found n bytes ws (Builtin ForwardRef) rest end f e h = absurd h
  front_found n bytes ws (Own k) rest end f e h =
      let d = header_found (own_kind find) n bytes (header_with ws k h.0, end) (header_is n bytes ws k rest end h.0 e h.1) in
      subst (λ x. FoundOne (FrontWithin n) bytes x end) (sym h.2)
      (record { tokens = d.tokens; begins = d.begins; spelled = d.spelled })
