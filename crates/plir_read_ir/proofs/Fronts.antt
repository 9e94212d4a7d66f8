-- What stands before the regions of an operation, before the operations of a block, and the whole of both.
use Rattle.std.proofs.Common.{◌≡◌, ◌≤◌, ◌++◌, ◌-◌, ℕ, Bool, false, cond, List, [], ◌∷◌, Option, Some}
use Rattle.std.proofs.Common.{Bor, IfOk, Ok, Result, length, refl, sym, ap, subst, ◌∙◌, append-nil, arith}
use Rattle.std.proofs.lemmas.Result.{IfOk-weaker}
use Rattle.plir_data.specs.AttrView.{AttrView}
use Rattle.plir_core.specs.ContextView.{ContextView, IsLive, children, is_live, op_at}
use Rattle.plir_core.specs.Made.{KeepsLive}
use Rattle.plir_core.specs.Nodes.{is_node_live}
use Rattle.plir_core.specs.declared.ptr.Ptr.{Ptr}
use Rattle.plir_core.specs.declared.ptr.Operation.{Operation as OperationKind}
use Rattle.plir_core.specs.declared.ptr.Region.{Region as RegionKind}
use Rattle.plir_core.specs.declared.ptr.BasicBlock.{BasicBlock as BlockKind}
use Rattle.plir_core.specs.declared.ptr.IRNode.{IRNode}
use Rattle.plir_core.specs.declared.ptr.IRNode.TheVariants.{Operation, Region, BasicBlock}
use Rattle.plir_attr_text.specs.Meaning.{IsDictMeant}
use Rattle.plir_attr_text.specs.Names.{Grows, NamesAll}
use Rattle.plir_attr_text.specs.Terms.{AttrTerm, TypeTerm, EntryTerms}
use Rattle.plir_attr_text.specs.Lists.{past_sign, sign_at}
use Rattle.plir_attr_text.specs.Tokens.{sign, Begins}
use Rattle.plir_attr_text.specs.laws.Begun.{Begins-append, past_sign_found, sign_found}
use Rattle.plir_attr_text.specs.laws.Growth.{Names-grown}
use Rattle.plir_attr_text.specs.laws.Meanings.{IsDictMeant-grown}
use Rattle.plir_read.specs.Heads.{IsHead, IsHeader, op_with, result_names}
use Rattle.plir_read.specs.Keeping.{KeepsBut, IsNewOp}
use Rattle.plir_read.specs.OpReading.{first_name, header_at, named_constant_at}
use Rattle.plir_read.specs.OpTerms.{Head, module_head, func_head, Header}
use Rattle.plir_read.specs.OpsStanding.{IsConstantAt, IsHeadAt, IsHeaderAt}
use Rattle.plir_read.specs.declared.heads.BodyKind.{BodyKind}
use Rattle.plir_read.specs.declared.heads.HeadData.{HeadData}
use Rattle.plir_read.specs.declared.heads.HeadData.TheVariants.{Module, Func}
use Rattle.plir_read.specs.declared.heads.HeadKind.{HeadKind}
use Rattle.plir_read.specs.declared.heads.HeadKind.TheVariants.{Bodied, Constant}
use Rattle.plir_read.specs.laws.OpFound.{block_head_found}
use Rattle.plir_read_own.specs.OwnTerms.{Signature, Uses}
use Rattle.plir_read_ir.specs.IrMeaning.{AreResultNames}
use Rattle.plir_read_ir.specs.IrReading.{header_with, ir_opening_at, parts_at}
use Rattle.plir_read_ir.specs.IrStanding.{AreRegionsAt}
use Rattle.plir_read_ir.specs.IrTerms.{Front, bodied_front, constant_front, own_front, ir_op, no_regions}
use Rattle.plir_read_ir.specs.IrTerms.{region_before}
use Rattle.plir_read_ir.specs.Mentions.{Scope}
use Rattle.plir_read_ir.specs.Mentions.{blocks_mentions, front_mentions}
use Rattle.plir_read_ir.specs.Mentions.{regions_mentions}
use Rattle.plir_read_ir.specs.Mentions.{results_bear, values_in}
use Rattle.plir_read_ir.specs.Noting.{AreReady}
use Rattle.plir_read_ir.specs.OwnOps.{own_op}
use Rattle.plir_read_ir.specs.Readings.{AddsNoted, AddsValues, IsFrontNoted}
use Rattle.plir_read_ir.specs.Readings.{ReadsBehind, ReadsBlock, ReadsBody, ReadsHead, ReadsIr, ReadsOps}
use Rattle.plir_read_ir.specs.Readings.{ReadsOwnFront, ReadsRegions, noted_operands}
use Rattle.plir_read_ir.specs.Readings.{noted_successors, place_in, uses_by}
use Rattle.plir_read_ir.specs.declared.notes.Notes.{Notes}
use Rattle.plir_read_ir.specs.declared.openings.IrKind.{IrKind}
use Rattle.plir_read_ir.specs.declared.openings.IrKind.TheVariants.{Builtin, Own}
use Rattle.plir_read_ir.specs.declared.openings.ResultNames.{ResultNames}
use Rattle.plir_read_ir.proofs.Grammar.{front_found}
use Rattle.plir_read_ir.proofs.Says.{no_old_uses, noted_as, noted_grown, noted_on}
use Rattle.plir_read_ir.proofs.Says.{noted_since, uses_still}
use Rattle.plir_read_ir.proofs.Standing.{block_head_on, own_on}
use Rattle.plir_read_ir.proofs.NotedParts.{noted_results, noted_uses, uses_alone}

-- ---- headers

-- an operation that is made of a header
pub header_made : {K A T : Type 0} (s t : ContextView K A T) (p : Ptr OperationKind) (head : HeadData)
    (entries : List (List ℕ × AttrView A)) (h : Header) → Grows s.types t.types → IsHeader s.types head entries h →
    op_at t p ≡ Some (op_with head entries) → IsHeaderAt t (Operation p) h
header_made s t p head entries h grown is e =
    (entries, IsDictMeant-grown s.types t.types grown h.1 entries is.dictionary, at head h.0 is.head_is e)
  where
    at : (x : HeadData) (d : Head) → IsHead s.types x d → op_at t p ≡ Some (op_with x entries) →
        IsHeadAt t (Operation p) d entries
    at (Module name) (module_head w) q f = f ∙ ap (λ z. Some (op_with (Module z) entries)) q
    at (Module name) (func_head w ty) q f = absurd q
    at (Func name handle) (module_head w) q f = absurd q
    at (Func name handle) (func_head w ty) q f =
        (handle, Names-grown s.types t.types handle ty grown q.1, f ∙ ap (λ z. Some (op_with (Func z handle) entries)) q.0)

one_name : (ws : List (List ℕ)) → 1 ≡ length ws → ws ≡ first_name ws ∷ []
one_name [] e = absurd cc
one_name (w ∷ []) e = refl
one_name (v ∷ w ∷ ws) e = absurd (omega (arith, e))

-- ---- wholes

module _ {K A T : Type 0} (find : List ℕ → Option K) (isolated : K → Bool) (k : ℕ) where
  -- the head of a block, and then its operations
  pub block_reads : (bytes rest end : List ℕ) (s t u : ContextView K A T) (old mid new : Notes) (at : Scope)
      (p : Ptr BlockKind) → ReadsHead find isolated k bytes rest s t old mid at (BasicBlock p) →
      KeepsLive s.nodes t.nodes → IsLive t (BasicBlock p) → KeepsBut t u (Some (BasicBlock p)) →
      ReadsOps find isolated k rest end t u mid new at (BasicBlock p) →
      ReadsBlock find isolated k bytes end s u old new at (BasicBlock p)
  block_reads bytes rest end s t u old mid new at p h since live kept o =
      let f = block_head_found k bytes (h.head, rest) h.read in
      record {
        part = (h.head, o.part);
        tokens = f.tokens ++ o.tokens;
        begins = Begins-append f.tokens o.tokens bytes rest end f.begins o.begins;
        spelled = record {
          head = f.tokens;
          inside = o.tokens;
          head_spelled = f.spelled.0;
          spelled = o.spelled;
          tokens = refl;
        };
        within = omega (arith, f.spelled.1, o.within);
        stands = (
          block_head_on t u kept.types (BasicBlock p) (λ v e. kept.keeps.blocks p live ∙ e) h.head h.stands,
          o.stands,
        );
        noted = noted_on s u old mid new _ _ (noted_grown s t u old mid _ kept.types h.noted)
            (noted_since s t u mid new _ since o.noted);
      }

  -- an own operation before its regions, and then these
  pub own_reads : (ws : List (List ℕ)) (bytes rest end : List ℕ) (s t u : ContextView K A T) (old mid new : Notes)
      (kind : K) (at : Scope) (p : Ptr OperationKind) (body : Option (Ptr OperationKind)) →
      ReadsOwnFront find isolated k ws bytes rest s t old mid kind at (Operation p) → KeepsLive s.nodes t.nodes →
      IsLive t (Operation p) → KeepsBut t u (Some (Operation p)) → body ≡ cond (isolated kind) (Some p) at.body →
      ReadsRegions find isolated k rest end t u mid new body (Operation p) →
      ReadsBehind find isolated k ws bytes end s u old new (Own kind) at (Operation p)
  own_reads ws bytes rest end s t u old mid new kind at p body f since live kept is r =
      let front : Front K = own_front (header_with ws kind f.parts) in
      record {
        front = front;
        behind = rest;
        read = (f.parts, f.read, refl);
        regions = r.part;
        has = tt;
        tokens = r.tokens;
        begins = r.begins;
        spelled = r.spelled;
        within = r.within;
        stands = (
          own_on t u kept.types (Operation p) (λ v e. kept.keeps.ops p live ∙ e) mid.uses.items new.uses.items
              (uses_still t u mid new _ r.noted (Operation p) live) at (header_with ws kind f.parts) f.stands,
          subst (λ z. AreRegionsAt isolated u (IsFrontNoted u new.uses.items) z (children u (Operation p)) r.part) is
              r.stands,
        );
        noted = noted_as s u old new _ _
            (ap (λ z. front_mentions isolated at (Operation p) front ++
            regions_mentions isolated u z (children u (Operation p)) r.part) is)
            (noted_on s u old mid new _ _ (noted_grown s t u old mid _ kept.types f.noted)
            (noted_since s t u mid new _ since r.noted));
      }

  -- a module or a function, and then its blocks
  pub bodied_reads : (ws : List (List ℕ)) (bytes rest end : List ℕ) (a s t u : ContextView K A T) (old new : Notes)
      (kind : BodyKind) (at : Scope) (p : Ptr OperationKind) (r : Ptr RegionKind) (head : HeadData)
      (entries : List (List ℕ × AttrView A)) (h : Header) → s.nodes ≡ a.nodes → AreReady a old → 0 ≡ length ws →
      header_at k kind bytes ≡ Ok (h, rest) → IsHeader s.types head entries h →
      IsNewOp s t p r (op_with head entries) → KeepsBut t u (Some (Region r)) →
      ReadsBody find isolated k rest end t u old new (record { body = Some p; region = Some r }) (Region r) →
      children u (Operation p) ≡ Region r ∷ [] →
      ReadsBehind find isolated k ws bytes end a u old new (Builtin (Bodied kind)) at (Operation p)
  bodied_reads ws bytes rest end a s t u old new kind at p r head entries h same ready none read is n kept b body =
      let new_op : is_live a (Operation p) ≡ false = subst (λ z. is_node_live z (Operation p) ≡ false) same n.made.new in
      record {
        front = bodied_front h;
        behind = rest;
        read = (h, none, read, refl);
        regions = region_before b.part no_regions;
        has = (b.part, refl);
        tokens = b.tokens;
        begins = b.begins;
        spelled = (b.spelled.0, [], b.spelled.1, refl, b.spelled.2 ∙ sym (append-nil _));
        within = omega (arith, b.within);
        stands = (
          (
            header_made s u p head entries h (subst (λ z. Grows z u.types) n.types kept.types) is
                (kept.keeps.ops p n.made.root ∙ n.held),
            uses_still t u old new _ b.noted (Operation p) n.made.root ∙ no_old_uses a p old ready new_op,
          ),
          (r, [], body, b.stands, refl),
        );
        noted = noted_as a u old new _ _
            (sym (ap (λ z. regions_mentions isolated u (Some p) z (region_before b.part no_regions)) body ∙
            append-nil (blocks_mentions isolated u (record { body = Some p; region = Some r }) (children u (Region r))
            b.part)))
            (noted_since a t u old new _ (subst (λ z. KeepsLive z t.nodes) same n.made.keeps) b.noted);
      }

  -- a constant
  pub constant_reads : (ws : List (List ℕ)) (bytes end : List ℕ) (s t : ContextView K A T) (old new : Notes)
      (at : Scope) (p : Ptr OperationKind) (c : AttrTerm × TypeTerm) → AreReady s old → is_live s (Operation p) ≡ false →
      1 ≡ length ws → named_constant_at k (length ws) bytes ≡ Ok (c, end) →
      IsConstantAt t (Operation p) (result_names ws) c →
      AddsValues old.values new.values (values_in (results_bear at.body (Operation p) ws)) → new.labels ≡ old.labels →
      new.uses ≡ old.uses → ReadsBehind find isolated k ws bytes end s t old new (Builtin Constant) at (Operation p)
  constant_reads ws bytes end s t old new at p c ready fresh one read is v l u =
      let ws_are = one_name ws one in
      record {
        front = constant_front (first_name ws) c.0 c.1;
        behind = end;
        read = (c, read, refl);
        regions = no_regions;
        has = refl;
        tokens = [];
        begins = refl;
        spelled = refl;
        within = omega arith;
        stands = (
          (
            subst (λ z. IsConstantAt t (Operation p) (result_names z) c) ws_are is,
            ap (λ z. uses_by p z.items) u ∙ no_old_uses s p old ready fresh,
          ),
          is.4,
        );
        noted = noted_as s t old new _ _
            (ap (λ z. results_bear at.body (Operation p) z) ws_are ∙
            sym (append-nil (results_bear at.body (Operation p) (first_name ws ∷ []))))
            (noted_results s t old new at.body p ws v l u);
      }

  -- an opening, and what stands behind the id
  pub op_reads : (bytes rest end : List ℕ) (ws : List (List ℕ)) (kind : IrKind K) (s t : ContextView K A T)
      (old new : Notes) (at : Scope) (m : IRNode) → 1 ≤ k → ir_opening_at find bytes ≡ Ok ((ws, kind), rest) →
      ReadsBehind find isolated (k - 1) ws rest end s t old new kind at m →
      ReadsIr find isolated k bytes end s t old new at m
  op_reads bytes rest end ws kind s t old new at m some e b =
      let f = front_found find (k - 1) bytes ws kind rest b.behind b.front e b.read in
      record {
        part = ir_op b.front b.regions;
        tokens = f.tokens ++ b.tokens;
        begins = Begins-append f.tokens b.tokens bytes b.behind end f.begins b.begins;
        spelled = (f.tokens, b.tokens, b.has, f.spelled.0, b.spelled, refl);
        within = omega (arith, some, f.spelled.1, b.within);
        stands = b.stands;
        noted = b.noted;
      }

  -- the same of what a function answered
  pub bodied_opened : {E : Type 0} (bytes rest : List ℕ) (ws : List (List ℕ)) (x : IrKind K) (kind : BodyKind)
      (s t : ContextView K A T) (old new : Notes) (at : Scope) (result : Result (Ptr OperationKind × Bor (List ℕ)) E) →
      1 ≤ k → ir_opening_at find bytes ≡ Ok ((ws, x), rest) → (h : HeadKind) → x ≡ Builtin h → h ≡ Bodied kind →
      (Ready : Type 0)
      → (names : ℕ) → length ws ≡ names → IfOk result (λ y. Ready → (vs : List (List ℕ)) → length vs ≡ names →
      (at : Scope) → ReadsBehind find isolated (k - 1) vs rest y.1.now s t old new (Builtin (Bodied kind)) at
      (Operation y.0)) → IfOk result (λ y. Ready → ReadsIr find isolated k bytes y.1.now s t old new at (Operation y.0))
  bodied_opened bytes rest ws x kind s t old new at result some e head is inside Ready names many all =
      IfOk-weaker result _ _ (λ y h ready. op_reads bytes rest y.1.now ws (Builtin (Bodied kind)) s t old new at
      (Operation y.0) some (e ∙ ap (λ z. Ok ((ws, z), rest)) (is ∙ ap (λ z. Builtin z) inside)) (h ready ws many at)) all

  pub named_opened : {E : Type 0} (bytes rest : List ℕ) (ws : List (List ℕ)) (x kind : IrKind K)
      (s t : ContextView K A T) (old new : Notes) (at : Scope) (result : Result (Ptr OperationKind × Bor (List ℕ)) E) →
      1 ≤ k → ir_opening_at find bytes ≡ Ok ((ws, x), rest) → x ≡ kind → (Ready : Type 0) → (names : ResultNames)
      → AreResultNames names ws → IfOk result (λ y. Ready → (vs : List (List ℕ)) → AreResultNames names vs →
      ReadsBehind find isolated (k - 1) vs rest y.1.now s t old new kind at (Operation y.0)) →
      IfOk result (λ y. Ready → ReadsIr find isolated k bytes y.1.now s t old new at (Operation y.0))
  named_opened bytes rest ws x kind s t old new at result some e is Ready names held all =
      IfOk-weaker result _ _ (λ y h ready. op_reads bytes rest y.1.now ws kind s t old new at (Operation y.0) some
      (e ∙ ap (λ z. Ok ((ws, z), rest)) is) (h ready ws held)) all

  pub constant_opened : {E : Type 0} (bytes rest : List ℕ) (ws : List (List ℕ)) (x : IrKind K)
      (s t : ContextView K A T) (old new : Notes) (at : Scope) (result : Result (Ptr OperationKind × Bor (List ℕ)) E) →
      1 ≤ k → ir_opening_at find bytes ≡ Ok ((ws, x), rest) → (h : HeadKind) → x ≡ Builtin h → h ≡ Constant →
      (Ready : Type 0) → (names : ResultNames) → AreResultNames names ws → IfOk result (λ y. Ready →
      (vs : List (List ℕ)) → AreResultNames names vs →
      ReadsBehind find isolated (k - 1) vs rest y.1.now s t old new (Builtin Constant) at (Operation y.0)) →
      IfOk result (λ y. Ready → ReadsIr find isolated k bytes y.1.now s t old new at (Operation y.0))
  constant_opened bytes rest ws x s t old new at result some e head is inside Ready names held all =
      named_opened bytes rest ws x (Builtin Constant) s t old new at result some e (is ∙ ap (λ z. Builtin z) inside) Ready
      names held all

-- ---- signs

pub one_sign : (b : ℕ) (bytes rest : List ℕ) → sign_at b bytes ≡ Ok rest → Begins bytes (sign b ∷ []) rest
one_sign b bytes rest e = (rest, sign_found b bytes rest e, refl)

pub one_past : (b : ℕ) (bytes rest : List ℕ) → past_sign b bytes ≡ Some rest → Begins bytes (sign b ∷ []) rest
one_past b bytes rest e = (rest, past_sign_found b bytes rest e, refl)

module _ {K A T : Type 0} (find : List ℕ → Option K) (isolated : K → Bool) (k : ℕ) (ws : List (List ℕ))
    (bytes rest : List ℕ) (a t : ContextView K A T) (old mid new : Notes) (kind : K) (at : Scope)
    (p : Ptr OperationKind) (parts : Uses × (EntryTerms × Signature)) (entries : List (List ℕ × AttrView A))
    (result_types operand_types : List ℕ) (successors : List (Ptr BlockKind)) where
  -- an own operation is made, its results bear names, and what it uses is noted
  pub own_front_reads : parts_at k (length ws) bytes ≡ Ok (parts, rest) → AreReady a old →
      is_live a (Operation p) ≡ false →
      op_at t p ≡ Some (own_op kind (result_names ws) entries result_types successors) →
      length successors ≡ place_in at.region (length parts.0.successors) →
      length parts.0.operands ≡ length operand_types → IsDictMeant t.types parts.1.0 entries →
      NamesAll t.types result_types parts.1.1.result_types → NamesAll t.types operand_types parts.1.1.operand_types →
      AddsValues old.values mid.values (values_in (results_bear at.body (Operation p) ws)) → mid.labels ≡ old.labels →
      mid.uses ≡ old.uses →
      AddsNoted p (noted_operands at.body parts.0.operands operand_types ++
      noted_successors at.region 0 parts.0.successors) mid.uses.items new.uses.items → new.values ≡ mid.values →
      new.labels ≡ mid.labels →
      ReadsOwnFront find isolated k ws bytes rest a t old new kind at (Operation p)
  own_front_reads read ready fresh held many typed es rs os v l u n nv nl = record {
    parts = parts;
    read = read;
    stands = record {
      entries = entries;
      result_types = result_types;
      operand_types = operand_types;
      successors = successors;
      holds = held;
      as_many = many;
      typed = typed;
      entries_meant = es;
      results_typed = rs;
      operands_typed = os;
      uses = uses_alone a t old mid new p _ ready fresh u n;
    };
    noted = noted_on a t old mid new _ _ (noted_results a t old mid at.body p ws v l u)
        (noted_uses a t mid new p at parts.0 parts.1.1 operand_types typed os fresh n nv nl);
  }
