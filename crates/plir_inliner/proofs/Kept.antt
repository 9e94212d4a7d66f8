-- What an inlining keeps: tables, and the root.
use Rattle.std.proofs.Common.{◌≡◌, Bool, true, false, List, [], ◌∷◌, ◌++◌, map, Option, Some, None, inl, inr}
use Rattle.std.proofs.Common.{refl, sym, ap, subst, ◌∙◌}
use Rattle.std.specs.Prelude.{option_map}
use Rattle.std.proofs.lemmas.Bool.{false≢true}
use Rattle.std.proofs.lemmas.List.{append-nil}
use Rattle.std.proofs.lemmas.Option.{none-some, same_Some}
use Rattle.plir_store.specs.Members.{Has, Distinct}
use Rattle.plir_store.specs.MemberLaws.{Distinct-cross, Distinct-right, Has-append_left, Has-append_right, Has-map}
use Rattle.plir_store.specs.MemberLaws.{Has-split}
use Rattle.plir_core.specs.declared.ptr.Ptr.{Ptr}
use Rattle.plir_core.specs.declared.ptr.Operation.{Operation as OperationKind}
use Rattle.plir_core.specs.declared.ptr.BasicBlock.{BasicBlock as BlockKind}
use Rattle.plir_core.specs.declared.ptr.IRNode.{IRNode}
use Rattle.plir_core.specs.declared.ptr.IRNode.TheVariants.{Operation, Region, BasicBlock}
use Rattle.plir_core.specs.declared.value.Value.{Value}
use Rattle.plir_core.specs.Changes.{SameLive}
use Rattle.plir_core.specs.Contents.{OpView}
use Rattle.plir_core.specs.Forest.{look, IsForest}
use Rattle.plir_core.specs.ContextView.{ContextView, IsAncestor, IsLive, children, given_out, is_live, kind_in, kind_of}
use Rattle.plir_core.specs.ContextView.{op_at, parent_of}
use Rattle.plir_copies.specs.Trees.{node_copy}
use Rattle.plir_walk.specs.NodeLaws.{block-tells, same-op}
use Rattle.plir_inline.specs.Given.{with_operands_by}
use Rattle.plir_inline.specs.Inlined.{IsInlined, op_inlined}
use Rattle.plir_builtin.specs.Lasting.{LastsOverTables}
use Rattle.plir_builtin.specs.Symbols.{is_symbol_kind, symbols_among}
use Rattle.plir_inliner.specs.Known.{AgreeStill, SureStill}
use Rattle.plir_inliner.proofs.Shapes.{no-op-under-op, no-op-under-region}
use Rattle.plir_inliner.proofs.Staying.{IsSameSymbol, LeavesSymbols, lasts, no-symbols, same-symbol, symbols-alike}
use Rattle.plir_inliner.proofs.Staying.{symbols-append}

-- with other operands it is the same symbol
same-by : {K A : Type 0} (f : Value → Value) (o o' : Option (OpView K A)) → o' ≡ option_map (with_operands_by f) o →
    IsSameSymbol o o'
same-by {K} {A} f o o' e = subst (IsSameSymbol o) (sym e) (at o)
  where
    at : (o : Option (OpView K A)) → IsSameSymbol o (option_map (with_operands_by f) o)
    at None = record { kind = refl; name = refl }
    at (Some v) = record { kind = refl; name = refl }

same-kind : {K A : Type 0} (own : K → Bool) (g : OpView K A → OpView K A) → ((v : OpView K A) → (g v).kind ≡ v.kind) →
    (o : Option (OpView K A)) →
    is_symbol_kind own (kind_in (option_map g o)) ≡ is_symbol_kind own (kind_in o)
same-kind own g same None = refl
same-kind own g same (Some v) = ap (λ z. is_symbol_kind own (Some z)) (same v)

module _ {K A T : Type 0} (own own_table : K → Bool) (s t : ContextView K A T) (call : Ptr OperationKind)
    (block : Ptr BlockKind) (w : IsForest (look s)) (w' : IsForest (look t)) (f : IsInlined s t call block)
    (no_symbol : is_symbol_kind own (kind_of s call) ≡ false)
    (quiet : (p : Ptr OperationKind) → IsAncestor s (BasicBlock block) (Operation p) →
    is_symbol_kind own (kind_of s p) ≡ false) where
  other-live : (n : IRNode) → IsLive t n → n ≡ Operation call → ⊥
  other-live n live same = false≢true (sym f.gone ∙ subst (IsLive t) same live)

  kept-symbol : (p : Ptr OperationKind) → IsLive s (Operation p) → (p ≡ call → ⊥) →
      IsSameSymbol (op_at s p) (op_at t p)
  kept-symbol p was other = same-by _ (op_at s p) (op_at t p) (f.ops p was other)

  no-op-over : (p : Ptr OperationKind) → parent_of s (Operation call) ≡ Some (Operation p) → ⊥
  no-op-over p e = no-op-under-op s p call (w.parent_child (Operation p) (Operation call) e)

  -- the copies of the body's operations are no symbols
  copies-quiet : (p : Ptr OperationKind) → Has (map (node_copy f.copies) f.body) (Operation p) →
      is_symbol_kind own (kind_in (op_at t p)) ≡ false
  copies-quiet p h = (let m = Has-map (node_copy f.copies) f.body (Operation p) h in at m.0 m.1.0 m.1.1)
    where
      at : (n : IRNode) → Has f.body n → node_copy f.copies n ≡ Operation p →
          is_symbol_kind own (kind_in (op_at t p)) ≡ false
      at (Operation q) has e =
          (let here : Has (children s (BasicBlock block)) (Operation q) =
          subst (λ z. Has z (Operation q)) (sym f.ends)
          (Has-append_left f.body (Operation f.last ∷ []) (Operation q) has) in
          let below : IsAncestor s (BasicBlock block) (Operation q) =
          (1, w.child_parent (BasicBlock block) (Operation q) here) in
          let holds = (f.tree (Operation q) (record {
            below = below;
            not_block = λ z. cc z;
            not_last = λ z. Distinct-cross f.body (Operation f.last ∷ [])
                (subst Distinct f.ends (w.once (BasicBlock block)))
                (Operation q) has (inl (sym z));
          })).holds in
          let same : f.copies.op q ≡ p = same-op (f.copies.op q) p e in
          subst (λ z. is_symbol_kind own (kind_in (op_at t z)) ≡ false) same
          (ap (λ z. is_symbol_kind own (kind_in z)) holds
          ∙ same-kind own (op_inlined s t call block f.last f.copies f.images) (λ v. refl) (op_at s q)
          ∙ quiet q below))
      at (Region q) has e = absurd (let z : ⊥ = cc e in z)
      at (BasicBlock q) has e = absurd (let z : ⊥ = cc e in z)

  -- those among nodes that stay are the same symbols
  alike : (xs : List IRNode) →
      ((p : Ptr OperationKind) → Has xs (Operation p) → IsLive s (Operation p) × (p ≡ call → ⊥)) →
      symbols_among own (op_at t) xs ≡ symbols_among own (op_at s) xs
  alike xs stay = symbols-alike own (op_at s) (op_at t) xs (λ p h. kept-symbol p (stay p h).0 (stay p h).1)

  -- in the block where the call stood
  here : (b : Ptr BlockKind) (xs ys : List IRNode) → children s (BasicBlock b) ≡ xs ++ Operation call ∷ ys →
      symbols_among own (op_at t) (children t (BasicBlock b)) ≡ symbols_among own (op_at s) (children s (BasicBlock b))
  here b xs ys e =
      let ms = map (node_copy f.copies) f.body in
      let once : Distinct (xs ++ Operation call ∷ ys) = subst Distinct e (w.once (BasicBlock b)) in
      let live : (n : IRNode) → Has (xs ++ Operation call ∷ ys) n → IsLive s n =
      λ n h. w.child_live (BasicBlock b) n (subst (λ z. Has z n) (sym e) h) in
      let front = alike xs (λ p h. (
        live (Operation p) (Has-append_left xs (Operation call ∷ ys) (Operation p) h),
        λ z. Distinct-cross xs (Operation call ∷ ys) once (Operation p) h (inl (ap Operation (sym z))),
      )) in
      let back = alike ys (λ p h. (
        live (Operation p) (Has-append_right xs (Operation call ∷ ys) (Operation p) (inr h)),
        λ z. (Distinct-right xs (Operation call ∷ ys) once).0 (subst (λ q. Has ys (Operation q)) z h),
      )) in
      let none = no-symbols own (op_at s) (Operation call ∷ []) (λ p h. elim h [
        | inl z ↦ subst (λ q. is_symbol_kind own (kind_of s q) ≡ false) (same-op call p z) no_symbol
        | inr z ↦ absurd z
      ]) in
      let gone = no-symbols own (op_at t) ms copies-quiet in
      ap (symbols_among own (op_at t)) (f.here (BasicBlock b) xs ys e)
      ∙ symbols-append own (op_at t) (xs ++ ms) ys
      ∙ ap (λ z. z ++ symbols_among own (op_at t) ys) (symbols-append own (op_at t) xs ms)
      ∙ ap (λ z. (symbols_among own (op_at t) xs ++ z) ++ symbols_among own (op_at t) ys) gone
      ∙ ap (λ z. z ++ symbols_among own (op_at t) ys) (append-nil (symbols_among own (op_at t) xs))
      ∙ ap (λ z. z ++ symbols_among own (op_at t) ys) front
      ∙ ap (λ z. symbols_among own (op_at s) xs ++ z) back
      ∙ ap (λ z. symbols_among own (op_at s) xs ++ (z ++ symbols_among own (op_at s) ys)) (sym none)
      ∙ ap (λ z. symbols_among own (op_at s) xs ++ z) (sym (symbols-append own (op_at s) (Operation call ∷ []) ys))
      ∙ sym (symbols-append own (op_at s) xs (Operation call ∷ ys))
      ∙ ap (symbols_among own (op_at s)) (sym e)

  -- and in any other one
  elsewhere : (b : Ptr BlockKind) → IsLive s (BasicBlock b) → (parent_of s (Operation call) ≡ Some (BasicBlock b) → ⊥) →
      symbols_among own (op_at t) (children t (BasicBlock b)) ≡ symbols_among own (op_at s) (children s (BasicBlock b))
  elsewhere b was off =
      ap (symbols_among own (op_at t)) (f.children (BasicBlock b) was (λ z. cc z) off)
      ∙ alike (children s (BasicBlock b)) (λ p h. (
        w.child_live (BasicBlock b) (Operation p) h,
        λ z. off (subst (λ q. parent_of s (Operation q) ≡ Some (BasicBlock b)) z
            (w.child_parent (BasicBlock b) (Operation p) h)),
      ))

  leaves-symbols : LeavesSymbols own own_table s t
  leaves-symbols = record {
    ops = λ p was is. kept-symbol p was (λ z. other-live (Operation p) is (ap Operation z));
    regions = λ p was is. f.children (Operation p) was (other-live (Operation p) is) (no-op-over p);
    bodies = λ r was is. f.children (Region r) was (λ z. cc z)
        (λ e. no-op-under-region s r call (w.parent_child (Region r) (Operation call) e));
    blocks = λ b was is. by b was (parent_of s (Operation call)) refl;
  }
    where
      by : (b : Ptr BlockKind) → IsLive s (BasicBlock b) → (o : Option IRNode) → parent_of s (Operation call) ≡ o →
          symbols_among own (op_at t) (children t (BasicBlock b)) ≡
          symbols_among own (op_at s) (children s (BasicBlock b))
      by b was None e = elsewhere b was (λ z. none-some (BasicBlock b) (sym e ∙ z))
      by b was (Some n) e = elim (block-tells n b) [
        | inl same ↦
            (let has = w.parent_child (BasicBlock b) (Operation call) (e ∙ ap Some same) in
            let k = Has-split (children s (BasicBlock b)) (Operation call) has in
            here b k.0 k.1 k.2)
        | inr differs ↦ elsewhere b was (λ z. differs (same_Some n (BasicBlock b) (sym e ∙ z)))
      ]

  -- what was given out, and is live afterwards, was live before
  were-live : (n : IRNode) → given_out s n ≡ true → IsLive t n → IsLive s n
  were-live n given live = by (is_live s n) refl
    where
      by : (b : Bool) → is_live s n ≡ b → is_live s n ≡ true
      by true e = e
      by false e = absurd (false≢true (sym (f.fresh n live e) ∙ given))

  -- tables that agreed, and were cached for what was given out, still do and are
  pub sure-still : LastsOverTables own own_table s t → SureStill own own_table s t
  sure-still law c sure = record {
    agree = lasts own own_table s t law c w w' leaves-symbols (λ p tab has. (
      were-live (Operation tab.op) (sure.given p tab has).1,
      were-live (Operation p) (sure.given p tab has).0,
    )) sure.agree;
    given = λ p tab has. (
      f.given_out (Operation p) (sure.given p tab has).0,
      f.given_out (Operation tab.op) (sure.given p tab has).1,
    );
  }

-- where no live node has changed, tables that agreed agree
module _ {K A T : Type 0} (own own_table : K → Bool) (s t : ContextView K A T) (w : IsForest (look s))
    (w' : IsForest (look t)) (f : SameLive s t) where
  pub agree-still : LastsOverTables own own_table s t → AgreeStill own own_table s t
  agree-still law c sure =
      lasts own own_table s t law c w w' (record {
        ops = λ p was is. same-symbol (op_at s p) (op_at t p) (f.nodes.ops p was);
        regions = λ p was is. f.nodes.children (Operation p);
        bodies = λ r was is. f.nodes.children (Region r);
        blocks = λ b was is.
            ap (symbols_among own (op_at t)) (f.nodes.children (BasicBlock b))
            ∙ symbols-alike own (op_at s) (op_at t) (children s (BasicBlock b))
            (λ p h. same-symbol (op_at s p) (op_at t p) (f.nodes.ops p (w.child_live (BasicBlock b) (Operation p) h)));
      }) (λ p tab has. (
        λ l. sym (f.nodes.live (Operation tab.op)) ∙ l,
        λ l. sym (f.nodes.live (Operation p)) ∙ l,
      )) sure.agree
