-- Dead operations that are erased: none of them is a symbol.
use Rattle.std.proofs.Common.{◌≡◌, Bool, true, false, cond, List, [], ◌∷◌, Option, Some, None, ◌⊎◌, inl, inr, refl, sym}
use Rattle.std.proofs.Common.{ap}
use Rattle.std.proofs.Common.{subst, ◌∙◌}
use Rattle.std.specs.List.{filter}
use Rattle.std.proofs.lemmas.Bool.{cases_Bool}
use Rattle.plir_data.specs.declared.op_set.OpKind.{OpKind}
use Rattle.plir_store.specs.FilterLaws.{filter-all, not-both}
use Rattle.plir_store.specs.Members.{Has}
use Rattle.plir_core.specs.declared.ptr.Ptr.{Ptr}
use Rattle.plir_core.specs.declared.ptr.Operation.{Operation as OperationKind}
use Rattle.plir_core.specs.declared.ptr.Region.{Region as RegionKind}
use Rattle.plir_core.specs.declared.ptr.IRNode.{IRNode}
use Rattle.plir_core.specs.declared.ptr.IRNode.TheVariants.{Operation, Region, BasicBlock}
use Rattle.plir_core.specs.Contents.{OpView}
use Rattle.plir_core.specs.Forest.{look, IsForest}
use Rattle.plir_core.specs.ContextView.{ContextView, IsLive, is_live, children, kind_in, kind_of, op_at}
use Rattle.plir_passes.specs.Dead.{AreDead, is_removable}
use Rattle.plir_passes.specs.Legal.{is_kind}
use Rattle.plir_passes.specs.Swept.{IsAmong}
use Rattle.plir_builtin.specs.Lasting.{LastsOverTables}
use Rattle.plir_builtin.specs.Symbols.{is_symbol_kind, name_held, symbols_among}
use Rattle.plir_builtin.specs.Table.{Tables}
use Rattle.plir_agreement.specs.Lasts.{DeadCodeLasts, IsNoSymbol, SymbolsStay}
use Rattle.plir_agreement.proofs.Shapes.{block-under-region}
use Rattle.plir_agreement.proofs.Staying.{lasts, same-symbol}

module _ {K A T : Type 0} (own effect ends : K → Bool) (stay : SymbolsStay own effect ends) (s : ContextView K A T) where
  no-symbol : (o : Option (OpKind K)) → is_kind (is_removable effect ends) o ≡ true → is_symbol_kind own o ≡ false
  no-symbol None h = refl
  no-symbol (Some k) h = elim (cases_Bool (is_symbol_kind own (Some k))) [
    | inl e ↦ absurd (not-both (is_removable effect ends k) h (stay k e))
    | inr e ↦ e
  ]

  dead-no-symbol : (gone : List (Ptr OperationKind)) → AreDead effect ends s gone → (p : Ptr OperationKind) →
      Has gone p → IsNoSymbol own s p
  dead-no-symbol [] d p h = absurd h
  dead-no-symbol (q ∷ qs) d p (inl e) =
      subst (λ z. IsNoSymbol own s z) e (no-symbol (kind_of s q) d.0.removable)
  dead-no-symbol (q ∷ qs) d p (inr h) = dead-no-symbol qs d.1 p h

-- symbols that are picked are all, where what is not picked is none
symbols-picked : {K A : Type 0} (own : K → Bool) (h : Ptr OperationKind → Option (OpView K A)) (test : IRNode → Bool)
    (xs : List IRNode) → ((p : Ptr OperationKind) → Has xs (Operation p) → test (Operation p) ≡ false →
    is_symbol_kind own (kind_in (h p)) ≡ false) →
    symbols_among own h (filter test xs) ≡ symbols_among own h xs
symbols-picked own h test [] none = refl
symbols-picked own h test (Operation p ∷ xs) none =
    let rest = symbols-picked own h test xs (λ q k. none q (inr k)) in
    elim (cases_Bool (test (Operation p))) [
      | inl e ↦ rw e (ap (λ z. cond (is_symbol_kind own (kind_in (h p))) ((p, name_held (h p)) ∷ z) z) rest)
      | inr e ↦
          (let no = none p (inl refl) e in
          rw e (rest ∙ sym (ap (λ b. cond b ((p, name_held (h p)) ∷ symbols_among own h xs) (symbols_among own h xs)) no)))
    ]
symbols-picked own h test (Region p ∷ xs) none =
    let rest = symbols-picked own h test xs (λ q k. none q (inr k)) in
    elim (cases_Bool (test (Region p))) [ inl e ↦ rw e rest | inr e ↦ rw e rest ]
symbols-picked own h test (BasicBlock p ∷ xs) none =
    let rest = symbols-picked own h test xs (λ q k. none q (inr k)) in
    elim (cases_Bool (test (BasicBlock p))) [ inl e ↦ rw e rest | inr e ↦ rw e rest ]

module _ {K A T : Type 0} (own own_table effect ends : K → Bool) (stay : SymbolsStay own effect ends) (c : Tables)
    (s t : ContextView K A T) (law : LastsOverTables own own_table s t) (w : IsForest (look s))
    (w' : IsForest (look t)) where
  pub swept-lasts : DeadCodeLasts own own_table c s t effect ends
  swept-lasts f =
      lasts own own_table s t law c w w' (record {
        ops = λ p was is. same-symbol (op_at s p) (op_at t p) (f.thinned.ops p is);
        regions = λ p was is. f.regions p is;
        bodies = λ r was is. f.thinned.children (Region r) is
            ∙ filter-all (is_live t) (children s (Region r)) (λ x h. block-left r x h (f.left x (w.child_live (Region r) x h)));
        old = λ b x was is h. f.thinned.old x (w'.child_live (BasicBlock b) x h);
        blocks = λ b was is. ap (symbols_among own (op_at s)) (f.thinned.children (BasicBlock b) is)
            ∙ symbols-picked own (op_at s) (is_live t) (children s (BasicBlock b))
            (λ p h dead. gone-none p dead (f.left (Operation p) (w.child_live (BasicBlock b) (Operation p) h)));
      }) (λ p tab has. (f.thinned.old (Operation tab.op), f.thinned.old (Operation p)))
    where
      block-left : (r : Ptr RegionKind) (x : IRNode) → Has (children s (Region r)) x → IsLive t x ⊎ IsAmong f.gone x → is_live t x ≡ true
      block-left r x h (inl l) = l
      block-left r x h (inr (p, e, g)) =
          (let b = block-under-region s r x h in
          let z : BasicBlock b.0 ≡ Operation p = sym b.1 ∙ e in absurd (let no : ⊥ = cc z in no))

      gone-none : (p : Ptr OperationKind) → is_live t (Operation p) ≡ false →
          IsLive t (Operation p) ⊎ IsAmong f.gone (Operation p) → is_symbol_kind own (kind_in (op_at s p)) ≡ false
      gone-none p dead (inl l) = absurd (not-both (is_live t (Operation p)) l dead)
      gone-none p dead (inr (q, e, g)) =
          (let same : p ≡ q = cc e in
          subst (λ z. IsNoSymbol own s z) (sym same) (dead-no-symbol own effect ends stay s f.gone f.dead q g))
