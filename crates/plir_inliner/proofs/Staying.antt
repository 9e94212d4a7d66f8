-- Changes that leave each cached table the table that it was.
use Rattle.std.proofs.Common.{◌≡◌, Bool, true, false, cond, List, [], ◌∷◌, ◌++◌, Option, Some, None, ◌⊎◌, inl, inr}
use Rattle.std.proofs.Common.{refl, sym, ap, subst, ◌∙◌}
use Rattle.std.specs.Prelude.{IsSome, option_and_then}
use Rattle.std.specs.FinMap.{get}
use Rattle.std.proofs.lemmas.Option.{none-some}
use Rattle.plir_store.specs.Members.{Has}
use Rattle.plir_core.specs.declared.ptr.Ptr.{Ptr}
use Rattle.plir_core.specs.declared.ptr.Operation.{Operation as OperationKind}
use Rattle.plir_core.specs.declared.ptr.Region.{Region as RegionKind}
use Rattle.plir_core.specs.declared.ptr.BasicBlock.{BasicBlock as BasicBlockKind}
use Rattle.plir_core.specs.declared.ptr.IRNode.{IRNode}
use Rattle.plir_core.specs.declared.ptr.IRNode.TheVariants.{Operation, Region, BasicBlock}
use Rattle.plir_core.specs.Contents.{OpView}
use Rattle.plir_core.specs.Forest.{look, IsForest}
use Rattle.plir_core.specs.ContextView.{ContextView, IsLive, children, kind_in, op_at}
use Rattle.plir_builtin.specs.Agree.{AllAgree}
use Rattle.plir_builtin.specs.Lasting.{LastsOverTables, StaysTable}
use Rattle.plir_builtin.specs.Symbols.{is_symbol_kind, is_table_kind, name_held, only, body, symbols_among, symbols_in}
use Rattle.plir_builtin.specs.Table.{Table, Tables}
use Rattle.plir_inliner.proofs.Shapes.{block-under-region, only-Has, region-under-op}

-- what is told of an operation as a symbol is the same in both
pub record IsSameSymbol {K A : Type 0} (o o' : Option (OpView K A)) : Type 0 where
  pub kind : kind_in o' ≡ kind_in o
  pub name : name_held o' ≡ name_held o

pub same-symbol : {K A : Type 0} (o o' : Option (OpView K A)) → o' ≡ o → IsSameSymbol o o'
same-symbol o o' e = record { kind = ap kind_in e; name = ap name_held e }

-- symbols among nodes are told by what is told of each
pub symbols-alike : {K A : Type 0} (own : K → Bool) (g h : Ptr OperationKind → Option (OpView K A)) (xs : List IRNode) →
    ((p : Ptr OperationKind) → Has xs (Operation p) → IsSameSymbol (g p) (h p)) →
    symbols_among own h xs ≡ symbols_among own g xs
symbols-alike own g h [] same = refl
symbols-alike own g h (Operation p ∷ xs) same =
    let here = same p (inl refl) in
    ap (λ z. cond (is_symbol_kind own z) ((p, name_held (h p)) ∷ symbols_among own h xs) (symbols_among own h xs))
    here.kind
    ∙ ap (λ z. cond (is_symbol_kind own (kind_in (g p))) ((p, z) ∷ symbols_among own h xs) (symbols_among own h xs))
    here.name
    ∙ ap (λ z. cond (is_symbol_kind own (kind_in (g p))) ((p, name_held (g p)) ∷ z) z)
    (symbols-alike own g h xs (λ q k. same q (inr k)))
symbols-alike own g h (Region p ∷ xs) same = symbols-alike own g h xs (λ q k. same q (inr k))
symbols-alike own g h (BasicBlock p ∷ xs) same = symbols-alike own g h xs (λ q k. same q (inr k))

-- symbols among nodes of two lists, one behind the other
pub symbols-append : {K A : Type 0} (own : K → Bool) (h : Ptr OperationKind → Option (OpView K A))
    (xs ys : List IRNode) → symbols_among own h (xs ++ ys) ≡ symbols_among own h xs ++ symbols_among own h ys
symbols-append own h [] ys = refl
symbols-append own h (Operation p ∷ xs) ys = by (is_symbol_kind own (kind_in (h p))) (symbols-append own h xs ys)
  where
    by : (b : Bool) → symbols_among own h (xs ++ ys) ≡ symbols_among own h xs ++ symbols_among own h ys →
        cond b ((p, name_held (h p)) ∷ symbols_among own h (xs ++ ys)) (symbols_among own h (xs ++ ys)) ≡
        cond b ((p, name_held (h p)) ∷ symbols_among own h xs) (symbols_among own h xs) ++ symbols_among own h ys
    by true rest = ap (λ z. (p, name_held (h p)) ∷ z) rest
    by false rest = rest
symbols-append own h (Region p ∷ xs) ys = symbols-append own h xs ys
symbols-append own h (BasicBlock p ∷ xs) ys = symbols-append own h xs ys

-- where no operation among nodes is a symbol, there is none
pub no-symbols : {K A : Type 0} (own : K → Bool) (h : Ptr OperationKind → Option (OpView K A)) (xs : List IRNode) →
    ((p : Ptr OperationKind) → Has xs (Operation p) → is_symbol_kind own (kind_in (h p)) ≡ false) →
    symbols_among own h xs ≡ []
no-symbols own h [] none = refl
no-symbols own h (Operation p ∷ xs) none =
    ap (λ b. cond b ((p, name_held (h p)) ∷ symbols_among own h xs) (symbols_among own h xs)) (none p (inl refl))
    ∙ no-symbols own h xs (λ q k. none q (inr k))
no-symbols own h (Region p ∷ xs) none = no-symbols own h xs (λ q k. none q (inr k))
no-symbols own h (BasicBlock p ∷ xs) none = no-symbols own h xs (λ q k. none q (inr k))

module _ {K A T : Type 0} (own own_table : K → Bool) (s t : ContextView K A T) where
  -- From s to t each operation that stays is the same symbol, has the same regions with the same blocks, and in each
  -- block the same symbols stand.
  pub record LeavesSymbols : Type 0 where
    pub ops : (p : Ptr OperationKind) → IsLive s (Operation p) → IsLive t (Operation p) →
        IsSameSymbol (op_at s p) (op_at t p)
    pub regions : (p : Ptr OperationKind) → IsLive s (Operation p) → IsLive t (Operation p) →
        children t (Operation p) ≡ children s (Operation p)
    pub bodies : (r : Ptr RegionKind) → IsLive s (Region r) → IsLive t (Region r) →
        children t (Region r) ≡ children s (Region r)
    pub blocks : (b : Ptr BasicBlockKind) → IsLive s (BasicBlock b) → IsLive t (BasicBlock b) →
        symbols_among own (op_at t) (children t (BasicBlock b)) ≡
        symbols_among own (op_at s) (children s (BasicBlock b))

  module _ (w : IsForest (look s)) (w' : IsForest (look t)) (f : LeavesSymbols) (p : Ptr OperationKind)
      (was : IsLive s (Operation p)) (is : IsLive t (Operation p)) where
    in-region : (r : IRNode) → Has (children s (Operation p)) r →
        (q : Ptr RegionKind) × (r ≡ Region q) × (IsLive s (Region q)) × (IsLive t (Region q))
    in-region r h =
        let q = region-under-op s p r h in (
          q.0,
          q.1,
          subst (IsLive s) q.1 (w.child_live (Operation p) r h),
          subst (IsLive t) q.1 (w'.child_live (Operation p) r (subst (λ z. Has z r) (sym (f.regions p was is)) h)),
        )

    same-blocks : (r : IRNode) → Has (children s (Operation p)) r → children t r ≡ children s r
    same-blocks r h =
        let q = in-region r h in
        subst (λ z. children t z ≡ children s z) (sym q.1) (f.bodies q.0 q.2 q.3)

    same-body : body t p ≡ body s p
    same-body = go (only (children s (Operation p))) refl
      where
        go : (o : Option IRNode) → only (children s (Operation p)) ≡ o → body t p ≡ body s p
        go None e =
            ap (λ z. option_and_then (λ r. only (children t r)) (only z)) (f.regions p was is)
            ∙ ap (option_and_then (λ r. only (children t r))) e
            ∙ sym (ap (option_and_then (λ r. only (children s r))) e)
        go (Some r) e =
            ap (λ z. option_and_then (λ r. only (children t r)) (only z)) (f.regions p was is)
            ∙ ap (option_and_then (λ r. only (children t r))) e
            ∙ ap only (same-blocks r (only-Has (children s (Operation p)) r e))
            ∙ sym (ap (option_and_then (λ r. only (children s r))) e)

    -- the body is a block that stays
    body-stays : (n : IRNode) → body s p ≡ Some n →
        (b : Ptr BasicBlockKind) × (n ≡ BasicBlock b) × (IsLive s (BasicBlock b)) × (IsLive t (BasicBlock b))
    body-stays n e = go (only (children s (Operation p))) refl e
      where
        go : (o : Option IRNode) → only (children s (Operation p)) ≡ o →
            option_and_then (λ r. only (children s r)) o ≡ Some n →
            (b : Ptr BasicBlockKind) × (n ≡ BasicBlock b) × (IsLive s (BasicBlock b)) × (IsLive t (BasicBlock b))
        go None k e = absurd (none-some n e)
        go (Some r) k e =
            (let here = only-Has (children s (Operation p)) r k in
            let q = in-region r here in
            let h = only-Has (children s r) n e in
            let b = block-under-region s q.0 n (subst (λ z. Has (children s z) n) q.1 h) in
            let h' = subst (λ z. Has z n) (sym (same-blocks r here)) h in
            (b.0, b.1, subst (IsLive s) b.1 (w.child_live r n h), subst (IsLive t) b.1 (w'.child_live r n h')))

    pub stays : StaysTable own own_table s t p
    stays = record {
      kind = λ e. ap (is_table_kind own_table) (f.ops p was is).kind ∙ e;
      body = λ h. subst IsSome (sym same-body) h;
      symbols = ap (symbols_in own t) same-body ∙ in-body (body s p) refl;
    }
      where
        in-body : (o : Option IRNode) → body s p ≡ o → symbols_in own t o ≡ symbols_in own s o
        in-body None e = refl
        in-body (Some n) e =
            (let b = body-stays n e in
            subst (λ z. symbols_among own (op_at t) (children t z) ≡
            symbols_among own (op_at s) (children s z)) (sym b.1)
            (f.blocks b.0 b.2 b.3))

  -- what is cached for an operation that is live in t, or is its, was so in s
  abbrev pub WereLive : Tables → Type 0
  WereLive c = (p : Ptr OperationKind) (tab : Table) → get c p ≡ Some tab →
      (IsLive t (Operation tab.op) → IsLive s (Operation tab.op)) × (IsLive t (Operation p) → IsLive s (Operation p))

  -- such a change leaves tables in agreement; `law` is what the crate of tables says of it
  pub lasts : (law : LastsOverTables own own_table s t) → (c : Tables) → IsForest (look s) → IsForest (look t) →
      LeavesSymbols → WereLive c → AllAgree own own_table s c → AllAgree own own_table t c
  lasts law c w w' f were agree = law c each agree
    where
      each : (p : Ptr OperationKind) (tab : Table) → get c p ≡ Some tab →
          IsLive t (Operation tab.op) ⊎ IsLive t (Operation p) →
          (IsLive s (Operation tab.op) ⊎ IsLive s (Operation p)) ×
          (IsLive s (Operation tab.op) → StaysTable own own_table s t tab.op)
      each p tab has live =
          (let was : IsLive s (Operation tab.op) ⊎ IsLive s (Operation p) = elim live [
            | inl l ↦ inl ((were p tab has).0 l)
            | inr l ↦ inr ((were p tab has).1 l)
          ] in
          let own-op : tab.op ≡ p = (agree p tab has was).0 in
          let there : IsLive t (Operation tab.op) = elim live [
            | inl l ↦ l
            | inr l ↦ subst (λ q. IsLive t (Operation q)) (sym own-op) l
          ] in
          (was, λ l. stays w w' f tab.op l there))
