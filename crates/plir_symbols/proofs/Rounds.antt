-- The loop of rounds over the symbols of a table.
use Rattle.std.proofs.Common.{◌≡◌, ◌↔◌, ℕ, Bool, true, false, IsTrue, List, [], ◌∷◌, ◌++◌, Some, inl, inr, refl, sym, ap}
use Rattle.std.proofs.Common.{subst, ◌∙◌}
use Rattle.std.specs.Prelude.{not}
use Rattle.std.proofs.lemmas.Bool.{cases_Bool}
use Rattle.plir_store.specs.FilterLaws.{not-both}
use Rattle.plir_store.specs.Members.{Has}
use Rattle.plir_core.specs.declared.ptr.Ptr.{Ptr}
use Rattle.plir_core.specs.declared.ptr.Operation.{Operation as OperationKind}
use Rattle.plir_core.specs.declared.ptr.BasicBlock.{BasicBlock as BasicBlockKind}
use Rattle.plir_core.specs.declared.ptr.IRNode.TheVariants.{Operation, BasicBlock}
use Rattle.plir_core.specs.Contents.{OpView}
use Rattle.plir_core.specs.ContextView.{ContextView, IsLive, children}
use Rattle.plir_core.specs.Standing.{IsStanding}
use Rattle.plir_walk.specs.Thinned.{IsThinned, ErasuresThin}
use Rattle.plir_builtin.specs.Agree.{Agrees}
use Rattle.plir_builtin.specs.Table.{Table}
use Rattle.plir_builtin.specs.Symbols.{body, children_in}
use Rattle.plir_symbols.specs.DeadSymbols.{HasNoDead, IsDead, IsInBody, IsReached, MayGo}
use Rattle.plir_symbols.specs.Reaching.{is_among}
use Rattle.plir_symbols.specs.SweptSymbols.{AreSwept, AreSweeps, IsSweep, ops_that, without_each}
use Rattle.plir_symbols.specs.Sweeping.{IsTableKept, IsRound}
use Rattle.plir_symbols.proofs.Erasing.{kept-both, kept-none, swept-both, swept-none, sweeps-more}

pub not-true : (b : Bool) → not b ≡ true → b ≡ false
not-true false e = refl
not-true true e = absurd (let z : ⊥ = cc e in z)

not-false : (b : Bool) → b ≡ false → not b ≡ true
not-false b e = ap not e

module _ {K A T : Type 0} (own own_table : K → Bool) (is_private : OpView K A → Bool)
    (names : OpView K A → List (List ℕ)) where
  -- From the start of the rounds in s to s' symbols are gone that could go; the table has its body still, and where it
  -- agreed at the start exactly dead symbols went, round after round.
  pub record IsRounds (s : ContextView K A T) (c : Table) (b : Ptr BasicBlockKind) (s' : ContextView K A T)
      (c' : Table) : Type 0 where
    pub swept : AreSwept own is_private s s'
    pub kept : IsTableKept own own_table s c s' c'
    pub standing : IsStanding s'
    pub live : IsLive s' (Operation c.op)
    pub at_body : body s' c.op ≡ Some (BasicBlock b)
    pub sweeps : Agrees own own_table s c → (ms : List (ContextView K A T)) ×
        AreSweeps own is_private own_table names c.op s ms s'

  -- those operations of the body that are not among the reached ones may go, and where the table agrees those among
  -- them are reached
  pub record IsSearched (s : ContextView K A T) (c : Table) (b : Ptr BasicBlockKind) (rs : List (Ptr OperationKind)) :
      Type 0 where
    pub kept : (p : Ptr OperationKind) → Has (children s (BasicBlock b)) (Operation p) → is_among rs p ≡ false →
        MayGo own is_private s p
    pub exact : Agrees own own_table s c → (p : Ptr OperationKind) → IsInBody s c.op p → IsTrue (is_among rs p) ↔
        IsReached own is_private own_table names s c.op p

module _ {K A T : Type 0} {own own_table : K → Bool} {is_private : OpView K A → Bool}
    {names : OpView K A → List (List ℕ)} where
  pub rounds-start : {s : ContextView K A T} {c : Table} {b : Ptr BasicBlockKind} → IsThinned s s → IsStanding s
      → IsLive s (Operation c.op) → body s c.op ≡ Some (BasicBlock b)
      → IsRounds own own_table is_private names s c b s c
  rounds-start {s} {c} {b} thin w l e = record {
    swept = swept-none own is_private s thin;
    kept = kept-none own own_table s c;
    standing = w;
    live = l;
    at_body = e;
    sweeps = λ a. ([], refl);
  }

  module _ {s : ContextView K A T} {c : Table} {b : Ptr BasicBlockKind} {s' : ContextView K A T} {c' : Table}
      (r : IsRounds own own_table is_private names s c b s' c') where
    pub rounds-live : IsLive s' (Operation c'.op)
    rounds-live = subst (λ q. IsLive s' (Operation q)) (sym r.kept.op) r.live

    pub rounds-body : body s' c'.op ≡ Some (BasicBlock b)
    rounds-body = ap (λ q. body s' q) r.kept.op ∙ r.at_body

    module _ (laws : ErasuresThin s) {rs : List (Ptr OperationKind)} {erased : Bool} {t : ContextView K A T}
        {d : Table} (found : IsSearched own own_table is_private names s' c' b rs)
        (h : IsRound own own_table is_private s' c' b (λ p. not (is_among rs p)) erased t d) where
      -- an operation of the body is dead exactly if it is not among them
      dead-is : Agrees own own_table s c → (p : Ptr OperationKind) → IsInBody s' c.op p → IsTrue (not (is_among rs p)) ↔
          IsDead own is_private own_table names s' c.op p
      dead-is a p here =
          (let agrees = r.kept.agrees a in
          let inside = subst (λ q. IsInBody s' q p) (sym r.kept.op) here in
          let k = subst (λ q. IsTrue (is_among rs p) ↔ IsReached own is_private own_table names s' q p) r.kept.op
          (found.exact agrees p inside) in (
            λ goes. record {
              here = here;
              may_go = found.kept p (subst (λ z. Has (children_in s' z) (Operation p)) r.at_body here)
                  (not-true (is_among rs p) goes);
              unreached = λ reached. not-both (is_among rs p) (k.1 reached) (not-true (is_among rs p) goes);
            },
            λ dead. elim (cases_Bool (is_among rs p)) [
              | inl among ↦ absurd (dead.unreached (k.0 among))
              | inr off ↦ not-false (is_among rs p) off
            ],
          ))

      sweep : Agrees own own_table s c → IsSweep own is_private own_table names c.op s' t
      sweep a = record {
        goes = λ p. not (is_among rs p);
        tells = dead-is a;
        after = h.after
            ∙ ap (λ z. without_each s' (ops_that (λ p. not (is_among rs p)) (children_in s' z))) (sym r.at_body);
      }

      pub rounds-more : IsRounds own own_table is_private names s c b t d
      rounds-more = record {
        swept = swept-both own is_private s s' t r.swept h.swept (laws.both s s' t r.swept.thinned h.swept.thinned);
        kept = kept-both own own_table s s' t c c' d r.kept h.kept;
        standing = h.standing;
        live = subst (λ q. IsLive t (Operation q)) r.kept.op h.live;
        at_body = ap (λ q. body t q) (sym r.kept.op) ∙ h.body;
        sweeps = λ a. (let k = r.sweeps a in
            (k.0 ++ t ∷ [], sweeps-more own is_private own_table names c.op s s' t k.0 k.1 (sweep a)));
      }

      -- where the last round erased nothing, no symbol of the table is dead
      pub rounds-clean : erased ≡ false → Agrees own own_table s c → HasNoDead own is_private own_table names t c.op
      rounds-clean f a p dead =
          (let k = h.clear f in
          let d = subst (λ z. IsDead own is_private own_table names z c.op p) k.0 dead in
          not-both (not (is_among rs p)) ((dead-is a p d.here).1 d)
          (k.2 p (subst (λ z. Has (children_in s' z) (Operation p)) r.at_body d.here)))
