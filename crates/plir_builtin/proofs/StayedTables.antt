-- Tables whose operations have stayed tables agree as they did.
use Rattle.std.proofs.Common.{◌≡◌, Bool, inl, inr, sym, ap, subst, ◌∙◌}
use Rattle.plir_core.specs.declared.ptr.IRNode.TheVariants.{Operation}
use Rattle.plir_core.specs.ContextView.{ContextView, IsLive}
use Rattle.plir_builtin.specs.Table.{Table, Tables}
use Rattle.plir_builtin.specs.Symbols.{AllNamed, NamesDiffer, IsGood, find_named}
use Rattle.plir_builtin.specs.Agree.{Agrees, AllAgree}
use Rattle.plir_builtin.specs.Lasting.{StaysTable, LastsOverTables}

module _ {K A T : Type 0} (own own_table : K → Bool) (s t : ContextView K A T) where
  stayed-agrees : (tab : Table) → StaysTable own own_table s t tab.op → Agrees own own_table s tab
      → Agrees own own_table t tab
  stayed-agrees tab h a = record {
    good = record {
      table = h.kind a.good.table;
      body = h.body a.good.body;
      named = subst AllNamed (sym h.symbols) a.good.named;
      apart = subst NamesDiffer (sym h.symbols) a.good.apart;
    };
    names = λ x. a.names x ∙ ap (find_named x) (sym h.symbols);
  }

  pub stayed-agree : LastsOverTables own own_table s t
  stayed-agree c stay all p tab has live =
      (let was = stay p tab has live in
      let b = all p tab has was.0 in
      let alive : IsLive s (Operation tab.op) =
      elim was.0 [ inl l ↦ l | inr l ↦ subst (λ z. IsLive s (Operation z)) (sym b.0) l ] in
      (b.0, stayed-agrees tab (was.1 alive) b.1))
