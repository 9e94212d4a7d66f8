-- Edits that leave kinds and names.
use Rattle.std.proofs.Common.{Bool, Option, Some, None, inl, inr, refl, sym, ap, subst, ◌∙◌}
use Rattle.std.specs.Prelude.{option_map}
use Rattle.plir_data.specs.DictLaws.{get-other}
use Rattle.plir_data.specs.Keys.{symbol_key}
use Rattle.plir_core.specs.declared.ptr.Ptr.{Ptr}
use Rattle.plir_core.specs.declared.ptr.Operation.{Operation as OperationKind}
use Rattle.plir_core.specs.declared.ptr.IRNode.TheVariants.{Operation, Region, BasicBlock}
use Rattle.plir_core.specs.Contents.{OpView}
use Rattle.plir_core.specs.Forest.{look, IsForest}
use Rattle.plir_core.specs.ContextView.{ContextView, IsLive, op_at}
use Rattle.plir_core.specs.Held.{KeepsNodes}
use Rattle.plir_core.specs.Replaced.{op_replaced}
use Rattle.plir_walk.specs.NodeLaws.{ptr-tells}
use Rattle.plir_builtin.specs.Lasting.{LastsOverTables}
use Rattle.plir_builtin.specs.Symbols.{name_in, symbols_among}
use Rattle.plir_builtin.specs.Table.{Tables}
use Rattle.plir_agreement.specs.Lasts.{EditsLast, KeepsName, Lasts, OthersKeepName}
use Rattle.plir_agreement.proofs.Staying.{IsSameSymbol, lasts, same-symbol}

pub others-keep : {K A : Type 0} → OthersKeepName K A
others-keep {K} {A} = record {
  put = λ key v other. record {
    kind = λ o. refl;
    name = λ o. ap name_in (get-other o.attributes key symbol_key v other);
  };
}

module _ {K A : Type 0} (f : OpView K A → OpView K A) (keeps : KeepsName f) where
  kept-symbol : (o : Option (OpView K A)) → IsSameSymbol o (option_map f o)
  kept-symbol None = record { kind = refl; name = refl }
  kept-symbol (Some o) = record { kind = ap Some (keeps.kind o); name = keeps.name o }

module _ {K A T : Type 0} (own own_table : K → Bool) (c : Tables) (s t : ContextView K A T)
    (law : LastsOverTables own own_table s t) (w : IsForest (look s)) (w' : IsForest (look t)) where
  -- the same nodes stand where they stood, and each operation is the same symbol
  of-nodes : KeepsNodes s t → ((p : Ptr OperationKind) → IsLive s (Operation p) → IsSameSymbol (op_at s p) (op_at t p)) →
      Lasts own own_table c s t
  of-nodes k ops =
      lasts own own_table s t law c w w' (record {
        ops = λ p was is. ops p was;
        regions = λ p was is. k.children (Operation p);
        bodies = λ r was is. k.children (Region r);
        old = λ b x was is h. sym (k.live x) ∙ w'.child_live (BasicBlock b) x h;
        blocks = λ b was is. ap (symbols_among own (op_at s)) (k.children (BasicBlock b));
      }) (λ p tab has. (λ l. sym (k.live (Operation tab.op)) ∙ l, λ l. sym (k.live (Operation p)) ∙ l))

  pub edits-last : EditsLast own own_table c s t
  edits-last = record {
    op = λ p f keeps e. of-nodes e.keeps (λ q l. elim (ptr-tells q p) [
      | inl same ↦ subst (λ z. IsSameSymbol (op_at s z) (op_at t z)) (sym same)
          (subst (IsSameSymbol (op_at s p)) (sym e.held) (kept-symbol f keeps (op_at s p)))
      | inr other ↦ same-symbol (op_at s q) (op_at t q) (e.ops q l other)
    ]);
    block = λ b f e. of-nodes e.keeps (λ q l. same-symbol (op_at s q) (op_at t q) (e.ops q));
    uses = λ v u e. of-nodes e.keeps (λ q l. subst (IsSameSymbol (op_at s q)) (sym (e.ops q))
        (kept-symbol (op_replaced v u) (record { kind = λ o. refl; name = λ o. refl }) (op_at s q)));
  }
