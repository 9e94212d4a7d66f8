-- A constant is made and gets a location.
use Rattle.std.proofs.Common.{◌≡◌, ◌∙◌, true≢false, sym, ap, subst}
use Rattle.plir_core.specs.declared.ptr.Ptr.{Ptr}
use Rattle.plir_core.specs.declared.ptr.Operation.{Operation as OperationKind}
use Rattle.plir_core.specs.declared.ptr.IRNode.TheVariants.{Operation}
use Rattle.plir_core.specs.Above.{Reaches}
use Rattle.plir_core.specs.Contents.{OpView}
use Rattle.plir_core.specs.ContextView.{ContextView, is_live, parent_of}
use Rattle.plir_core.specs.Held.{IsOpEdited}
use Rattle.plir_core.specs.Made.{IsMade}

module _ {K A T : Type 0} (s t u : ContextView K A T) (p : Ptr OperationKind) (f : OpView K A → OpView K A) where
  -- what was made, with its root edited, was made
  pub made-edited : IsMade s.nodes t.nodes (Operation p) → IsOpEdited t u p f → IsMade s.nodes u.nodes (Operation p)
  made-edited m e = record {
    keeps = record {
      live = λ x l. e.keeps.live x ∙ m.keeps.live x l;
      parents = λ x l. e.keeps.parents x ∙ m.keeps.parents x l;
      ops = λ q l. e.ops q (m.keeps.live (Operation q) l) (λ same. true≢false (sym l
          ∙ ap (λ z. is_live s (Operation z)) same ∙ m.new)) ∙ m.keeps.ops q l;
      blocks = λ b l. e.blocks b ∙ m.keeps.blocks b l;
      given = λ x g. e.keeps.given x ∙ m.keeps.given x g;
      limit = e.keeps.limit ∙ m.keeps.limit;
    };
    children = λ x l. e.keeps.children x ∙ m.children x l;
    new = m.new;
    root = e.keeps.live (Operation p) ∙ m.root;
    top = e.keeps.parents (Operation p) ∙ m.top;
    below = λ x l o. subst (λ up. Reaches up x (Operation p)) parents (m.below x (sym (e.keeps.live x) ∙ l) o);
    fresh = λ x l o. m.fresh x (sym (e.keeps.live x) ∙ l) o;
    apart = λ x l r. m.apart x l (subst (λ up. Reaches up x (Operation p)) (sym parents) r);
  }
    where
      parents : parent_of t ≡ parent_of u
      parents = λ i x. sym (e.keeps.parents x) i
