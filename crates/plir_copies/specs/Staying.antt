-- Laws of what stays, proved here so that the crates above can cite them. No contract cites this module.
use Rattle.std.proofs.Common.{refl, ◌∙◌}
use Rattle.plir_core.specs.Changes.{SameLive}
use Rattle.plir_core.specs.ContextView.{ContextView}
use Rattle.plir_core.specs.Held.{KeepsNodes}

module _ {K A T : Type 0} where
  -- where nothing has changed, all nodes are kept, and all that is live is the same
  pub keeps_same : (s : ContextView K A T) → KeepsNodes s s
  keeps_same s = record {
    live = λ n. refl;
    given = λ n. refl;
    children = λ n. refl;
    parents = λ n. refl;
    types = refl;
    limit = refl;
  }

  pub same_live : (s : ContextView K A T) → SameLive s s
  same_live s = record {
    nodes = record {
      live = λ n. refl;
      children = λ n. refl;
      parents = λ n. refl;
      ops = λ p l. refl;
      blocks = λ p l. refl;
      limit = refl;
    };
    types = refl;
  }

  -- what two changes keep, they keep one after the other
  pub keeps_both : (s t u : ContextView K A T) → KeepsNodes s t → KeepsNodes t u → KeepsNodes s u
  keeps_both s t u a b = record {
    live = λ n. b.live n ∙ a.live n;
    given = λ n. b.given n ∙ a.given n;
    children = λ n. b.children n ∙ a.children n;
    parents = λ n. b.parents n ∙ a.parents n;
    types = b.types ∙ a.types;
    limit = b.limit ∙ a.limit;
  }
