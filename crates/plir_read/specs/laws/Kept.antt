-- What is kept where nodes come, and what is kept on and on.
use Rattle.std.proofs.Common.{◌≡◌, true, false, Option, Some, None, refl, sym, ap, ◌∙◌}
use Rattle.plir_core.specs.declared.ptr.IRNode.{IRNode}
use Rattle.plir_core.specs.declared.ptr.IRNode.TheVariants.{Operation, BasicBlock}
use Rattle.plir_core.specs.Grown.{IsGrown}
use Rattle.plir_core.specs.Made.{KeepsLive}
use Rattle.plir_core.specs.Nodes.{Nodes}
use Rattle.plir_core.specs.ContextView.{ContextView, IsLive}
use Rattle.plir_attr_text.specs.Names.{Grows}
use Rattle.plir_attr_text.specs.laws.Growth.{Grows-itself, Grows-on}
use Rattle.plir_read.specs.Keeping.{KeepsBut}

module _ {O B : Type 0} where
  pub KeepsLive-itself : (s : Nodes O B) → KeepsLive s s
  KeepsLive-itself s = record {
    live = λ m e. e;
    parents = λ m e. refl;
    ops = λ p e. refl;
    blocks = λ p e. refl;
    given =
        λ m e. e;
    limit = refl;
  }

  pub IsGrown-itself : (s : Nodes O B) (o : IRNode) → IsGrown s s o
  IsGrown-itself s o = record {
    keeps = KeepsLive-itself s;
    children = λ m e h. refl;
    below = λ m e f. absurd (let z = sym e ∙ f in cc);
    fresh = λ m e f. absurd (let z = sym e ∙ f in cc);
  }

module _ {K A T : Type 0} where
  -- what has grown under a node keeps all but that one's children
  pub KeepsBut-grown : (s t : ContextView K A T) (over : IRNode) → IsGrown s.nodes t.nodes over →
      Grows s.types t.types → KeepsBut s t (Some over)
  KeepsBut-grown s t over g y =
      record { keeps = g.keeps; children = λ m e h. g.children m e (λ q. h (ap (λ z. Some z) (sym q))); types = y }

  pub KeepsBut-itself : (s : ContextView K A T) (but : Option IRNode) → KeepsBut s s but
  KeepsBut-itself s but =
      record { keeps = KeepsLive-itself s.nodes; children = λ m e h. refl; types = Grows-itself s.types }

  pub KeepsLive-on : (s t u : ContextView K A T) → KeepsLive s.nodes t.nodes → KeepsLive t.nodes u.nodes →
      KeepsLive s.nodes u.nodes
  KeepsLive-on s t u p q = record {
    live = λ m e. q.live m (p.live m e);
    parents = λ m e. q.parents m (p.live m e) ∙ p.parents m e;
    ops = λ x e. q.ops x (p.live (Operation x) e) ∙ p.ops x e;
    blocks = λ x e. q.blocks x (p.live (BasicBlock x) e) ∙ p.blocks x e;
    given = λ m e. q.given m (p.given m e);
    limit = q.limit ∙ p.limit;
  }

  -- what is kept on and on: `over` may have got children at first, and `but` is that node, or was not live before
  pub KeepsBut-on : (s t u : ContextView K A T) (over but : Option IRNode) →
      ((m : IRNode) → IsLive s m → (over ≡ Some m → ⊥) → but ≡ Some m → ⊥) → KeepsBut s t over → KeepsBut t u but →
      KeepsBut s u over
  KeepsBut-on s t u over but new p q = record {
    keeps = KeepsLive-on s t u p.keeps q.keeps;
    children = λ m e h. q.children m (p.keeps.live m e) (new m e h) ∙ p.children m e h;
    types = Grows-on s.types t.types u.types p.types q.types;
  }
