-- What is left where a node without children is erased.
use Rattle.std.proofs.Common.{◌≡◌, refl}
use Rattle.plir_core.specs.declared.ptr.IRNode.{IRNode}
use Rattle.plir_core.specs.Above.{Reaches}
use Rattle.plir_core.specs.ContextView.{ContextView, parent_of}
use Rattle.plir_core.specs.Erase.{IsErased}
use Rattle.plir_inline.specs.Taken.{IsTaken}

pub taken : {K A T : Type 0} (s t : ContextView K A T) (n : IRNode)
    → ((m : IRNode) → Reaches (parent_of s) m n → m ≡ n) → IsErased s.nodes t.nodes n → t.types ≡ s.types
    → IsTaken s t n
taken s t n leaf e types = record {
  gone = e.gone n (0, refl);
  live = λ m off. e.live m (λ r. off (leaf m r));
  ops = e.ops;
  blocks = e.blocks;
  parents = λ m off. e.parents m (λ r. off (leaf m r));
  children = λ m off other. e.children m (λ r. off (leaf m r)) other;
  here = e.children_over;
  given_out = e.given;
  types = types;
  limit = e.limit;
}
