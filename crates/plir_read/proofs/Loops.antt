-- The two loops: operations that come into a block, and blocks that come into a region.
use Rattle.std.proofs.Common.{ℕ, List, Result}
use Rattle.plir_core.specs.declared.ptr.IRNode.{IRNode}
use Rattle.plir_core.specs.ContextView.{ContextView}
use Rattle.plir_attr_text.specs.declared.fault.Fault.{Fault}
use Rattle.plir_read.specs.OpTerms.{OpTerm, BlockTerm, ops_of, blocks_of}
use Rattle.plir_read.specs.OpReading.{block_at, semicolon_at, brace_at}
use Rattle.plir_read.specs.OpsStanding.{IsOpAt, IsBlockAt, AreOpsAt, AreBlocksAt}
use Rattle.plir_read.specs.laws.Frames.{IsOpAt-kept, IsBlockAt-kept, AreOpsAt-kept, AreBlocksAt-kept, AreOpsAt-push}
use Rattle.plir_read.specs.laws.Frames.{AreBlocksAt-push}
use Rattle.plir_read.proofs.Gathered as gathered

module _ {K A T : Type 0} (own : A → List ℕ) (read : List ℕ → Result (OpTerm × List ℕ) Fault) where
  abbrev OpsOf : ContextView K A T → List IRNode → List OpTerm → Type 0
  OpsOf s ns os = AreOpsAt s ns (ops_of os)

  abbrev BlocksOf : ContextView K A T → List IRNode → List BlockTerm → Type 0
  BlocksOf s ns bs = AreBlocksAt s ns (blocks_of bs)

  abbrev pub OpsGather : (first s : ContextView K A T) (over : IRNode) (rest : List ℕ)
      (total : Result (List OpTerm × List ℕ) Fault) → Type 0
  OpsGather = gathered.Gathers own IsOpAt OpsOf IsOpAt-kept (λ s t P f ns xs. AreOpsAt-kept s t P f ns (ops_of xs))
      AreOpsAt-push semicolon_at read

  abbrev pub BlocksGather : (n : ℕ) (first s : ContextView K A T) (over : IRNode) (rest : List ℕ)
      (total : Result (List BlockTerm × List ℕ) Fault) → Type 0
  BlocksGather n = gathered.Gathers own IsBlockAt BlocksOf IsBlockAt-kept
      (λ s t P f ns xs. AreBlocksAt-kept s t P f ns (blocks_of xs)) AreBlocksAt-push brace_at (block_at read n)
