use Rattle.plir_data.specs.DictSeen.{pairs_view}
use Rattle.plir_arguments.proofs.NewBlocks.{IsSetting}
use Rattle.plir_arguments.proofs.blocks.set_attributes.Given as goal

abbrev pub invariant-entries : goal.invariant-entries
invariant-entries g l =
    IsSetting g.D.OpSet.attr_handles l.fn.ctx l.ctx l.block l.attributes (pairs_view l.key-iterator)
