use Rattle.std.proofs.Common.{List, ap}
use Rattle.std.specs.Prelude.{Vec}
use Rattle.std.specs.declared.alloc.Global.{Global}
use Rattle.plir_core.specs.declared.ptr.BasicBlock.{BasicBlock as BlockKind}
use Rattle.plir_core.specs.declared.ptr.Ptr.{Ptr}
use Rattle.plir_arguments.proofs.BlocksWalked.{put-again, walked-blocks}
use Rattle.plir_arguments.proofs.listing.blocks_below.Goals as goal

abbrev items : Vec (Ptr BlockKind) Global → List (Ptr BlockKind)
items v = v.items

pub returns-in-Continue : goal.returns-in-Continue
returns-in-Continue g c =
    walked-blocks c.args.ctx.now items c.args.root _
    (λ d u n a d' u' h. put-again n a (ap items h.shows.1) (ap items h.leaves) h.met.1)
    c.before_is_a_total_order.ensures _ _ c.in-Continue.is _ _ c.new-blocks.ensures.items c.walk_op.ensures
