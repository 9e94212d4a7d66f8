use Rattle.std.proofs.Common.{take}
use Rattle.plir_core.specs.WellFormed.{IsWellFormed}
use Rattle.plir_copies.specs.Images.{AreImagesLive, images}
use Rattle.plir_copies.specs.Twins.{AreChanged, copies_of}
use Rattle.plir_copies.proofs.trees.change_copies.Given as goal

abbrev pub invariant-loop-i : goal.invariant-loop-i
invariant-loop-i g l = record {
  changed : AreChanged l.fn.ctx l.ctx (images l.map) (copies_of (take l.i l.twins));
  images_live : AreImagesLive l.ctx (images l.map);
  formed : IsWellFormed g.D.OpSet.attr_handles l.ctx;
}
