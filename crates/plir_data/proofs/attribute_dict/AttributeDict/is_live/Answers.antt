use Rattle.plir_data.specs.LiveLaws.{listed_live, live_listed}
use Rattle.plir_data.proofs.attribute_dict.AttributeDict.is_live.Goals as goal

pub returns : goal.returns
returns g c =
    let types = g.C.TypeStore.types c.args.ctx.now in (
      λ t. listed_live g.D.OpSet.attr_handles types c.args.self.now (c.holds_live.ensures.0 t),
      λ h. c.holds_live.ensures.1 (live_listed g.D.OpSet.attr_handles types c.args.self.now h),
    )
