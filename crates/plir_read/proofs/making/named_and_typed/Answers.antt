use Rattle.std.proofs.Common.{[], ◌∷◌, sym, subst}
use Rattle.plir_data.specs.AttrLive.{HandlesLive}
use Rattle.plir_data.specs.LiveLaws.{put_live}
use Rattle.plir_data.specs.Types.{AllLive}
use Rattle.plir_attr_text.specs.laws.Meanings.{one_live}
use Rattle.plir_read.proofs.making.named_and_typed.Goals as goal

pub returns-clause-live : goal.returns-clause-live
returns-clause-live g c =
    let own = g.D.OpSet.attr_handles in
    λ types live all. subst (HandlesLive own types) (sym c.in_ok-put_under.ensures.ok)
    (put_live own types c.in_ok-attributes.attributes _ _
    (subst (λ h. AllLive types (h ∷ [])) (sym c.new.ensures) (one_live own types c.args.ty live))
    (c.in_ok-attributes.ensures.live types all))
