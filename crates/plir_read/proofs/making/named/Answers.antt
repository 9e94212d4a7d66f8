use Rattle.std.proofs.Common.{ℕ, List, refl, sym, ap, subst, ◌∙◌}
use Rattle.plir_data.specs.AttrLive.{HandlesLive}
use Rattle.plir_data.specs.AttrView.{AttrView, identifier}
use Rattle.plir_data.specs.LiveLaws.{put_live}
use Rattle.plir_attr_text.specs.laws.Meanings.{leaf_live}
use Rattle.plir_read.specs.Heads.{module_attributes}
use Rattle.plir_read.proofs.making.named.Goals as goal

pub returns-clause-live : goal.returns-clause-live
returns-clause-live g c =
    let own = g.D.OpSet.attr_handles in
    λ types all. subst (HandlesLive own types) (sym c.in_ok-put_under.ensures.ok)
    (put_live own types c.args.entries _ _ (leaf_live own types (identifier c.new.result.0) refl) all)

pub returns-clause-value : goal.returns-clause-value
returns-clause-value g c =
    let put : List ℕ → List (List ℕ × AttrView g.row.D-Attr.Denot) = λ w. module_attributes w c.args.entries in
    c.in_ok-put_under.ensures.ok ∙ ap put c.new.ensures
