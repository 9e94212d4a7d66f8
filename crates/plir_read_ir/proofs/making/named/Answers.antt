use Rattle.std.proofs.Common.{◌≡◌, true, false, is_none, refl, sym, subst, ap, ◌∙◌}
use Rattle.std.specs.List.{list_all}
use Rattle.std.proofs.lemmas.List.Elements.{All-nil}
use Rattle.plir_data.specs.AttrLive.{HandlesLive}
use Rattle.plir_data.specs.AttrView.{leaf, given_names}
use Rattle.plir_data.specs.Dictionary.{dict_put}
use Rattle.plir_data.specs.Keys.{names_key}
use Rattle.plir_data.specs.LiveLaws.{put_live}
use Rattle.plir_data.specs.Types.{IsLive as IsTypeLive}
use Rattle.plir_read_ir.proofs.making.named.Goals as goal

pub returns-then-all_unset-clause-value : goal.returns-then-all_unset-clause-value
returns-then-all_unset-clause-value g c =
    let unset : list_all is_none c.args.names.items ≡ true =
    ap (list_all is_none) (sym c.as_slice.ensures.value) ∙ sym c.all_unset.ensures ∙ c.if-all_unset.true in
    rw unset refl

pub returns-clause-value : goal.returns-clause-value
returns-clause-value g c =
    let set : list_all is_none c.args.names.items ≡ false =
    ap (list_all is_none) (sym c.as_slice.ensures.value) ∙ sym c.all_unset.ensures ∙ c.if-all_unset.false in
    rw set (c.in_ok-put_under.ensures.ok ∙
    ap (λ z. dict_put c.args.entries names_key (leaf (given_names z))) c.from_names.ensures)

pub returns-clause-live : goal.returns-clause-live
returns-clause-live g c =
    let own = g.D.OpSet.attr_handles in
    λ types all. subst (HandlesLive own types) (sym c.in_ok-put_under.ensures.ok)
    (put_live own types c.args.entries _ _ (All-nil (IsTypeLive types)) all)
