use Rattle.std.proofs.Common.{◌≡◌, true, All, subst, refl, arith}
use Rattle.std.proofs.{lemmas.List.take_all, lemmas.List.Elements.All-more}
use Rattle.plir_attr_text.specs.Writable.{IsNameOrMark}
use Rattle.plir_attr_text.proofs.writable.are_names.Goals as goal

pub names-preserved : goal.names-preserved
names-preserved c =
    let formed : c.is_name_or_mark.result ≡ true = cc in
    All-more IsNameOrMark c.args.names.now c.names.name-index c.name-item.result (omega arith) c.names.invariant
    (subst IsNameOrMark c.name-item.is (c.is_name_or_mark.ensures.0 formed))

pub returns : goal.returns
returns c = (
  λ t. subst (All IsNameOrMark) (take_all c.names.name-index c.args.names.now (omega arith))
      c.names.invariant,
  λ all. refl,
)
