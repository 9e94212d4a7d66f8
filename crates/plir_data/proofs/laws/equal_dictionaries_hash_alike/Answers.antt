use Rattle.std.proofs.Common.{sym, ap, ◌∙◌}
use Rattle.std.specs.List.{fold}
use Rattle.plir_data.specs.AttrEq.{entries_eq}
use Rattle.plir_data.specs.AttrHash.{entries_words}
use Rattle.plir_data.specs.AttrLaws.{same_entries, entries_itself}
use Rattle.plir_data.specs.AttrView.{entries_of}
use Rattle.plir_data.proofs.Reordered.{same_list}
use Rattle.plir_data.proofs.laws.equal_dictionaries_hash_alike.Goals as goal

pub returns-clause-equal : goal.returns-clause-equal
returns-clause-equal g c =
    let own_eq = g.D.Attr.PartialEq.eq in
    let one = c.args.one.now in
    let other = c.args.other.now in (
      λ yes. same_list one other (same_entries own_eq g.met.D.OpSet.attr_eq_exact (entries_of one) (entries_of other)
          (sym c.eq.ensures ∙ yes)),
      λ same. c.eq.ensures ∙ ap (λ d. entries_eq own_eq (entries_of one) (entries_of d)) (sym same) ∙ entries_itself
          own_eq g.met.D.Attr.Eq.laws.refl (entries_of one),
    )

pub returns-clause-alike : goal.returns-clause-alike
returns-clause-alike g c = λ yes begin.
    let own_eq = g.D.Attr.PartialEq.eq in
    let one = c.args.one.now in
    let other = c.args.other.now in
    let words = λ (d : _). entries_words g.D.Attr.Hash.hash_input (entries_of d) in
    let same = same_list one other (same_entries own_eq g.met.D.OpSet.attr_eq_exact (entries_of one) (entries_of other)
    (sym c.eq.ensures ∙ yes)) in
    c.hash.ensures ∙ ap (λ s. fold g.H.Hasher.write s (words one)) begin ∙ ap (λ d. fold g.H.Hasher.write
    c.args.second.now (words d)) same ∙ sym c.hash-2.ensures
