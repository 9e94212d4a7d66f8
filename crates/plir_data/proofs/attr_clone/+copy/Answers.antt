use Rattle.std.proofs.Common.{◌≡◌, ◌++◌, ◌∷◌, append-nil, rules, sym, ap, subst, ◌∙◌}
use Rattle.plir_data.specs.AttrDepth.{entries_bulk}
use Rattle.plir_data.specs.AttrSeen.{attr_view}
use Rattle.plir_data.specs.DepthLaws.{first_small}
use Rattle.plir_data.specs.DictSeen.{pairs_view}
use Rattle.plir_data.specs.Dictionary.{IsDictionary}
use Rattle.plir_data.proofs.Bulk.{falls}
use Rattle.plir_data.proofs.Dictionaries.{one_more}
use Rattle.plir_data.proofs.attr_clone.+copy.Goals as goal

pub copy_of_dict-copy_of-requires : goal.copy_of_dict-copy_of-requires
copy_of_dict-copy_of-requires g t c =
    let x = c.in-Some.value.now in
    let step = ap pairs_view c.in-Some.ensures.steps in
    let small = first_small (entries_bulk c.args.dict.now) _ (pairs_view c.next.new.self)
    (c.in-Some.key.now, attr_view x) step c.entries.invariant.1 in
    let smaller = falls g.D.OpSet g.D.Attr.PartialEq g.D.Attr.Hash g.D.Attr.Debug g.D.Ty.PartialEq g.D.Ty.Hash
    g.D.Ty.Debug g.D.Err.Debug g.D.Err.Display x (entries_bulk c.args.dict.now) small.0 in
    search rules

pub copy_of_dict-entries-preserved : goal.copy_of_dict-entries-preserved
copy_of_dict-entries-preserved g t c =
    let left = pairs_view c.next.new.self in
    let x = attr_view c.in-Some.value.now in
    let k = c.in-Some.key.now in
    let es = c.entries.entries.items in
    let step : pairs_view c.entries.key-iterator ≡ (k, x) ∷ left = ap pairs_view c.in-Some.ensures.steps in
    let key : c.in_ok-name.name ≡ k = c.in_ok-name.ensures.equal in
    let pair = ap (λ n. (n, attr_view c.in_ok-copy.copy)) key ∙ ap (λ y. (k, y)) c.in_ok-copy.ensures in
    let done = ap (λ fs. pairs_view fs ++ left) c.in_ok-push.ensures.items ∙ one_more
    (λ e. (e.0, attr_view e.1)) es (c.in_ok-name.name, c.in_ok-copy.copy) left ∙ ap
    (λ p. pairs_view es ++ p ∷ left) pair in (
      done ∙ ap (λ ps. pairs_view es ++ ps) (sym step) ∙ c.entries.invariant.0,
      (first_small
          (entries_bulk c.args.dict.now) _ left (k, x) step c.entries.invariant.1).1,
    )

pub copy_of_dict-returns : goal.copy_of_dict-returns
copy_of_dict-returns g t c =
    sym (append-nil (pairs_view c.entries.entries.items)) ∙ ap (λ ps. pairs_view c.entries.entries.items ++ ps)
    (sym (ap pairs_view c.in-None.ensures.steps.0)) ∙ c.entries.invariant.0

pub copy_of_dict-invariant_of-result : goal.copy_of_dict-invariant_of-result
copy_of_dict-invariant_of-result g t c =
    let same : pairs_view c.entries.entries.items ≡ c.args.dict.now = sym (append-nil
    (pairs_view c.entries.entries.items)) ∙ ap (λ ps. pairs_view c.entries.entries.items ++ ps)
    (sym (ap pairs_view c.in-None.ensures.steps.0)) ∙ c.entries.invariant.0 in
    subst IsDictionary (sym same) c.iter-key-items.ensures.whole
