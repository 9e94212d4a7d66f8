use Rattle.std.proofs.Common.{rules, ◌≡◌, ◌∙◌, ◌∷◌, [], ap, sym, subst}
use Rattle.std.proofs.lemmas.List.Elements.{All-head, All-tail}
use Rattle.plir_data.specs.AttrLive.{IsAttrLive, HandlesLive}
use Rattle.plir_data.specs.AttrSeen.{attr_view}
use Rattle.plir_data.specs.DictSeen.{pairs_view}
use Rattle.plir_data.specs.Dictionary.{dict_put, dict_put_all, IsDictionary}
use Rattle.plir_core.specs.Changes.{with_block_edit}
use Rattle.plir_core.specs.declared.ptr.IRNode.TheVariants.{BasicBlock}
use Rattle.plir_core.specs.Contents.{BlockView}
use Rattle.plir_core.specs.ContextView.{block_at}
use Rattle.plir_core.specs.Held.{IsBlockEdited}
use Rattle.plir_copies.specs.Copied.{with_attributes}
use Rattle.plir_arguments.proofs.NewBlocks.{block-put, block-same, none-put}
use Rattle.plir_arguments.proofs.blocks.set_attributes.Goals as goal

pub entries-init : goal.entries-init
entries-init g c =
    let s = c.args.ctx.now in
    let begun : c.into_iter-key-iterator.result ≡ c.iter-key-items.result = search rules in
    let all : pairs_view c.into_iter-key-iterator.result ≡ c.args.attributes.now =
    ap pairs_view begun ∙ c.iter-key-items.ensures.entries in record {
      done = [];
      rest = c.dictionary_is_that_of_its_entries.ensures (pairs_view c.into_iter-key-iterator.result)
          (subst IsDictionary (sym all) c.iter-key-items.ensures.whole) ∙ all;
      edited = block-same s c.args.block (with_attributes []) (none-put (block_at s c.args.block) c.requires.none);
      live = subst (HandlesLive g.D.OpSet.attr_handles s.types) (sym all) c.requires.handles;
      whole = c.stands.ensures.whole;
    }

pub block_edits_keep_the_rest-requires : goal.block_edits_keep_the_rest-requires
block_edits_keep_the_rest-requires g c =
    c.entries.invariant.edited.keeps.live (BasicBlock c.args.block) ∙ c.requires.live

pub set_attr-requires-clause-live : goal.set_attr-requires-clause-live
set_attr-requires-clause-live g c =
    c.entries.invariant.edited.keeps.live (BasicBlock c.args.block) ∙ c.requires.live

pub set_attr-requires-clause-handles : goal.set_attr-requires-clause-handles
set_attr-requires-clause-handles g c =
    let own = g.D.OpSet.attr_handles in
    let types = c.args.ctx.now.types in
    let left = pairs_view c.next.new.self in
    let k = c.in-Some.key.now in
    let v = attr_view c.in-Some.value.now in
    let step : pairs_view c.entries.key-iterator ≡ (k, v) ∷ left = ap pairs_view c.in-Some.ensures.steps in
    let here =
    All-head (λ x. IsAttrLive own types x.1) (k, v) left (subst (HandlesLive own types) step c.entries.invariant.live) in
    subst (λ z. IsAttrLive own z (attr_view c.in_ok-copy.copy)) (sym c.entries.invariant.edited.keeps.types)
    (subst (IsAttrLive own types) (sym c.in_ok-copy.ensures) here)

pub entries-preserved : goal.entries-preserved
entries-preserved g c =
    let own = g.D.OpSet.attr_handles in
    let s = c.args.ctx.now in
    let t = c.entries.ctx in
    let u = c.set_attr.new.ctx in
    let p = c.args.block in
    let left = pairs_view c.next.new.self in
    let k = c.in-Some.key.now in
    let v = attr_view c.in-Some.value.now in
    let i = c.entries.invariant in
    let step : pairs_view c.entries.key-iterator ≡ (k, v) ∷ left = ap pairs_view c.in-Some.ensures.steps in
    let put : BlockView g.row.D-Attr.Denot → BlockView g.row.D-Attr.Denot =
    λ b. record b { attributes = dict_put b.attributes k v } in
    let after : u ≡ with_block_edit t p put =
    c.in_ok-set_attr.ensures.ok
    ∙ (λ j. with_block_edit t p (λ b. record b {
      attributes = dict_put b.attributes (c.in_ok-name.ensures.equal j)
          (c.in_ok-copy.ensures j);
    })) in record {
      done = dict_put i.done k v;
      rest = ap (dict_put_all i.done) (sym step) ∙ i.rest;
      edited = block-put s t u p i.done k v i.edited (subst (λ z. IsBlockEdited t z p put) (sym after)
          (c.block_edits_keep_the_rest.ensures put));
      live = All-tail (λ x. IsAttrLive own s.types x.1) (k, v) left (subst (HandlesLive own s.types) step i.live);
      whole = c.set_attr.ensures.whole;
    }

pub returns-in_err-name-clause-edited : goal.returns-in_err-name-clause-edited
returns-in_err-name-clause-edited g c = (c.entries.invariant.done, c.entries.invariant.edited)

pub returns-in_err-copy-clause-edited : goal.returns-in_err-copy-clause-edited
returns-in_err-copy-clause-edited g c = (c.entries.invariant.done, c.entries.invariant.edited)

pub returns-in_err-set_attr-clause-edited : goal.returns-in_err-set_attr-clause-edited
returns-in_err-set_attr-clause-edited g c = (
  c.entries.invariant.done,
  subst (λ z. IsBlockEdited c.args.ctx.now z c.args.block
      (with_attributes c.entries.invariant.done)) (sym c.in_err-set_attr.ensures.err) c.entries.invariant.edited,
)

pub returns-clause-edited : goal.returns-clause-edited
returns-clause-edited g c = (c.entries.invariant.done, c.entries.invariant.edited)

pub returns-clause-all : goal.returns-clause-all
returns-clause-all g c =
    let i = c.entries.invariant in
    let all : i.done ≡ c.args.attributes.now =
    ap (λ l. dict_put_all i.done (pairs_view l)) (sym c.in-None.ensures.steps.0) ∙ i.rest in
    subst (λ es. IsBlockEdited c.args.ctx.now c.entries.ctx c.args.block (with_attributes es)) all i.edited
