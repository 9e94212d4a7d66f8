use Rattle.std.proofs.Common.{◌≡◌, false, [], ◌∷◌, Err, is_none, ap, sym, subst, ◌∙◌}
use Rattle.std.specs.List.{list_all}
use Rattle.plir_data.specs.AttrView.{leaf, given_names}
use Rattle.plir_data.specs.Dictionary.{dict_put}
use Rattle.plir_data.specs.Keys.{names_key}
use Rattle.plir_core.specs.Contents.{BlockView}
use Rattle.plir_core.specs.Held.{IsBlockEdited}
use Rattle.plir_core.specs.declared.ptr.IRNode.TheVariants.{BasicBlock}
use Rattle.plir_core.specs.RoomLaws.{block_comes, block_full, block_edit_comes}
use Rattle.plir_core.specs.Room.{one_block}
use Rattle.plir_read.specs.laws.OpMade.{IsNewBlock-edited, named_block}
use Rattle.plir_read.proofs.OpSteps.{refused_as}
use Rattle.plir_read.specs.laws.SlotLaws.{block_given, given_edited}
use Rattle.plir_read.proofs.making.make_block.Goals as goal

pub returns-clause-made : goal.returns-clause-made
returns-clause-made g c =
    let f : BlockView g.row.D-Attr.Denot → BlockView g.row.D-Attr.Denot =
    λ b. record b {
      attributes =
          dict_put b.attributes names_key (leaf (given_names c.args.head.arguments.names.items));
    } in
    let b = c.in-Ok.ensures in
    let edited = subst (λ z. IsBlockEdited c.new.new.ctx z c.in-Ok.block f) (sym c.in_ok-put_names.ensures.put)
    (c.block_edits_keep_the_rest.ensures f) in
    let set : list_all is_none c.args.head.arguments.names.items ≡ false =
    ap (list_all is_none) (sym c.as_slice.ensures.value) ∙ sym c.all_unset-unset.ensures ∙ c.if-unset.false in
    named_block c.args.ctx.now c.put_names.new.ctx c.in-Ok.block c.args.head set
    (IsNewBlock-edited c.args.ctx.now c.new.new.ctx c.put_names.new.ctx c.in-Ok.block _ f
    (record { made = b.made; held = b.held; empty = b.empty; types = ap (λ z. z.types) b.ok }) edited)

pub returns-then-unset-clause-slots : goal.returns-then-unset-clause-slots
returns-then-unset-clause-slots g c =
    let b = c.in-Ok.ensures in
    let v : BlockView g.row.D-Attr.Denot =
    record { label = c.args.head.label; arg_types = c.args.head.arguments.types.items; attributes = [] } in
    block_given c.args.ctx.now c.new.new.ctx c.stands.ensures.whole.stored v c.in-Ok.block b.ok b.made.new b.made.root

pub returns-clause-slots : goal.returns-clause-slots
returns-clause-slots g c =
    let b = c.in-Ok.ensures in
    let v : BlockView g.row.D-Attr.Denot =
    record { label = c.args.head.label; arg_types = c.args.head.arguments.types.items; attributes = [] } in
    let f : BlockView g.row.D-Attr.Denot → BlockView g.row.D-Attr.Denot =
    λ b. record b {
      attributes =
          dict_put b.attributes names_key (leaf (given_names c.args.head.arguments.names.items));
    } in
    let given = block_given c.args.ctx.now c.new.new.ctx c.stands.ensures.whole.stored v c.in-Ok.block b.ok b.made.new
    b.made.root in
    given_edited c.args.ctx.now c.new.new.ctx c.put_names.new.ctx (BasicBlock c.in-Ok.block ∷ []) c.in-Ok.block f given
    c.in_ok-put_names.ensures.put

pub returns-then-unset-clause-come : goal.returns-then-unset-clause-come
returns-then-unset-clause-come g c =
    block_comes c.args.ctx.now c.stands.ensures.whole.stored c.new.new.ctx _ c.in-Ok.ensures.ok

pub returns-clause-come : goal.returns-clause-come
returns-clause-come g c =
    block_edit_comes c.args.ctx.now c.new.new.ctx one_block
    (block_comes c.args.ctx.now c.stands.ensures.whole.stored c.new.new.ctx _ c.in-Ok.ensures.ok) c.put_names.new.ctx
    c.in-Ok.block _ c.in_ok-put_names.ensures.put

pub returns-in-Err-clause-refused : goal.returns-in-Err-clause-refused
returns-in-Err-clause-refused g c =
    refused_as _ _ c.stop_of.result
    (λ e. block_full c.args.ctx.now.nodes c.stands.ensures.whole.stored
    (c.in-Err.ensures.too_many.0 (ap (λ x. Err x) e))) c.stop_of.ensures
