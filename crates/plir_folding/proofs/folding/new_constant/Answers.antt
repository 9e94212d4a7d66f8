use Rattle.std.proofs.Common.{◌≡◌, ◌∙◌, ◌∷◌, [], Some, sym, ap, subst, option_map}
use Rattle.std.proofs.lemmas.List.Elements.{All-cons, All-nil}
use Rattle.std.proofs.lemmas.Option.{same_Some}
use Rattle.plir_data.specs.Dictionary.{dict_put}
use Rattle.plir_data.specs.Keys.{value_key}
use Rattle.plir_data.specs.Types.{IsLive as IsTypeLive}
use Rattle.plir_data.specs.declared.op_set.OpKind.TheVariants.{Constant}
use Rattle.plir_core.specs.declared.ptr.IRNode.TheVariants.{Operation}
use Rattle.plir_core.specs.Contents.{OpView, op_view}
use Rattle.plir_core.specs.ContextView.{op_at}
use Rattle.plir_core.specs.Held.{IsOpEdited}
use Rattle.plir_folding.specs.Worth.{attr_of, integer_of}
use Rattle.plir_folding.proofs.Placing.{made-edited}
use Rattle.plir_folding.proofs.folding.new_constant.Goals as goal

pub materialize-requires : goal.materialize-requires
materialize-requires g c =
    All-cons (IsTypeLive c.args.ctx.now.types) c.args.integer.now.ty [] c.requires
    (All-nil (IsTypeLive c.args.ctx.now.types))

pub returns-clause-made : goal.returns-clause-made
returns-clause-made g c =
    let t = c.materialize.new.ctx in
    let u = c.set_loc.new.ctx in
    let p = c.in_ok-constant.constant in
    let f : OpView g.row.D-Kind.Denot g.row.D-Attr.Denot → OpView g.row.D-Kind.Denot g.row.D-Attr.Denot =
    λ o. record o { location = c.args.location } in
    let edited = subst (λ z. IsOpEdited t z p f) (sym c.set_loc.ensures.after) (c.op_edits_keep_the_rest.ensures f) in
    made-edited c.args.ctx.now t u p f c.in_ok-constant.ensures.made edited

pub returns-clause-held : goal.returns-clause-held
returns-clause-held g c =
    let t = c.materialize.new.ctx in
    let p = c.in_ok-constant.constant in
    let n = integer_of c.args.integer.now in
    let f : OpView g.row.D-Kind.Denot g.row.D-Attr.Denot → OpView g.row.D-Kind.Denot g.row.D-Attr.Denot =
    λ o. record o { location = c.args.location } in
    let edited = subst (λ z. IsOpEdited t z p f) (sym c.set_loc.ensures.after) (c.op_edits_keep_the_rest.ensures f) in
    let new = c.in_ok-constant.ensures.tree in
    let holds : op_at t p ≡ Some (op_view Constant (n.type ∷ []) [] [] (dict_put [] value_key (attr_of n))) =
    new.holds ∙ ap (λ z. Some (op_view Constant (z ∷ []) [] [] (dict_put [] value_key (attr_of n))))
    (sym (same_Some n.type new.type new.typed)) in
    edited.held ∙ ap (option_map f) holds

pub returns-clause-leaf : goal.returns-clause-leaf
returns-clause-leaf g c =
    let t = c.materialize.new.ctx in
    let p = c.in_ok-constant.constant in
    let f : OpView g.row.D-Kind.Denot g.row.D-Attr.Denot → OpView g.row.D-Kind.Denot g.row.D-Attr.Denot =
    λ o. record o { location = c.args.location } in
    let edited = subst (λ z. IsOpEdited t z p f) (sym c.set_loc.ensures.after) (c.op_edits_keep_the_rest.ensures f) in
    edited.keeps.children (Operation p) ∙ c.in_ok-constant.ensures.tree.no_regions
