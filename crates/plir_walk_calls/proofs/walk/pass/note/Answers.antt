use Rattle.std.proofs.Common.{◌≡◌, Some, IsSome, refl, sym, ap, subst, ◌∙◌}
use Rattle.std.specs.Prelude.{codes}
use Rattle.plir_data.specs.AttrSeen.{attr_view}
use Rattle.plir_data.specs.DictLaws.{get-put}
use Rattle.plir_data.specs.Dictionary.{dict_get, dict_put}
use Rattle.plir_core.specs.Nodes.{is_node_live}
use Rattle.plir_core.specs.ContextView.{IsLive, attributes_of}
use Rattle.plir_core.specs.declared.ptr.IRNode.TheVariants.{Operation}
use Rattle.plir_walk_calls.proofs.walk.pass.note.Goals as goal

pub print_note-requires-clause-live : goal.print_note-requires-clause-live
print_note-requires-clause-live g c =
    let op = Operation c.args.op in
    let live = ap (λ nodes. is_node_live nodes op) c.read_attr.ensures.rest ∙ c.requires in
    subst (λ z. IsLive z op) (sym c.in-Ok-set_attr.ensures.ok) ((c.op_edits_keep_the_rest.ensures _).keeps.live op ∙
    live)

pub print_note-requires-clause-noted : goal.print_note-requires-clause-noted
print_note-requires-clause-noted g c =
    let es = attributes_of c.read_attr.new.ctx c.args.op in
    let value = attr_view c.in-Ok.attr in
    let put = subst (λ k. dict_get (dict_put es c.in-Ok-try_new.key value) k ≡ Some value) c.in-Ok-try_new.ensures.made
    (get-put es c.in-Ok-try_new.key value) in
    subst IsSome (sym (ap (λ z. dict_get z (codes "note")) c.in-Ok-set_attr.ensures.attributes ∙ put)) refl
