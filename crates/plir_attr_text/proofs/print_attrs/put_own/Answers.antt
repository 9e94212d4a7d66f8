use Rattle.std.proofs.{Common.rules, lemmas.List.Elements.All-contains, lemmas.List.Elements.All-contains_itself}
use Rattle.plir_data.specs.{OwnParts.held_in, Types.IsLive, Types.AllLive}
use Rattle.plir_attr_text.proofs.print_attrs.put_own.Goals as goal

-- What the parts write out is held, and so live.
pub put_own_text-requires : goal.put_own_text-requires
put_own_text-requires g c =
    let types = c.args.types.now in
    let parts = held_in (g.D.OpSet.attr_text c.args.value.now) in
    let live : AllLive types parts = λ k d p.
    All-contains (IsLive types) (g.D.OpSet.attr_handles c.args.value.now) _ c.requires
    (g.met.D.OpSet.attr_text_held c.args.value.now _ (All-contains_itself parts k d p)) in
    search rules
