use Rattle.std.proofs.Common.{subst, sym, ap, ◌∙◌, slice_get}
use Rattle.plir_data.specs.Types.{AllLive, handles_of}
use Rattle.plir_data.specs.TypeSeen.{type_view}
use Rattle.plir_data.proofs.Tables.{grown_view, grown_table, instantiated}
use Rattle.plir_data.proofs.type_table.TypeTableTypeStore.instantiate.Goals as goal

pub invariant_of-self-2 : goal.invariant_of-self-2
invariant_of-self-2 g c =
    grown_table g.D.OpSet.type_handles _ _ (type_view c.args.value) (grown_view c.self.inside.objects
    c.insert_full.new.self c.args.value c.insert_full.ensures.grown) (subst (λ ts. AllLive ts
    (handles_of g.D.OpSet.type_handles (type_view c.args.value))) (sym c.self.view_is) c.requires) c.self.invariant

pub returns-clause-ok : goal.returns-clause-ok
returns-clause-ok g c = instantiated c.self.inside.objects c.insert_full.new.self c.args.value c.new.result
    c.args.self.now c.self.view_is c.insert_full.ensures.grown (ap (slice_get c.insert_full.new.self) c.new.ensures ∙
    c.in_ok-index.ensures.place)
