use Rattle.std.specs.Prelude.{slice_index_or}
use Rattle.std.proofs.lemmas.Option.{slice_get-get_or}
use Rattle.plir_store.specs.MemberLaws.{Has-at}
use Rattle.plir_arguments.proofs.Uses.{no_use}
use Rattle.plir_arguments.proofs.dropping_all.put_sources.Goals as goal

pub put_source_of-requires-clause-live : goal.put_source_of-requires-clause-live
put_source_of-requires-clause-live g c =
    let us = c.args.uses.now in
    let n = c.loop-used.used-index in
    let u = slice_index_or us n no_use in
    let at = slice_get-get_or us n no_use c.loop-used-test.true in
    (c.requires u (Has-at us n u at)).0

pub put_source_of-requires-clause-below : goal.put_source_of-requires-clause-below
put_source_of-requires-clause-below g c =
    let us = c.args.uses.now in
    let n = c.loop-used.used-index in
    let u = slice_index_or us n no_use in
    let at = slice_get-get_or us n no_use c.loop-used-test.true in
    (c.requires u (Has-at us n u at)).1
