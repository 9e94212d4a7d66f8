use Rattle.std.proofs.Common.{Some, None, sym, ap, ◌∙◌, lit<}
use Rattle.std.proofs.lemmas.Bool.{false≢true}
use Rattle.std.proofs.lemmas.Str.Pattern.{split_once_first}
use Rattle.plir_data.specs.Identifier.{is_identifier}
use Rattle.plir_roundtrip.proofs.Ids.{dialect_is, dot_within, id_from, name_is}
use Rattle.plir_roundtrip.proofs.own.is_id.Goals as goal

pub returns-then-is_identifier : goal.returns-then-is_identifier
returns-then-is_identifier c =
    let id = c.args.id.now in
    let f = split_once_first 46 id (Some (c.in-Some.dialect, c.in-Some.name)) c.in-Some.ensures.cases (lit< tt) in (
      λ t. id_from id c.in-Some.dialect.now c.in-Some.name.now f.0 f.1 f.2
          (sym c.is_identifier.ensures ∙ c.if-is_identifier.true) (sym c.is_identifier-then-is_identifier.ensures ∙ t),
      λ i. c.is_identifier-then-is_identifier.ensures ∙ ap is_identifier (f.2 ∙ name_is id i) ∙ i.is_name,
    )

pub returns-else-is_identifier : goal.returns-else-is_identifier
returns-else-is_identifier c =
    let id = c.args.id.now in
    let f = split_once_first 46 id (Some (c.in-Some.dialect, c.in-Some.name)) c.in-Some.ensures.cases (lit< tt) in (
      λ t. absurd (false≢true (sym c.if-is_identifier.false ∙ t)),
      λ i. c.is_identifier.ensures ∙ ap is_identifier (f.1 ∙ dialect_is id i) ∙ i.is_dialect,
    )

pub returns-in-None : goal.returns-in-None
returns-in-None c =
    let id = c.args.id.now in (
      λ t. absurd (false≢true t),
      λ i. absurd (dot_within id i (split_once_first 46 id None c.in-None.ensures.cases (lit< tt))),
    )
