use Rattle.std.proofs.Common.{rules, ◌<◌, [], ◌++◌, length, reverse, ap, ◌∙◌}
use Rattle.std.specs.List.{cons_option}
use Rattle.std.proofs.lemmas.List.{reverse-reverse}
use Rattle.std.proofs.lemmas.Option.{slice_get-get_or}
use Rattle.plir_symbols.proofs.Chaining.{given, sought-all, sought-beside, sought-falls, sought-first, sought-next}
use Rattle.plir_symbols.proofs.Chaining.{sought-within}
use Rattle.plir_symbols.proofs.call_edges.found_along.Goals as goal

pub chain-init : goal.chain-init
chain-init c =
    sought-first c.args.edges.now c.args.end c.args.op c.last-at.result c.args.chains.now c.last-at.ensures c.requires
    _ c.new-found.ensures.items

pub bounds-edges-place : goal.bounds-edges-place
bounds-edges-place c =
    sought-within c.args.edges.now c.args.end c.args.op c.chain.at c.chain.found.items c.chain.invariant
    c.in-Some.place c.in-Some.is

pub offset_bounds-edges-place : goal.offset_bounds-edges-place
offset_bounds-edges-place c =
    let below : c.in-Some.place < length c.args.edges.now =
    sought-within c.args.edges.now c.args.end c.args.op c.chain.at c.chain.found.items c.chain.invariant
    c.in-Some.place c.in-Some.is in
    search rules

pub before-at-requires : goal.before-at-requires
before-at-requires c =
    sought-beside c.args.edges.now c.args.end c.args.op c.chain.at c.chain.found.items c.chain.invariant
    c.in-Some.place c.in-Some.is c.args.chains.now c.requires

pub chain-preserved : goal.chain-preserved
chain-preserved c =
    let es = c.args.edges.now in
    let within = sought-within es c.args.end c.args.op c.chain.at c.chain.found.items c.chain.invariant c.in-Some.place
    c.in-Some.is in
    sought-next es c.args.end c.args.op c.chain.at c.chain.found.items c.chain.invariant c.in-Some.place c.in-Some.is
    c.args.chains.now c.before-at.result _ _ c.requires c.before-at.ensures
    (slice_get-get_or es c.in-Some.place _ within)
    (c.in_ok-put_found.ensures ∙ ap (λ o. c.chain.found.items ++ cons_option o []) c.beyond.ensures)

pub chain-smaller : goal.chain-smaller
chain-smaller c =
    sought-falls c.args.edges.now c.args.end c.args.op c.chain.at c.chain.found.items c.chain.invariant
    c.in-Some.place c.in-Some.is c.args.chains.now c.before-at.result c.requires c.before-at.ensures

pub returns : goal.returns
returns c =
    let es = c.args.edges.now in
    c.reverse.ensures.items
    ∙ ap reverse (sought-all es c.args.end c.args.op c.chain.at c.chain.found.items c.chain.invariant c.in_default.is)
    ∙ reverse-reverse (given es c.args.end c.args.op es)
