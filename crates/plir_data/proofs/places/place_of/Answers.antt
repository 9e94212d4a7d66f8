use Rattle.std.proofs.Common.{◌≡◌, ◌+◌, ◌-◌, ◌/◌, ◌<◌, length, arith, nat_cmp, Less, Equal, Greater}
use Rattle.std.specs.Cmp.Lexicographic.{slice_cmp}
use Rattle.plir_data.proofs.KeyPlaces.{key_at, before_greater, before_equal, behind_less}
use Rattle.plir_data.proofs.places.place_of.Goals as goal

pub halves-preserved-in-Less : goal.halves-preserved-in-Less
halves-preserved-in-Less g c =
    let es = c.args.entries.now in
    let middle = c.halves.low + (c.halves.high - c.halves.low) / 2 in
    let x = c.index-entries-middle.result in
    let within : middle < length es = omega (arith, c.halves.invariant.1) in
    let less : slice_cmp nat_cmp c.args.key.now x.0 ≡ Less = cc (
      c.as_str.ensures.text,
      c.cmp.ensures,
      c.in-Less.is,
      c.index-entries-middle.is,
    ) in (
      omega arith,
      omega (arith, within),
      c.halves.invariant.2,
      behind_less
          (λ e. e.0) es c.args.key.now middle x within c.index-entries-middle.is c.requires less,
    )

pub returns-in-Equal : goal.returns-in-Equal
returns-in-Equal g c =
    let es = c.args.entries.now in
    let middle = c.halves.low + (c.halves.high - c.halves.low) / 2 in
    let x = c.index-entries-middle.result in
    let within : middle < length es = omega (arith, c.halves.invariant.1) in
    let same : slice_cmp nat_cmp c.args.key.now x.0 ≡ Equal = cc (
      c.as_str.ensures.text,
      c.cmp.ensures,
      c.in-Equal.is,
      c.index-entries-middle.is,
    ) in (
      within,
      before_equal (λ e. e.0) es c.args.key.now middle x within c.index-entries-middle.is c.requires
          same,
      key_at (λ e. e.0) es c.args.key.now middle x within c.index-entries-middle.is Equal same,
    )

pub halves-preserved : goal.halves-preserved
halves-preserved g c =
    let es = c.args.entries.now in
    let middle = c.halves.low + (c.halves.high - c.halves.low) / 2 in
    let x = c.index-entries-middle.result in
    let within : middle < length es = omega (arith, c.halves.invariant.1) in
    let greater : slice_cmp nat_cmp c.args.key.now x.0 ≡ Greater = cc
    (c.as_str.ensures.text, c.cmp.ensures, c.in-Greater.is, c.index-entries-middle.is) in (
      omega arith,
      c.halves.invariant.1,
      before_greater (λ e. e.0) es c.args.key.now middle x within
          c.index-entries-middle.is c.requires greater,
      c.halves.invariant.3,
    )
