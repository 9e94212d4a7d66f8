use Rattle.std.proofs.Common.{◌≡◌, length, map, take}
use Rattle.plir_flow.specs.Segments.{flatten}
use Rattle.plir_flow.proofs.segments.flatten_segments.Given as goal

abbrev pub invariant-segments : goal.invariant-segments
invariant-segments l = record {
  values : l.values.items ≡ flatten (map (λ seg. seg.items) (take l.segment-index l.segments));
  sizes : l.sizes.items ≡ map length (map (λ seg. seg.items) (take l.segment-index l.segments));
}
