use Rattle.std.proofs.Common.{◌≡◌, map}
use Rattle.plir_data.specs.AttrSeen.{attr_view}
use Rattle.plir_data.specs.Dictionary.{dict_put_all, dict_of}
use Rattle.plir_data.proofs.attributes.DictAttr.new.Given as goal

abbrev pub invariant-loop-key : goal.invariant-loop-key
invariant-loop-key g l =
    dict_put_all l.dict (map (λ p. (p.0, attr_view p.1)) l.key-iterator.rest.items) ≡ dict_of
    (map (λ p. (p.0, attr_view p.1)) l.fn.pairs.items)
