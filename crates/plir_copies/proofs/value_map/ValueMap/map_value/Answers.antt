use Rattle.plir_copies.specs.Images.{images}
use Rattle.plir_copies.proofs.Lookups.{value_put}
use Rattle.plir_copies.proofs.value_map.ValueMap.map_value.Goals as goal

pub returns-clause-ok : goal.returns-clause-ok
returns-clause-ok c =
    λ i. record {
      value = λ x. value_put c.args.self.now.values c.insert.new.self c.args.from c.args.to
          c.in_ok-insert.ensures.updates.0 x i;
      block = (images c.args.self.now).block;
      call = (images c.args.self.now).call;
    }
