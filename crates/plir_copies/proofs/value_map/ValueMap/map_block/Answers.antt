use Rattle.plir_copies.specs.Images.{images}
use Rattle.plir_copies.proofs.Lookups.{ptr_put}
use Rattle.plir_copies.proofs.value_map.ValueMap.map_block.Goals as goal

pub returns-clause-ok : goal.returns-clause-ok
returns-clause-ok c =
    λ i. record {
      value = (images c.args.self.now).value;
      block = λ x. ptr_put c.args.self.now.blocks c.insert.new.self c.args.from c.args.to
          c.in_ok-insert.ensures.updates.0 x i;
      call = (images c.args.self.now).call;
    }
