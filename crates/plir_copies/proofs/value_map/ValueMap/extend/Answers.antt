use Rattle.std.proofs.Common.{◌∙◌, ap, sym}
use Rattle.std.specs.Option.{option_or}
use Rattle.plir_copies.specs.Images.{images}
use Rattle.plir_copies.specs.RefusalLaws.{on_err}
use Rattle.plir_copies.proofs.Lookups.{value_found, value_same, ptr_found, ptr_same}
use Rattle.plir_copies.proofs.value_map.ValueMap.extend.Goals as goal

pub returns-in_err-reserve-2-clause-err : goal.returns-in_err-reserve-2-clause-err
returns-in_err-reserve-2-clause-err c =
    on_err c.from_residual-in_err-reserve-2.result (λ i. record {
      value = λ x. value_same c.args.self.now.values c.reserve.new.self c.in_ok-reserve.ensures.entries.2 x i;
      block = λ x. ptr_same c.args.self.now.blocks c.reserve-2.new.self c.in_err-reserve-2.ensures.entries.2 x i;
      call = (images c.args.self.now).call;
    })

pub returns-clause-ok : goal.returns-clause-ok
returns-clause-ok c =
    λ i. record {
      value = λ x. (sym (value_found c.put_all.new.into x) ∙ c.put_all.ensures x ∙ (λ j. option_or
          (value_found c.args.other.now.values x j) (value_found c.reserve.new.self x j))
          ∙ ap (option_or ((images c.args.other.now).value x)) (value_same c.args.self.now.values c.reserve.new.self
          c.in_ok-reserve.ensures.entries.2 x)) i;
      block = λ x. (sym (ptr_found c.put_all-2.new.into x) ∙ c.put_all-2.ensures x ∙ (λ j. option_or
          (ptr_found c.args.other.now.blocks x j) (ptr_found c.reserve-2.new.self x j))
          ∙ ap (option_or ((images c.args.other.now).block x)) (ptr_same c.args.self.now.blocks c.reserve-2.new.self
          c.in_ok-reserve-2.ensures.entries.2 x)) i;
      call = (images c.args.self.now).call;
    }
