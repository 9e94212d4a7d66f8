use Rattle.std.proofs.Common.{◌≡◌, subst}
use Rattle.std.specs.Option.{OnSome}
use Rattle.plir_data.specs.AttrView.{leaf, unit}
use Rattle.plir_data.specs.Dictionary.{dict_put}
use Rattle.plir_data.specs.declared.attributes.AttrObj.{AttrObj}
use Rattle.plir_low_calls.proofs.data.entries.put_unit.Goals as goal

pub returns-in-Some-clause-found : goal.returns-in-Some-clause-found
returns-in-Some-clause-found g c = λ there.
    subst (λ r. OnSome r (c.lookup_mut.follows.lender (AttrObj.Unit c.new.result) ≡ dict_put c.args.dict.now
    c.args.key.now (leaf unit))) c.in-Some.is (c.lookup_mut.follows.holds (AttrObj.Unit c.new.result))
