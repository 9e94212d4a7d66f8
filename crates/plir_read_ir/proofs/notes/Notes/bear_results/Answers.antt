use Rattle.std.proofs.Common.{◌∙◌, ◌<◌, refl, subst, length, arith}
use Rattle.std.proofs.lemmas.List.{take_all}
use Rattle.plir_core.specs.Results.{result_of}
use Rattle.plir_core.specs.declared.ptr.IRNode.TheVariants.{Operation}
use Rattle.plir_read_ir.specs.Mentions.{results_bear, values_in}
use Rattle.plir_read_ir.specs.Noting.{same_name}
use Rattle.plir_read_ir.specs.Readings.{AddsValues, plain_name}
use Rattle.plir_read_ir.specs.Spelling.{words}
use Rattle.plir_read_ir.proofs.Counted.{says_more}
use Rattle.plir_read_ir.proofs.Says.{adds_none}
use Rattle.plir_read_ir.proofs.notes.Notes.bear_results.Goals as goal

pub names-init : goal.names-init
names-init g c =
    record {
      borne = λ h. h;
      says = adds_none same_name plain_name c.args.self.now.values;
      labels = refl;
      uses = refl;
    }

pub names-preserved : goal.names-preserved
names-preserved g c =
    let i = c.names.invariant in
    let b = c.in_ok-bear_value.ensures in
    let below : c.names.place < length c.args.names.now = omega (arith, c.names-test.true) in
    record {
      borne = λ h. b.all (i.borne h);
      says = says_more c.args.self.now.values c.names.self.values c.bear_value.new.self.values c.args.body
          (result_of c.args.op) c.args.names.now c.names.place _ _ below i.says b.borne c.get_result.ensures.value;
      labels = b.labels ∙ i.labels;
      uses = b.uses ∙ i.uses;
    }

pub returns-clause-says : goal.returns-clause-says
returns-clause-says g c =
    subst (λ ws. AddsValues c.args.self.now.values c.names.self.values
    (values_in (results_bear c.args.body (Operation c.args.op) (words ws))))
    (take_all c.names.place c.args.names.now (omega (arith, c.names-test.false))) c.names.invariant.says
