use Rattle.std.proofs.Common.{◌≡◌, take}
use Rattle.plir_core.specs.ContextView.{IsValueLive}
use Rattle.plir_core.specs.declared.ptr.IRNode.TheVariants.{BasicBlock}
use Rattle.plir_read_ir.specs.Mentions.{arguments_bear, values_in}
use Rattle.plir_read_ir.specs.Noting.{BearAll, same_name}
use Rattle.plir_read_ir.specs.Readings.{AddsValues}
use Rattle.plir_read_ir.specs.Spelling.{words}
use Rattle.plir_read_ir.proofs.notes.Notes.bear_arguments.Given as goal

abbrev pub invariant-names : goal.invariant-names
invariant-names g l =
    record {
      borne : BearAll same_name (IsValueLive l.ctx) l.initial.self.values →
          BearAll same_name (IsValueLive l.ctx) l.self.values;
      says : AddsValues l.initial.self.values l.self.values
          (values_in (arguments_bear l.body (BasicBlock l.block) (words (take l.place l.names))));
      labels : l.self.labels ≡ l.initial.self.labels;
      uses : l.self.uses ≡ l.initial.self.uses;
    }
