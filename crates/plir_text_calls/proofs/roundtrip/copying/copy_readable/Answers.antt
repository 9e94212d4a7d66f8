use Rattle.std.proofs.Common.{MatchResult, ◌∙◌}
use Rattle.plir_core.specs.declared.ptr.IRNode.TheVariants.{Operation}
use Rattle.plir_attr_text.specs.laws.Growth.{Grows-itself}
use Rattle.plir_roundtrip.specs.IrReadBack.{IsRoomWanting}
use Rattle.plir_roundtrip.specs.SameIrTree.{IsSameIrTree}
use Rattle.plir_text_calls.proofs.Answered.{where_err, where_ok}
use Rattle.plir_text_calls.proofs.roundtrip.copying.copy_readable.Given as given
use Rattle.plir_text_calls.proofs.roundtrip.copying.copy_readable.Goals as goal

pub text_of-requires-clause-printable : goal.text_of-requires-clause-printable
text_of-requires-clause-printable g c =
    c.ir_readable_can_be_printed.ensures c.args.ctx.now c.args.op c.requires.readable.text

-- the law, at what the calls before it ensure
told : (g : given.Over) (c : goal.After-drop-printed g) → MatchResult c.read_ir-read.result
    (λ q. IsSameIrTree c.args.ctx.now c.read_ir-read.new.ctx (Operation c.args.op) (Operation q))
    (λ e. IsRoomWanting e.fault)
told g c =
    let s = c.args.ctx.now in
    let read = c.read_ir-read.ensures in
    let stand =
    c.ir_uses_stand.ensures s c.args.op c.in_ok-printed.ensures.whole c.requires.live c.requires.readable in
    c.ir_tree_is_read_back.ensures s s c.read_ir-read.new.ctx c.args.op
    c.in_ok-printed.ensures.whole read.whole c.types-types.ensures.table stand.0 stand.1
    (c.as_str-text.ensures.value ∙ c.in_ok-printed.ensures.text) (Grows-itself s.types) (record {
      found = read.found;
      made = read.made;
      refused = read.refused;
      unmeant = read.unmeant;
      kept = read.kept;
    })

pub returns-clause-same : goal.returns-clause-same
returns-clause-same g c = where_ok _ (λ e. IsRoomWanting e.fault) c.read_ir-read.result (told g c)

pub returns-clause-wanting : goal.returns-clause-wanting
returns-clause-wanting g c =
    where_err (λ q. IsSameIrTree c.args.ctx.now c.read_ir-read.new.ctx (Operation c.args.op) (Operation q)) _
    c.read_ir-read.result (told g c)
