use Rattle.plir_core.specs.ContextView.{IsValueLive}
use Rattle.plir_read_ir.specs.Noting.{same_name}
use Rattle.plir_read_ir.proofs.Noted.{bear_one}
use Rattle.plir_read_ir.proofs.notes.Notes.bear_value.Goals as goal

pub returns-clause-all : goal.returns-clause-all
returns-clause-all g c =
    λ h. bear_one same_name (IsValueLive c.args.ctx.now) c.args.self.now.values c.bear.new.self
    (c.args.body, c.args.name.word) c.args.value c.in_ok-bear.ensures.ok c.requires h
