use Rattle.std.proofs.Common.{◌≡◌, inr}
use Rattle.plir_data.specs.declared.location.VerifyErr.TheVariants.{Memory}
use Rattle.plir_flow.proofs.BranchFaults.{reported}
use Rattle.plir_iface.specs.VerdictLaws.{aside-weaker}
use Rattle.plir_flow.proofs.branches.BranchOpInterface.verify.Goals as goal

pub returns-in-Some-clause-refused : goal.returns-in-Some-clause-refused
returns-in-Some-clause-refused g c =
    let s = c.args.ctx.now in
    let op = g.Self.Op.pointer c.args.self.now in
    let layout = g.Self.BranchOpInterface.has_layout c.args.self.now s in
    let refuses = g.Self.BranchOpInterface.refuses_layout c.args.self.now s in
    let forwards = g.Self.BranchOpInterface.forwards c.args.self.now s in
    aside-weaker s op _ _
    (reported g.D.OpSet.type_id g.D.OpSet.type_body_text s layout refuses op forwards c.in-Some.mismatch
    c.in-Ok.ensures.ok c.in-Some.ensures.some)
    c.report.result (rw c.get_operation-op.ensures at c.report.ensures.reported)

pub returns-in-Some-clause-memory : goal.returns-in-Some-clause-memory
returns-in-Some-clause-memory g c = λ e. inr
    (let is : c.report.result ≡ Memory = cc e in
    (c.in-Some.mismatch, (c.in-Some.ensures.some, c.report.ensures.memory is)))
