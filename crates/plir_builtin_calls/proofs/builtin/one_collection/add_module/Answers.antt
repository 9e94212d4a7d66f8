use Rattle.std.proofs.Common.{◌≡◌, true}
use Rattle.plir_core.specs.declared.ptr.IRNode.{IRNode}
use Rattle.plir_core.specs.declared.ptr.IRNode.TheVariants.{Operation}
use Rattle.plir_core.specs.ContextView.{ContextView, given_out}
use Rattle.plir_builtin.specs.Table.{Tables}
use Rattle.plir_builtin.specs.Agree.{AreGivenOut}
use Rattle.plir_builtin_calls.proofs.builtin.one_collection.add_module.Goals as goal

-- where what was given out stays so, tables are cached for it as before
given-still : {K A T : Type 0} (s t : ContextView K A T) (c : Tables)
    → ((n : IRNode) → given_out s n ≡ true → given_out t n ≡ true) → AreGivenOut s c → AreGivenOut t c
given-still s t c given were p w is =
    let both = were p w is in (given (Operation p) both.0, given (Operation w.op) both.1)

-- where no module was made
pub returns-in_err-module-clause-agree : goal.returns-in_err-module-clause-agree
returns-in_err-module-clause-agree g c =
    c.new_nodes_keep_agreement.ensures.refused c.args.ctx.now c.args.tables.now c.stands.ensures.whole
    c.in_err-module.ensures.err c.requires.agree

pub returns-in_err-module-clause-given : goal.returns-in_err-module-clause-given
returns-in_err-module-clause-given g c =
    given-still c.args.ctx.now c.new-made.new.ctx c.args.tables.now c.new-made.ensures.given c.requires.given

-- where one was made
pub returns-in_err-push-clause-agree : goal.returns-in_err-push-clause-agree
returns-in_err-push-clause-agree g c =
    c.new_nodes_keep_agreement.ensures.made c.args.ctx.now _ c.args.tables.now c.stands.ensures.whole
    c.in_ok-module.ensures.made c.requires.given c.requires.agree

pub returns-in_err-push-clause-given : goal.returns-in_err-push-clause-given
returns-in_err-push-clause-given g c =
    given-still c.args.ctx.now c.new-made.new.ctx c.args.tables.now c.new-made.ensures.given c.requires.given

pub returns-in_err-replies-clause-agree : goal.returns-in_err-replies-clause-agree
returns-in_err-replies-clause-agree g c =
    c.apply_all.ensures.agree (c.new_nodes_keep_agreement.ensures.made c.args.ctx.now _ c.args.tables.now
    c.stands.ensures.whole c.in_ok-module.ensures.made c.requires.given c.requires.agree)

pub returns-clause-agree : goal.returns-clause-agree
returns-clause-agree g c =
    c.apply_all.ensures.agree (c.new_nodes_keep_agreement.ensures.made c.args.ctx.now _ c.args.tables.now
    c.stands.ensures.whole c.in_ok-module.ensures.made c.requires.given c.requires.agree)

pub returns-in_err-replies-clause-given : goal.returns-in_err-replies-clause-given
returns-in_err-replies-clause-given g c =
    c.apply_all.ensures.given (given-still c.args.ctx.now c.new-made.new.ctx c.args.tables.now
    c.new-made.ensures.given c.requires.given)

pub returns-clause-given : goal.returns-clause-given
returns-clause-given g c =
    c.apply_all.ensures.given (given-still c.args.ctx.now c.new-made.new.ctx c.args.tables.now
    c.new-made.ensures.given c.requires.given)
