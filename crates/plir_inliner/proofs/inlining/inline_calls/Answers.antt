use Rattle.std.proofs.Common.{refl, subst, sym}
use Rattle.plir_inliner.specs.Known.{AreSure}
use Rattle.plir_inliner.proofs.Went.{whole-part}
use Rattle.plir_inliner.proofs.inlining.inline_calls.Goals as goal

pub inline_all-requires-clause-sure : goal.inline_all-requires-clause-sure
inline_all-requires-clause-sure g c =
    subst (AreSure g.D.OpSet.is_symbol g.D.OpSet.is_symbol_table c.args.ctx.now) (sym c.new-tables.ensures) (record {
      agree = c.no_tables_agree.ensures.agree;
      given = c.no_tables_agree.ensures.given;
    })

pub returns-clause-ok : goal.returns-clause-ok
returns-clause-ok g c =
    let e = c.in_ok-stopped.ensures in
    whole-part g.D.OpSet.is_symbol g.D.OpSet.is_symbol_table g.D.CallSet.call g.D.CallSet.returned c.args.root
    c.args.ctx.now c.inline_all.new.ctx c.args.budget _ c.inline_all.new.tally _ refl refl e.part refl refl
    e.none_left e.over

pub returns-clause-agree : goal.returns-clause-agree
returns-clause-agree g c = λ tables sure. (c.in_ok-stopped.ensures.sure_still tables sure).agree
