use Rattle.std.proofs.Common.{IsOk, OnErr, ◌≡◌, refl, sym, subst}
use Rattle.plir_run.proofs.Lent.{agree-after, agree-still}
use Rattle.plir_run.proofs.tables.insert.Goals as goal

pub returns-in_err-table : goal.returns-in_err-table
returns-in_err-table g c = record {
  agree =
      agree-still g.D.OpSet c.args.ctx.now c.args.tables.now c.requires.agree c.get_symbol_table.follows.lender-at-none
      (subst (λ r. OnErr r (c.get_symbol_table.follows.lender-at-none ≡ c.args.tables.now)) c.in_err-table.was
      c.get_symbol_table.follows.holds-at-none);
}

pub returns-in_err-insert : goal.returns-in_err-insert
returns-in_err-insert g c = record {
  agree =
      agree-after g.D.OpSet c.args.ctx.now c.args.tables.now c.args.target c.in_ok-table.table.now
      (c.in_ok-table.ensures.agree c.requires.agree.agree) (c.in_ok-table.ensures.given c.requires.agree.given)
      c.insert.result c.insert.new.ctx c.insert.new.self (c.get_symbol_table.follows.lender c.insert.new.self)
      (c.get_symbol_table.follows.holds c.insert.new.self (subst IsOk (sym c.in_ok-table.was) refl))
      c.insert.ensures.all_agree c.insert.ensures.given c.insert.ensures.same;
}

pub returns : goal.returns
returns g c = record {
  agree =
      agree-after g.D.OpSet c.args.ctx.now c.args.tables.now c.args.target c.in_ok-table.table.now
      (c.in_ok-table.ensures.agree c.requires.agree.agree) (c.in_ok-table.ensures.given c.requires.agree.given)
      c.insert.result c.insert.new.ctx c.insert.new.self (c.get_symbol_table.follows.lender c.insert.new.self)
      (c.get_symbol_table.follows.holds c.insert.new.self (subst IsOk (sym c.in_ok-table.was) refl))
      c.insert.ensures.all_agree c.insert.ensures.given c.insert.ensures.same;
}
