use Rattle.std.proofs.Common.{IsOk, OnErr, ◌≡◌, refl, sym, subst}
use Rattle.plir_run.proofs.Lent.{agree-after, agree-still}
use Rattle.plir_run.proofs.tables.erase.Goals as goal

pub returns-in_err-table : goal.returns-in_err-table
returns-in_err-table g c = record {
  agree =
      agree-still g.D.OpSet c.args.ctx.now c.args.tables.now c.requires.agree c.get_symbol_table.follows.lender-at-none
      (subst (λ r. OnErr r (c.get_symbol_table.follows.lender-at-none ≡ c.args.tables.now)) c.in_err-table.was
      c.get_symbol_table.follows.holds-at-none);
}

pub returns-in_err-erase : goal.returns-in_err-erase
returns-in_err-erase g c = record {
  agree =
      agree-after g.D.OpSet c.args.ctx.now c.args.tables.now c.args.target c.in_ok-table.table.now
      (c.in_ok-table.ensures.agree c.requires.agree.agree) (c.in_ok-table.ensures.given c.requires.agree.given)
      c.erase.result c.erase.new.ctx c.erase.new.self (c.get_symbol_table.follows.lender c.erase.new.self)
      (c.get_symbol_table.follows.holds c.erase.new.self (subst IsOk (sym c.in_ok-table.was) refl))
      c.erase.ensures.all_agree c.erase.ensures.given c.erase.ensures.same;
}

pub returns : goal.returns
returns g c = record {
  agree =
      agree-after g.D.OpSet c.args.ctx.now c.args.tables.now c.args.target c.in_ok-table.table.now
      (c.in_ok-table.ensures.agree c.requires.agree.agree) (c.in_ok-table.ensures.given c.requires.agree.given)
      c.erase.result c.erase.new.ctx c.erase.new.self (c.get_symbol_table.follows.lender c.erase.new.self)
      (c.get_symbol_table.follows.holds c.erase.new.self (subst IsOk (sym c.in_ok-table.was) refl))
      c.erase.ensures.all_agree c.erase.ensures.given c.erase.ensures.same;
}
