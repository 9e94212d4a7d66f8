use Rattle.plir_builtin.specs.Agree.{AllAgree}
use Rattle.plir_builtin.specs.SymbolUses.{is_user_kind, IsUseRefusal}
use Rattle.plir_core.specs.ContextView.{kind_of}
use Rattle.plir_builtin.proofs.UseChecks.{agree-empty, first-reported, use-again}
use Rattle.plir_builtin.proofs.UsesWalked.{all-hold, first-fails}
use Rattle.plir_builtin.proofs.symbol_users.verify_uses.Goals as goal

pub returns-in-Break-clause-refused : goal.returns-in-Break-clause-refused
returns-in-Break-clause-refused g c =
    let s = c.args.ctx.now in
    let S = g.D.OpSet in
    let U = g.D.SymbolUserSet in
    let f = first-fails _ _ s (AllAgree S.is_symbol S.is_symbol_table s)
    (λ d u p a d' u' h. h.stays)
    (λ u p a u' h i.
    (use-again S.is_symbol S.is_symbol_table S.is_symbol_user U.uses_hold U.use_refusal (λ r. r.why)
    p a h.shows h.leaves h.met.1).agree i)
    _ c.new-tables.result
    (agree-empty S.is_symbol S.is_symbol_table s c.new-tables.result c.new-tables.ensures) c.args.op _
    (λ p. is_user_kind S.is_symbol_user (kind_of s p)) (U.uses_hold s)
    (λ p b. IsUseRefusal (U.uses_hold s p) (U.use_refusal s p) b.why)
    (λ u p a u' h.
    (use-again S.is_symbol S.is_symbol_table S.is_symbol_user U.uses_hold U.use_refusal (λ r. r.why)
    p a h.shows h.leaves h.met.1).never_skips)
    (λ u p a u' h i.
    (use-again S.is_symbol S.is_symbol_table S.is_symbol_user U.uses_hold U.use_refusal (λ r. r.why)
    p a h.shows h.leaves h.met.1).advances i)
    (λ u p a u' h i.
    (use-again S.is_symbol S.is_symbol_table S.is_symbol_user U.uses_hold U.use_refusal (λ r. r.why)
    p a h.shows h.leaves h.met.1).breaks i)
    _ _ c.in-Break.is c.before_is_a_total_order.ensures c.walk_symbol_table.ensures in
    first-reported S.is_symbol_table S.is_symbol_user U.uses_hold U.use_refusal s c.args.op _ f.op
    (record { handed = f.handed; user = f.is_user }) f.refused
    (λ q u lt. f.before q u.handed u.user lt)

pub returns-clause-ok : goal.returns-clause-ok
returns-clause-ok g c =
    let s = c.args.ctx.now in
    let S = g.D.OpSet in
    let U = g.D.SymbolUserSet in
    let f = all-hold _ _ s (AllAgree S.is_symbol S.is_symbol_table s)
    (λ d u p a d' u' h. h.stays)
    (λ u p a u' h i.
    (use-again S.is_symbol S.is_symbol_table S.is_symbol_user U.uses_hold U.use_refusal (λ r. r.why)
    p a h.shows h.leaves h.met.1).agree i)
    _ c.new-tables.result
    (agree-empty S.is_symbol S.is_symbol_table s c.new-tables.result c.new-tables.ensures) c.args.op _
    (λ p. is_user_kind S.is_symbol_user (kind_of s p)) (U.uses_hold s)
    (λ p b. IsUseRefusal (U.uses_hold s p) (U.use_refusal s p) b.why)
    (λ u p a u' h.
    (use-again S.is_symbol S.is_symbol_table S.is_symbol_user U.uses_hold U.use_refusal (λ r. r.why)
    p a h.shows h.leaves h.met.1).never_skips)
    (λ u p a u' h i.
    (use-again S.is_symbol S.is_symbol_table S.is_symbol_user U.uses_hold U.use_refusal (λ r. r.why)
    p a h.shows h.leaves h.met.1).advances i)
    (λ u p a u' h i.
    (use-again S.is_symbol S.is_symbol_table S.is_symbol_user U.uses_hold U.use_refusal (λ r. r.why)
    p a h.shows h.leaves h.met.1).breaks i)
    _ _ c.in-Continue.is c.walk_symbol_table.ensures in
    λ p u. f p u.handed u.user
