use Rattle.std.proofs.Common.{◌≡◌, ◌∙◌, ◌++◌, ◌∷◌, [], None, cond, ap, sym, subst, is_some}
use Rattle.std.specs.FinMap.{get}
use Rattle.plir_builtin.specs.Reading.{IsRead, IsFirstRefusalAt}
use Rattle.plir_builtin.specs.Symbols.{Symbols, symbols_of}
use Rattle.plir_builtin.specs.Refusals.{IsUnnamedFirst, IsRepeatedAt}
use Rattle.plir_builtin.specs.TableEdits.{with_name}
use Rattle.plir_builtin.proofs.ReadTables.{read-more, read-unnamed, read-repeated, not_some, reported-first}
use Rattle.plir_builtin.proofs.symbol_table.SymbolTable.read_op.Goals as goal

pub returns-in_default-clause-refused : goal.returns-in_default-clause-refused
returns-in_default-clause-refused g c = λ es h.
    let kind = sym c.is_symbol.ensures ∙ c.if-not-is_symbol.false in
    let name = sym c.in_default.ensures in
    subst (λ z. IsUnnamedFirst (es ++ z)) (sym (λ i. cond (kind i) ((c.args.op, name i) ∷ []) []))
    (read-unnamed es c.args.self.now h c.args.op [])

pub returns-then-is_some-clause-refused : goal.returns-then-is_some-clause-refused
returns-then-is_some-clause-refused g c =
    let kind = sym c.is_symbol.ensures ∙ c.if-not-is_symbol.false in
    let name = sym c.in-Some.ensures in
    let before = c.in_ok-before.ensures.before ∙ ap (get c.args.self.now.names) c.in_ok-copy.ensures.equal in
    let some = sym (ap is_some before) ∙ sym c.is_some.ensures ∙ c.if-is_some.true in
    reported-first c.redefined.result c.in-Some.name.now c.redefined.ensures
    (λ r. (es : Symbols) → IsRead es c.args.self.now
    → IsFirstRefusalAt c.args.op (es ++ symbols_of g.D.OpSet.is_symbol c.args.ctx.now c.args.op) r)
    (λ es h. subst (λ z. IsRepeatedAt c.in-Some.name.now c.args.op (es ++ z))
    (sym (λ i. cond (kind i) ((c.args.op, name i) ∷ []) []))
    (read-repeated es c.args.self.now h c.args.op c.in-Some.name.now [] some))

pub returns-clause-read : goal.returns-clause-read
returns-clause-read g c = λ es h.
    let kind = sym c.is_symbol.ensures ∙ c.if-not-is_symbol.false in
    let name = sym c.in-Some.ensures in
    let before = c.in_ok-before.ensures.before ∙ ap (get c.args.self.now.names) c.in_ok-copy.ensures.equal in
    let none : get c.args.self.now.names c.in-Some.name.now ≡ None =
    sym before ∙ not_some c.in_ok-before.before (sym c.is_some.ensures ∙ c.if-is_some.false) in
    let made = c.in_ok-before.ensures.ok ∙ ap (λ n. with_name c.args.self.now n c.args.op) c.in_ok-copy.ensures.equal in
    subst (λ t. IsRead (es ++ symbols_of g.D.OpSet.is_symbol c.args.ctx.now c.args.op) t) (sym made)
    (subst (λ z. IsRead (es ++ z) (with_name c.args.self.now c.in-Some.name.now c.args.op))
    (sym (λ i. cond (kind i) ((c.args.op, name i) ∷ []) []))
    (read-more es c.args.self.now h c.args.op c.in-Some.name.now none))
