use Rattle.std.proofs.Common.{◌≡◌, ◌++◌, Some, OnOk, codes, string_bytes, sym, ap, subst, ◌∙◌}
use Rattle.plir_print.specs.Headers.{header_of, symbol_text}
use Rattle.plir_data.specs.TextLaws.{on}
use Rattle.plir_print.proofs.headers.put_header_of.Goals as goal

pub returns-in_ok-put_symbol-in-Module : goal.returns-in_ok-put_symbol-in-Module
returns-in_ok-put_symbol-in-Module g c =
    let s = c.args.ctx.now in
    on _ (codes "builtin.module ") (symbol_text s c.args.op) _ _ c.in_ok-put-in-Module.ensures.ok
    c.in_ok-put_symbol-in-Module.ensures
    ∙ ap (λ k. string_bytes c.args.out.now ++ header_of g.D.OpSet s (Some k) c.args.op) (sym c.in-Module.is)

pub returns-in-ForwardRef : goal.returns-in-ForwardRef
returns-in-ForwardRef g c =
    subst (λ k. OnOk c.put-in-ForwardRef.result (string_bytes c.put-in-ForwardRef.new.out ≡
    string_bytes c.args.out.now ++ header_of g.D.OpSet c.args.ctx.now (Some k) c.args.op)) (sym c.in-ForwardRef.is)
    c.put-in-ForwardRef.ensures.ok
