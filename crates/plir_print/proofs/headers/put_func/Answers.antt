use Rattle.std.proofs.Common.{◌≡◌, ◌++◌, Some, codes, string_bytes, sym, ap, ◌∙◌}
use Rattle.plir_builtin.specs.BuiltinOps.{func_type_of}
use Rattle.plir_print.specs.Headers.{some_type_text, symbol_text}
use Rattle.plir_data.specs.TextLaws.{on}
use Rattle.plir_print.proofs.headers.put_func.Goals as goal

pub returns : goal.returns
returns g c =
    let s = c.args.ctx.now in
    let typed : func_type_of s c.args.op ≡ Some c.unwrap-ty.result =
    cc (c.find_func_type.ensures.value, c.unwrap-ty.ensures) in
    let ty = some_type_text g.D.OpSet s (func_type_of s c.args.op) in
    let put : string_bytes c.put_type.new.out ≡ string_bytes c.put-2.new.out ++ ty =
    c.in_ok-put_type.ensures ∙ ap (λ h. string_bytes c.put-2.new.out ++ some_type_text g.D.OpSet s h) (sym typed) in
    on _ (codes "builtin.func ") _ _ _ c.in_ok-put.ensures.ok
    (on _ (symbol_text s c.args.op) _ _ _ c.in_ok-put_symbol.ensures
    (on _ (codes ": ") ty _ _ c.in_ok-put-2.ensures.ok put))
