use Rattle.std.proofs.Common.{◌≡◌, ◌++◌, zero, sym, ap, ◌∙◌}
use Rattle.std.specs.Prelude.{codes, string_bytes}
use Rattle.std.specs.Fmt.{decimal}
use Rattle.std.proofs.lemmas.List.{append_assoc}
use Rattle.plir_core.specs.Texts.{pointer_text}
use Rattle.plir_core.specs.declared.value.DefiningEntity.TheVariants.{Op}
use Rattle.plir_walk.specs.GivenNames.{names_at, name_at}
use Rattle.plir_builtin.specs.ResultNames.{given_first}
use Rattle.plir_builtin.proofs.forward_ref_op.first_result_name.Goals as goal

pub returns : goal.returns
returns g c =
    let pointer = pointer_text (codes "op") c.args.op in
    let front = given_first (name_at (names_at c.args.ctx.now (Op c.args.op)) zero) ++ pointer in
    let named : string_bytes c.put_pointer.new.out ≡ front =
    c.in_ok-put_pointer.ensures ∙ ap (λ z. z ++ pointer) c.in_ok-out.ensures in
    let split : front ++ codes "_res" ++ decimal zero ≡ front ++ (codes "_res" ++ decimal zero) =
    append_assoc front (codes "_res") (decimal zero) in
    c.in_ok-put_place.ensures ∙ ap (λ z. z ++ (codes "_res" ++ decimal zero)) named ∙ sym split
