use Rattle.std.proofs.Common.{◌≡◌, zero, suc, List, [], ◌∷◌, ◌++◌, refl, sym, ap, subst, arith, ◌∙◌}
use Rattle.std.specs.Prelude.{All}
use Rattle.plir_data.specs.Types.{AllLive, IsLive}
use Rattle.joined_dialects.proofs.batch_op.BatchOp.new.Goals as goal

-- what holds of one holds of all in the list of that one
all_one : {X : Type 0} (P : X → Type 0) (x : X) → P x → All P (x ∷ [])
all_one P x p zero d i = p
all_one P x p (suc k) d i = absurd (let w : ⊥ = omega (arith, i) in w)

pub same-attributes : goal.same-attributes
same-attributes g c = refl

pub new_with_block-requires-clause-types_live : goal.new_with_block-requires-clause-types_live
new_with_block-requires-clause-types_live g c =
    let types = c.args.ctx.now.types in
    subst (AllLive types) (sym (c.in_ok-push.ensures.items ∙ ap (λ xs. xs ++ (c.args.ty ∷ [])) c.new-arg_types.ensures.items))
    (all_one (IsLive types) c.args.ty c.requires)

pub new_with_block-requires-clause-handles_live : goal.new_with_block-requires-clause-handles_live
new_with_block-requires-clause-handles_live g c = c.in_ok-attributes.ensures.live c.args.ctx.now.types
