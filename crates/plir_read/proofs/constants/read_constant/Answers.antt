use Rattle.std.proofs.Common.{◌≡◌, ◌∙◌, Ok, sym, subst}
use Rattle.std.proofs.lemmas.Result.{err_from_is_err_and}
use Rattle.plir_read.specs.OpReading.{named}
use Rattle.plir_core.specs.declared.ptr.IRNode.TheVariants.{Operation}
use Rattle.plir_core.specs.Room.{HaveCome, IsFullFor, one_op}
use Rattle.plir_read.specs.Slots.{IsMadeInOrder}
use Rattle.plir_read.specs.laws.OpMade.{value_live, result_live, KeepsOlder-typed, KeepsOlder-on}
use Rattle.plir_read.specs.laws.TreesInOrder.{leaf_in_order}
use Rattle.plir_read.specs.laws.TypesNamed.{named_still}
use Rattle.plir_read.specs.HeldTypes.{IsHeldByConstant}
use Rattle.plir_read.proofs.Held.{come_still}
use Rattle.plir_read.proofs.OpSteps.{Ends-refused, refused_as, named_constant_is, is_named_constant, constant_still}
use Rattle.plir_read.proofs.constants.read_constant.Goals as goal

pub make_constant-requires-clause-value_live : goal.make_constant-requires-clause-value_live
make_constant-requires-clause-value_live g c =
    let y = c.in_ok-constant.ensures.read in
    value_live _ _ _ _ y.0.0 y.2.0

pub make_constant-requires-clause-type_live : goal.make_constant-requires-clause-type_live
make_constant-requires-clause-type_live g c =
    let y = c.in_ok-constant.ensures.read in
    result_live _ _ _ y.0.0 y.2.0

pub returns-in_err-op-clause-kept : goal.returns-in_err-op-clause-kept
returns-in_err-op-clause-kept g c =
    KeepsOlder-on _ _ _ (KeepsOlder-typed c.args.ctx.now c.read_typed_value-read.new.ctx c.in_ok-constant.ensures.rest
    c.in_ok-constant.ensures.grown) c.in_err-op.ensures.kept

pub returns-clause-slots : goal.returns-clause-slots
returns-clause-slots g c =
    let op = c.in_ok-op.op in
    subst (λ z. IsMadeInOrder z c.make_constant.new.ctx.nodes (Operation op)) c.in_ok-constant.ensures.rest
    (leaf_in_order c.read_typed_value-read.new.ctx c.make_constant.new.ctx (Operation op) c.in_ok-op.ensures.made.empty
    c.in_ok-op.ensures.slots)

pub returns-in_err-op-clause-named : goal.returns-in_err-op-clause-named
returns-in_err-op-clause-named g c = named_still _ _ _ _ c.in_err-op.ensures.types c.in_ok-constant.ensures.named

pub returns-clause-named : goal.returns-clause-named
returns-clause-named g c = named_still _ _ _ _ c.in_ok-op.ensures.made.types c.in_ok-constant.ensures.named

pub returns-clause-held : goal.returns-clause-held
returns-clause-held g c =
    λ y e. come_still (λ t. IsHeldByConstant t y.0) _ _ _ c.in_ok-op.ensures.made.types
    (c.in_ok-constant.ensures.held y (named_constant_is c.args.levels _ c.args.bytes.now y e))

pub returns-in_err-op-clause-read : goal.returns-in_err-op-clause-read
returns-in_err-op-clause-read g c =
    let p = err_from_is_err_and c.from_residual-in_err-op.result c.from_residual-in_err-op.ensures.1 in
    let y = c.in_ok-constant.ensures.read in
    let many = subst (λ m. named 1 m ≡ Ok tt) (c.len.ensures ∙ c.args.names.ok.0) c.in_ok-expect_names.ensures in
    rw (p.1, p.2) (Ends-refused _ c.in_err-op.field-0.0 _
    (refused_as _ _ c.in_err-op.field-0.0
    (λ full. (
      y.0,
      is_named_constant c.args.levels _ c.args.bytes.now tt y.0 many y.1,
      subst (λ z. IsFullFor z one_op) c.in_ok-constant.ensures.rest full,
    )) c.in_err-op.ensures.refused))

pub returns-clause-read : goal.returns-clause-read
returns-clause-read g c =
    let y = c.in_ok-constant.ensures.read in
    let m = c.in_ok-op.ensures.made in
    let many = subst (λ n. named 1 n ≡ Ok tt) (c.len.ensures ∙ c.args.names.ok.0) c.in_ok-expect_names.ensures in (
      y.0,
      is_named_constant c.args.levels _ c.args.bytes.now tt y.0 many y.1,
      (
        (
          (
            _,
            _,
            constant_still _ _ _ _ y.0.0 m.types y.2.0,
            m.held,
            m.empty,
          ),
          subst (λ z. HaveCome z c.make_constant.new.ctx.nodes one_op) c.in_ok-constant.ensures.rest
              c.in_ok-op.ensures.come,
        ),
        y.2.1,
      ),
    )
