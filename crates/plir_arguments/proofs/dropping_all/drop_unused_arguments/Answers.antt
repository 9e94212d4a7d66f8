use Rattle.std.proofs.Common.{subst, sym}
use Rattle.plir_arguments.specs.Steps.{AreCutShort}
use Rattle.plir_arguments.proofs.Going.{blocks-live, cut-at-once, cut-limit, cut-types, going-cut, going-done, going-limit}
use Rattle.plir_arguments.proofs.Going.{going-on, going-start, going-stop, going-types, if-err}
use Rattle.plir_arguments.proofs.dropping_all.drop_unused_arguments.Goals as goal

pub drops-init : goal.drops-init
drops-init g c =
    going-start g.D.BranchEditSet.removes g.D.BranchSet.forwards c.args.root g.D.BranchEditSet.layout_keys
    g.D.OpSet.attr_handles c.args.ctx.now _ c.in_ok-blocks.ensures c.requires c.stands.ensures.whole

pub next_to_go-requires : goal.next_to_go-requires
next_to_go-requires g c =
    blocks-live c.drops.ctx (c.contexts_stand.ensures c.drops.ctx c.drops.invariant.whole) c.args.root
    c.drops.invariant.live c.drops.blocks.list.items c.drops.invariant.below

pub drops-preserved : goal.drops-preserved
drops-preserved g c =
    let e = c.in_ok-drop_found.ensures in
    going-on g.D.BranchEditSet.removes g.D.BranchSet.forwards c.args.root g.D.BranchEditSet.layout_keys
    g.D.OpSet.attr_handles c.args.ctx.now c.drops.ctx c.drops.any c.drops.blocks.list.items c.drops.invariant
    c.drop_found.new.ctx c.drop_found.new.blocks.list.items e.one e.below e.root_live e.whole

pub returns-clause-dropped : goal.returns-clause-dropped
returns-clause-dropped g c =
    going-done g.D.BranchEditSet.removes g.D.BranchSet.forwards c.args.root g.D.BranchEditSet.layout_keys
    g.D.OpSet.attr_handles c.args.ctx.now c.drops.ctx c.drops.any c.drops.blocks.list.items c.drops.invariant _
    c.in_default.is c.in_ok-found.ensures.found

pub returns-clause-types : goal.returns-clause-types
returns-clause-types g c =
    going-types g.D.BranchEditSet.removes g.D.BranchSet.forwards c.args.root g.D.BranchEditSet.layout_keys
    g.D.OpSet.attr_handles c.args.ctx.now c.drops.ctx c.drops.any c.drops.blocks.list.items c.drops.invariant

pub returns-clause-limit : goal.returns-clause-limit
returns-clause-limit g c =
    going-limit g.D.BranchEditSet.removes g.D.BranchSet.forwards c.args.root g.D.BranchEditSet.layout_keys
    g.D.OpSet.attr_handles c.args.ctx.now c.drops.ctx c.drops.any c.drops.blocks.list.items c.drops.invariant

pub returns-in_err-blocks-clause-err : goal.returns-in_err-blocks-clause-err
returns-in_err-blocks-clause-err g c =
    let P = AreCutShort g.D.BranchEditSet.removes g.D.BranchSet.forwards c.args.root g.D.BranchEditSet.layout_keys
    c.args.ctx.now c.args.ctx.now in
    if-err P c.from_residual.result c.from_residual.ensures.1 (λ y q. subst P (sym q)
    (cut-at-once g.D.BranchEditSet.removes g.D.BranchSet.forwards c.args.root g.D.BranchEditSet.layout_keys
    c.args.ctx.now))

pub returns-in_err-found-clause-err : goal.returns-in_err-found-clause-err
returns-in_err-found-clause-err g c =
    let P = AreCutShort g.D.BranchEditSet.removes g.D.BranchSet.forwards c.args.root g.D.BranchEditSet.layout_keys
    c.args.ctx.now c.drops.ctx in
    if-err P c.from_residual-in_err-found.result c.from_residual-in_err-found.ensures.1 (λ y q. subst P (sym q)
    (going-stop g.D.BranchEditSet.removes g.D.BranchSet.forwards c.args.root g.D.BranchEditSet.layout_keys
    g.D.OpSet.attr_handles c.args.ctx.now c.drops.ctx c.drops.any c.drops.blocks.list.items c.drops.invariant))

pub returns-in_err-found-clause-types : goal.returns-in_err-found-clause-types
returns-in_err-found-clause-types g c =
    going-types g.D.BranchEditSet.removes g.D.BranchSet.forwards c.args.root g.D.BranchEditSet.layout_keys
    g.D.OpSet.attr_handles c.args.ctx.now c.drops.ctx c.drops.any c.drops.blocks.list.items c.drops.invariant

pub returns-in_err-found-clause-limit : goal.returns-in_err-found-clause-limit
returns-in_err-found-clause-limit g c =
    going-limit g.D.BranchEditSet.removes g.D.BranchSet.forwards c.args.root g.D.BranchEditSet.layout_keys
    g.D.OpSet.attr_handles c.args.ctx.now c.drops.ctx c.drops.any c.drops.blocks.list.items c.drops.invariant

pub returns-in_err-drop_found-clause-err : goal.returns-in_err-drop_found-clause-err
returns-in_err-drop_found-clause-err g c =
    let P = AreCutShort g.D.BranchEditSet.removes g.D.BranchSet.forwards c.args.root g.D.BranchEditSet.layout_keys
    c.args.ctx.now c.drop_found.new.ctx in
    if-err P c.from_residual-in_err-drop_found.result c.from_residual-in_err-drop_found.ensures.1 (λ y q. subst P (sym q)
    (going-cut g.D.BranchEditSet.removes g.D.BranchSet.forwards c.args.root g.D.BranchEditSet.layout_keys
    g.D.OpSet.attr_handles c.args.ctx.now c.drops.ctx c.drops.any c.drops.blocks.list.items c.drops.invariant
    c.drop_found.new.ctx c.in_err-drop_found.field-0.0 c.in_err-drop_found.ensures.err))

pub returns-in_err-drop_found-clause-types : goal.returns-in_err-drop_found-clause-types
returns-in_err-drop_found-clause-types g c =
    let removes = g.D.BranchEditSet.removes in
    let forwards = g.D.BranchSet.forwards in
    let keys = g.D.BranchEditSet.layout_keys in
    cut-types removes forwards c.args.root keys c.args.ctx.now c.drop_found.new.ctx c.in_err-drop_found.field-0.0
    (going-cut removes forwards c.args.root keys g.D.OpSet.attr_handles c.args.ctx.now c.drops.ctx c.drops.any
    c.drops.blocks.list.items c.drops.invariant c.drop_found.new.ctx c.in_err-drop_found.field-0.0
    c.in_err-drop_found.ensures.err)

pub returns-in_err-drop_found-clause-limit : goal.returns-in_err-drop_found-clause-limit
returns-in_err-drop_found-clause-limit g c =
    let removes = g.D.BranchEditSet.removes in
    let forwards = g.D.BranchSet.forwards in
    let keys = g.D.BranchEditSet.layout_keys in
    cut-limit removes forwards c.args.root keys c.args.ctx.now c.drop_found.new.ctx c.in_err-drop_found.field-0.0
    (going-cut removes forwards c.args.root keys g.D.OpSet.attr_handles c.args.ctx.now c.drops.ctx c.drops.any
    c.drops.blocks.list.items c.drops.invariant c.drop_found.new.ctx c.in_err-drop_found.field-0.0
    c.in_err-drop_found.ensures.err)
