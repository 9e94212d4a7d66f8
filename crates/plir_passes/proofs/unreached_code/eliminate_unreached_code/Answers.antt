use Rattle.std.proofs.Common.{inl, refl, zero}
use Rattle.plir_core.specs.declared.ptr.IRNode.TheVariants.{Operation}
use Rattle.plir_passes.proofs.Leaving.{all-lawful, all-left, cut-unused, loose-in-block, loose-live}
use Rattle.plir_passes.proofs.NoneDead.{none-dead}
use Rattle.plir_passes.proofs.Remaining.{all-reached}
use Rattle.plir_passes.proofs.unreached_code.eliminate_unreached_code.Goals as goal

pub returns-in_err-under-clause-lawful : goal.returns-in_err-under-clause-lawful
returns-in_err-under-clause-lawful g c = c.lawful_changes.ensures.none c.args.ctx.now (Operation c.args.root)

pub returns-in_err-reached-clause-lawful : goal.returns-in_err-reached-clause-lawful
returns-in_err-reached-clause-lawful g c = c.lawful_changes.ensures.none c.args.ctx.now (Operation c.args.root)

pub cut_all-requires-clause-live : goal.cut_all-requires-clause-live
cut_all-requires-clause-live g c =
    loose-live g.D.EffectSet.has_effect g.D.OpSet.is_terminator c.args.ctx.now c.args.root
    c.stands.ensures.standing.forest c.requires.live c.requires.unused c.in_ok-under.under c.in_ok-reached.reached
    c.in_ok-under.ensures.under c.in_ok-reached.ensures.reached

pub cut_all-requires-clause-in_block : goal.cut_all-requires-clause-in_block
cut_all-requires-clause-in_block g c =
    loose-in-block g.D.EffectSet.has_effect g.D.OpSet.is_terminator c.args.ctx.now c.args.root
    c.stands.ensures.standing.forest c.requires.live c.requires.unused c.in_ok-under.under c.in_ok-reached.reached
    c.in_ok-under.ensures.under c.in_ok-reached.ensures.reached

pub erase_all-requires-clause-unused : goal.erase_all-requires-clause-unused
erase_all-requires-clause-unused g c =
    cut-unused g.D.EffectSet.has_effect g.D.OpSet.is_terminator c.args.ctx.now c.args.root
    c.stands.ensures.standing.forest c.requires.live c.requires.unused c.in_ok-under.under c.in_ok-reached.reached
    c.in_ok-under.ensures.under c.in_ok-reached.ensures.reached c.cut_all.new.ctx c.cut_all.ensures.cut
    c.cut_all.ensures.none

pub returns-clause-left : goal.returns-clause-left
returns-clause-left g c =
    all-left g.D.EffectSet.has_effect g.D.OpSet.is_terminator c.args.ctx.now c.args.root
    c.stands.ensures.standing.forest c.requires.live c.requires.unused c.in_ok-under.under c.in_ok-reached.reached
    c.in_ok-under.ensures.under c.in_ok-reached.ensures.reached c.cut_all.new.ctx c.cut_all.ensures.cut
    c.cut_all.ensures.none c.erase_all.new.ctx c.erase_all.ensures

pub returns-clause-lawful : goal.returns-clause-lawful
returns-clause-lawful g c =
    all-lawful g.D.EffectSet.has_effect g.D.OpSet.is_terminator c.args.ctx.now c.args.root
    c.stands.ensures.standing.forest c.requires.live c.requires.unused c.in_ok-under.under c.in_ok-reached.reached
    c.in_ok-under.ensures.under c.in_ok-reached.ensures.reached c.cut_all.new.ctx c.cut_all.ensures.cut
    c.cut_all.ensures.none c.erase_all.new.ctx c.erase_all.ensures

pub returns-clause-clean : goal.returns-clause-clean
returns-clause-clean g c =
    let effect = g.D.EffectSet.has_effect in
    let ends = g.D.OpSet.is_terminator in
    let s = c.args.ctx.now in
    let root = c.args.root in
    let forest = c.stands.ensures.standing.forest in
    let left = all-left effect ends s root forest c.requires.live c.requires.unused c.in_ok-under.under
    c.in_ok-reached.reached c.in_ok-under.ensures.under c.in_ok-reached.ensures.reached c.cut_all.new.ctx
    c.cut_all.ensures.cut c.cut_all.ensures.none c.erase_all.new.ctx c.erase_all.ensures in
    all-reached effect ends s root forest c.requires.live c.requires.unused c.erase_all.new.ctx
    c.erase_all.ensures.forest left

pub returns-clause-none_dead : goal.returns-clause-none_dead
returns-clause-none_dead g c =
    let effect = g.D.EffectSet.has_effect in
    let ends = g.D.OpSet.is_terminator in
    let s = c.args.ctx.now in
    let root = c.args.root in
    let t = c.erase_all.new.ctx in
    let forest = c.stands.ensures.standing.forest in
    let left = all-left effect ends s root forest c.requires.live c.requires.unused c.in_ok-under.under
    c.in_ok-reached.reached c.in_ok-under.ensures.under c.in_ok-reached.ensures.reached c.cut_all.new.ctx
    c.cut_all.ensures.cut c.cut_all.ensures.none t c.erase_all.ensures in
    let all = all-reached effect ends s root forest c.requires.live c.requires.unused t c.erase_all.ensures.forest
    left in
    none-dead t c.stands-2.ensures.standing effect ends root
    ((left.ops root (zero, refl)).1 (zero, ((zero, refl), inl refl))) all
