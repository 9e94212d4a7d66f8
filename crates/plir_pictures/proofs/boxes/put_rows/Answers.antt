use Rattle.std.proofs.Common.{string_bytes, ◌∙◌}
use Rattle.plir_core.specs.declared.ptr.IRNode.TheVariants.{BasicBlock}
use Rattle.plir_pictures.proofs.Rows.{passing-cut, passing-end, passing-falls, passing-live, passing-more}
use Rattle.plir_pictures.proofs.Rows.{passing-start, rest}
use Rattle.plir_pictures.proofs.boxes.put_rows.Goals as goal

pub rows-init : goal.rows-init
rows-init g c = passing-start (string_bytes c.args.out.now) _ c.first_child-at.ensures

pub put_row_at-requires : goal.put_row_at-requires
put_row_at-requires g c = passing-live c.rows.invariant c.in-Some.node c.in-Some.is c.stands.ensures

pub next_sibling-at-requires : goal.next_sibling-at-requires
next_sibling-at-requires g c = passing-live c.rows.invariant c.in-Some.node c.in-Some.is c.stands.ensures

pub rows-preserved : goal.rows-preserved
rows-preserved g c =
    let r = c.rows.invariant in
    let node = c.in-Some.node in
    let is = c.in-Some.is in
    passing-more r node is _ c.next_sibling-at.result
    (c.next_sibling-at.ensures.value ∙ c.next_is_behind.ensures (BasicBlock c.args.block) r.passed (rest r node is).0
    (passing-cut r node is)) c.in_ok-put_row_at.ensures

pub rows-smaller : goal.rows-smaller
rows-smaller g c =
    let r = c.rows.invariant in
    let node = c.in-Some.node in
    let is = c.in-Some.is in
    passing-falls r node is c.stands.ensures c.next_sibling-at.result
    (c.next_sibling-at.ensures.value ∙ c.next_is_behind.ensures (BasicBlock c.args.block) r.passed (rest r node is).0
    (passing-cut r node is))

pub returns : goal.returns
returns g c = passing-end c.rows.invariant c.in_default.is
