use Rattle.std.proofs.Common.{◌≡◌, None, Some, sym, ◌∙◌}
use Rattle.std.specs.HashMap.{get}
use Rattle.plir_folding.specs.Merging.{attr_eq}
use Rattle.plir_folding.proofs.Firsts.{firsts-other, firsts-put, firsts-seen, listed-first, listed-later, listed-other}
use Rattle.plir_folding.proofs.Firsts.{listed-unused}
use Rattle.plir_folding.proofs.merging.note.Goals as goal

pub returns-in_default : goal.returns-in_default
returns-in_default g c = record {
  firsts = λ ns h. firsts-other c.args.ctx.now ns c.args.op c.args.firsts.now c.in_default.ensures h;
  merges = λ ns ms₀ fresh h l.
      listed-other c.args.ctx.now ns c.args.op ms₀ c.args.merges.now.items l c.in_default.ensures;
}

pub returns-in_default-copied : goal.returns-in_default-copied
returns-in_default-copied g c =
    let s = c.args.ctx.now in
    let fs = c.args.firsts.now in
    let a = c.in-Some.integer in
    let none : None ≡ get attr_eq fs a = sym c.in_default-copied.is ∙ c.copied.ensures ∙ c.get.ensures.value in
    record {
      firsts = λ ns h.
          firsts-put s ns c.args.op a c.in-Some.ensures fs c.insert.new.self c.get_result-result.result
          c.get_result-result.ensures.value none c.in_ok-insert.ensures.updates.0 h;
      merges = λ ns ms₀ fresh h l.
          listed-first s ns c.args.op ms₀ c.args.merges.now.items l fs h a c.in-Some.ensures none;
    }

pub returns-in_ok-push : goal.returns-in_ok-push
returns-in_ok-push g c =
    let s = c.args.ctx.now in
    let fs = c.args.firsts.now in
    let a = c.in-Some.integer in
    let w = c.in-Some-copied.first in
    let seen : Some w ≡ get attr_eq fs a = sym c.in-Some-copied.is ∙ c.copied.ensures ∙ c.get.ensures.value in
    record {
      firsts = λ ns h. firsts-seen s ns c.args.op a c.in-Some.ensures fs w seen h;
      merges = λ ns ms₀ fresh h l.
          listed-later s ns c.args.op ms₀ c.args.merges.now.items l fs h a c.in-Some.ensures
          c.get_result-result.result c.get_result-result.ensures.value fresh
          (c.has_uses.ensures.value.0 c.if-has_uses.true) w seen c.push.new.self.items c.in_ok-push.ensures.items;
    }

pub returns-else-has_uses : goal.returns-else-has_uses
returns-else-has_uses g c =
    let s = c.args.ctx.now in
    let fs = c.args.firsts.now in
    let a = c.in-Some.integer in
    let w = c.in-Some-copied.first in
    let seen : Some w ≡ get attr_eq fs a = sym c.in-Some-copied.is ∙ c.copied.ensures ∙ c.get.ensures.value in
    record {
      firsts = λ ns h. firsts-seen s ns c.args.op a c.in-Some.ensures fs w seen h;
      merges = λ ns ms₀ fresh h l.
          listed-unused s ns c.args.op ms₀ c.args.merges.now.items l fs h a c.in-Some.ensures
          c.get_result-result.result c.get_result-result.ensures.value
          (λ u. let z : ⊥ = cc (c.has_uses.ensures.value.1 u, c.if-has_uses.false) in z);
    }
