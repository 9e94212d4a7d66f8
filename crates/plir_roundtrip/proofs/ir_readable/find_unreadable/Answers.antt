use Rattle.std.proofs.Common.{◌≡◌, sym, subst}
use Rattle.plir_core.specs.ContextView.{IsLive}
use Rattle.plir_roundtrip.specs.Obstacles.{IsFirstUnread, IsIrNodeReadable, IsNodeCounted}
use Rattle.plir_roundtrip.specs.ReadableParts.{IsLookAnswer}
use Rattle.plir_roundtrip.proofs.Obstructed.{all_looked_at}
use Rattle.plir_roundtrip.proofs.ReadableCalls.{broke_off, went_on}
use Rattle.plir_roundtrip.proofs.ir_readable.find_unreadable.Goals as goal

pub walk_op-requires-clause-callable : goal.walk_op-requires-clause-callable
walk_op-requires-clause-callable g c = λ d s n e st. subst (λ z. IsLive z n) (sym e) st.live

pub returns-in-Break : goal.returns-in-Break
returns-in-Break g c =
    let o = g.D.OpSet in
    let f = g.D.ReadSet.find_kind in
    let found =
    broke_off _ _ (λ s n. IsIrNodeReadable o f s n × IsNodeCounted o f s n)
    (λ s n b. (b ≡ n) × (IsIrNodeReadable o f s b → ⊥))
    (λ d s n a d' s' h. (
      h.stays,
      subst (λ z. IsLookAnswer (IsIrNodeReadable o f z n × IsNodeCounted o f z n)
          (λ b. (b ≡ n) × (IsIrNodeReadable o f z b → ⊥)) a) h.shows.0 h.met.1,
    ))
    c.args.ctx.now c.args.op _ _ _ _ c.in-Break.is c.walk_op.ensures in
    let is = found.found.0 in
    subst (IsFirstUnread o f c.args.ctx.now c.args.op) (sym is) (record {
      within = found.under;
      unread = subst (λ z. IsIrNodeReadable o f c.args.ctx.now z → ⊥) is found.found.1;
      others = λ m u before other. (found.others m u before other).0;
    })

pub returns-in-Continue : goal.returns-in-Continue
returns-in-Continue g c =
    let o = g.D.OpSet in
    let f = g.D.ReadSet.find_kind in
    all_looked_at o f g.D.ReadSet.is_isolated c.args.ctx.now c.args.op
    (went_on _ _ (λ s n. IsIrNodeReadable o f s n × IsNodeCounted o f s n)
    (λ s n b. (b ≡ n) × (IsIrNodeReadable o f s b → ⊥))
    (λ d s n a d' s' h. (
      h.stays,
      subst (λ z. IsLookAnswer (IsIrNodeReadable o f z n × IsNodeCounted o f z n)
          (λ b. (b ≡ n) × (IsIrNodeReadable o f z b → ⊥)) a) h.shows.0 h.met.1,
    ))
    c.args.ctx.now c.args.op _ _ _ _ c.in-Continue.is c.walk_op.ensures)
