use Rattle.std.proofs.Common.{◌<◌, ◌∙◌, Err, ap, length, subst, sym}
use Rattle.std.specs.Prelude.{Vec, slice_set}
use Rattle.std.specs.declared.alloc.Global.{Global}
use Rattle.std.proofs.lemmas.Option.{slice_get_within}
use Rattle.plir_core.specs.declared.ptr.BasicBlock.{BasicBlock as BlockKind}
use Rattle.plir_core.specs.declared.ptr.Ptr.{Ptr}
use Rattle.plir_core.specs.declared.ptr.IRNode.TheVariants.{Operation}
use Rattle.plir_arguments.specs.Listed.{AreBlocksBelow, num_arguments}
use Rattle.plir_arguments.specs.Steps.{AreCutShort}
use Rattle.plir_arguments.specs.Turned.{AreUses}
use Rattle.plir_arguments.proofs.Going.{can-below, cut-at-once, cut-behind, cut-here, if-err, of-successors, one-step}
use Rattle.plir_arguments.proofs.Going.{refusal}
use Rattle.plir_arguments.proofs.Renamed.{arguments-less, blocks-below}
use Rattle.plir_arguments.proofs.Uses.{are-uses}
use Rattle.plir_arguments.proofs.dropping_all.drop_found.Goals as goal

pub put_sources-requires : goal.put_sources-requires
put_sources-requires g c =
    let s = c.args.ctx.now in
    let b = c.args.found.block in
    of-successors s b _ (subst (AreUses s b) (sym (c.deref.ensures.value ∙ c.in_ok-uses.ensures.uses)) (are-uses s b))

pub drop_argument-requires : goal.drop_argument-requires
drop_argument-requires g c = c.requires.found.can

pub replace-requires : goal.replace-requires
replace-requires g c =
    let bs = c.args.blocks.now.list.items in
    subst (λ (l : Vec (Ptr BlockKind) Global). c.args.found.at < length l.items) (sym c.put_sources.ensures)
    (slice_get_within bs c.args.found.at c.args.found.block c.requires.found.at)

pub returns-in_err-uses-clause-err : goal.returns-in_err-uses-clause-err
returns-in_err-uses-clause-err g c =
    let P = AreCutShort g.D.BranchEditSet.removes g.D.BranchSet.forwards c.args.root g.D.BranchEditSet.layout_keys
    c.args.ctx.now c.args.ctx.now in
    if-err P c.from_residual.result c.from_residual.ensures.1 (λ y q. subst P (sym q)
    (cut-at-once g.D.BranchEditSet.removes g.D.BranchSet.forwards c.args.root g.D.BranchEditSet.layout_keys
    c.args.ctx.now))

pub returns-in_err-put_sources-clause-err : goal.returns-in_err-put_sources-clause-err
returns-in_err-put_sources-clause-err g c =
    let P = AreCutShort g.D.BranchEditSet.removes g.D.BranchSet.forwards c.args.root g.D.BranchEditSet.layout_keys
    c.args.ctx.now c.args.ctx.now in
    if-err P c.from_residual-in_err-put_sources.result c.from_residual-in_err-put_sources.ensures.1 (λ y q. subst P (sym q)
    (cut-at-once g.D.BranchEditSet.removes g.D.BranchSet.forwards c.args.root g.D.BranchEditSet.layout_keys
    c.args.ctx.now))

pub returns-in_err-other-clause-err : goal.returns-in_err-other-clause-err
returns-in_err-other-clause-err g c =
    let removes = g.D.BranchEditSet.removes in
    let forwards = g.D.BranchSet.forwards in
    let keys = g.D.BranchEditSet.layout_keys in
    let s = c.args.ctx.now in
    let t = c.drop_argument.new.ctx in
    let b = c.args.found.block in
    let i = c.args.found.place in
    let e = c.in_err-other.field-0.0 in
    let can = can-below removes forwards c.args.root s c.args.blocks.now.list.items c.args.found c.requires.below
    c.requires.found in
    let P = AreCutShort removes forwards c.args.root keys s t in
    if-err P c.from_residual-in_err-other.result c.from_residual-in_err-other.ensures.1 (λ y q. subst P (sym q)
    (cut-here removes forwards c.args.root keys s t e
    (refusal removes forwards c.args.root keys s b i e can
    (λ is. c.in_err-other.ensures.too_many_only (ap Err is)))
    c.in_err-other.ensures.err))

pub returns-in_err-other-clause-root_live : goal.returns-in_err-other-clause-root_live
returns-in_err-other-clause-root_live g c =
    c.in_err-other.ensures.err.nodes.live (Operation c.args.root) ∙ c.requires.root_live

pub returns-in_err-replace-clause-err : goal.returns-in_err-replace-clause-err
returns-in_err-replace-clause-err g c =
    let removes = g.D.BranchEditSet.removes in
    let forwards = g.D.BranchSet.forwards in
    let keys = g.D.BranchEditSet.layout_keys in
    let s = c.args.ctx.now in
    let t = c.drop_argument.new.ctx in
    let can = can-below removes forwards c.args.root s c.args.blocks.now.list.items c.args.found c.requires.below
    c.requires.found in
    let P = AreCutShort removes forwards c.args.root keys s t in
    if-err P c.from_residual-in_err-replace.result c.from_residual-in_err-replace.ensures.1 (λ y q. subst P (sym q)
    (cut-behind removes forwards c.args.root keys s t
    (one-step removes forwards c.args.root keys s t c.args.found.block c.in_ok-other.other c.args.found.place can
    c.in_ok-other.ensures.ok)))

pub returns-in_err-replace-clause-root_live : goal.returns-in_err-replace-clause-root_live
returns-in_err-replace-clause-root_live g c =
    c.in_ok-other.ensures.ok.live (Operation c.args.root) (λ e. cc e) (λ e. cc e) ∙ c.requires.root_live

pub returns-clause-one : goal.returns-clause-one
returns-clause-one g c =
    let removes = g.D.BranchEditSet.removes in
    let forwards = g.D.BranchSet.forwards in
    let s = c.args.ctx.now in
    let can = can-below removes forwards c.args.root s c.args.blocks.now.list.items c.args.found c.requires.below
    c.requires.found in
    one-step removes forwards c.args.root g.D.BranchEditSet.layout_keys s c.drop_argument.new.ctx c.args.found.block
    c.in_ok-other.other c.args.found.place can c.in_ok-other.ensures.ok

pub returns-clause-below : goal.returns-clause-below
returns-clause-below g c =
    let bs = c.args.blocks.now.list.items in
    let at = c.args.found.at in
    let other = c.in_ok-other.other in
    let behind = c.requires.found.can.behind in
    let t = c.drop_argument.new.ctx in
    let is = c.replace.ensures
    ∙ ap (λ (l : Vec (Ptr BlockKind) Global). slice_set l.items at other) c.put_sources.ensures in
    subst (AreBlocksBelow t c.args.root) (sym is)
    (blocks-below g.D.BranchEditSet.layout_keys g.D.BranchSet.forwards c.args.ctx.now t c.args.found.block other
    c.args.found.place c.in_ok-other.ensures.ok c.stands.ensures.standing behind.over behind.here c.args.root
    c.requires.root_live bs at c.requires.found.at c.requires.below)

pub returns-clause-less : goal.returns-clause-less
returns-clause-less g c =
    let s = c.args.ctx.now in
    let bs = c.args.blocks.now.list.items in
    let at = c.args.found.at in
    let other = c.in_ok-other.other in
    let can = c.requires.found.can in
    let t = c.drop_argument.new.ctx in
    let is = c.replace.ensures
    ∙ ap (λ (l : Vec (Ptr BlockKind) Global). slice_set l.items at other) c.put_sources.ensures in
    subst (λ cs. num_arguments t cs < num_arguments s bs) (sym is)
    (arguments-less g.D.BranchEditSet.layout_keys g.D.BranchSet.forwards s t c.args.found.block other
    c.args.found.place c.in_ok-other.ensures.ok c.stands.ensures.standing can.behind.over can.behind.here c.args.root
    c.requires.root_live bs at c.requires.found.at c.requires.below can.below)

pub returns-clause-root_live : goal.returns-clause-root_live
returns-clause-root_live g c =
    c.in_ok-other.ensures.ok.live (Operation c.args.root) (λ e. cc e) (λ e. cc e) ∙ c.requires.root_live
