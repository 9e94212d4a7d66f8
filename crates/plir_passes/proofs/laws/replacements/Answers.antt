use Rattle.std.proofs.Common.{ap, ◌∙◌}
use Rattle.plir_core.specs.declared.ptr.IRNode.TheVariants.{Operation, BasicBlock}
use Rattle.plir_core.specs.ContextView.{kind_in}
use Rattle.plir_walk.specs.AdditionLaws.{new-before}
use Rattle.plir_passes.specs.Kept.{same-types}
use Rattle.plir_passes.specs.Legal.{is_kind}
use Rattle.plir_passes.proofs.Preparing.{op-live, prepared-begun, prepared-both, prepared-erased}
use Rattle.plir_passes.proofs.Preparing.{prepared-replaced, prepared-rewired, prepared-unmade, rewriting-both}
use Rattle.plir_passes.proofs.Preparing.{same-results, same-value-in}
use Rattle.plir_passes.proofs.Replacing.{rewriting-refused, prepared-added}
use Rattle.plir_passes.proofs.SoleResults.{replaced-unused}
use Rattle.plir_passes.proofs.laws.replacements.Goals as goal

pub returns : goal.returns
returns g c =
    let laws = c.lawful_changes.ensures in
    record {
      refused =
          λ illegal s t b op w same given.
          rewriting-refused illegal s t b op (laws.forest s w) (laws.refused s t (BasicBlock b) same given) same;
      added = λ illegal s t u b op x w w' here made types legal placed put.
          (let f = prepared-added illegal _ laws s t u b op x (laws.forest s w) here made types placed put
          (laws.forest u w') legal in
          (f.rewriting, f.live (Operation op) (op-live s b op (laws.forest s w) here)));
      replaced = λ illegal s t u v b op x w w' w'' here made types legal placed put erased freed.
          (let f = prepared-added illegal _ laws s t u b op x (laws.forest s w) here made types placed put
          (laws.forest u w') legal in
          let still = f.parents (Operation op) (op-live s b op (laws.forest s w) here) ∙ here in (
            prepared-erased illegal _ laws u v b op (laws.forest u w') (laws.forest v w'') still erased freed s
                (laws.forest s w) f,
            prepared-replaced illegal _ laws u v b op (laws.forest u w') (laws.forest v w'') still erased freed s
                (laws.forest s w) f,
          ));
      begun = λ illegal s b op. prepared-begun illegal _ laws s b op;
      unmade = λ illegal s t b op w same given.
          prepared-unmade illegal _ laws s t b op (laws.forest s w) (laws.refused s t (BasicBlock b) same given) same;
      prepared = λ illegal s t u b op x w w' here made types legal placed put.
          prepared-added illegal _ laws s t u b op x (laws.forest s w) here made types placed put (laws.forest u w')
          legal;
      put = λ illegal s u b op x v n w w' here legal f.
          (let at = new-before s f.with_new u (Operation x) (Operation op) (BasicBlock b) (laws.forest s w) here
          f.made.made f.placed in (
            prepared-added illegal _ laws s f.with_new u b op x (laws.forest s w) here f.made.made
                (same-types s f.with_new (ap (λ z. z.types) f.made.after)) f.placed f.after (laws.forest u w')
                (ap (λ z. is_kind illegal (kind_in z)) f.made.held ∙ legal),
            at.root,
            at.held x ∙ f.made.held,
          ));
      rewired = λ illegal s t b op v w from r. prepared-rewired illegal _ laws s t b op v w from r;
      then = λ illegal s t u b op w f h. prepared-both illegal _ laws s t u b op (laws.forest s w) f h;
      value = λ illegal s t b op v f l. same-value-in illegal s t b op f v l;
      results = λ illegal s t b op p f l. same-results illegal s t b op f p l;
      unused = λ s t op x w single none apart r. replaced-unused _ s t op x (laws.forest t w) w single none apart r;
      erased = λ illegal s t u b op w w' w'' here f erased freed.
          (let still = f.parents (Operation op) (op-live s b op (laws.forest s w) here) ∙ here in (
            prepared-erased illegal _ laws t u b op (laws.forest t w') (laws.forest u w'') still erased freed s
                (laws.forest s w) f,
            prepared-replaced illegal _ laws t u b op (laws.forest t w') (laws.forest u w'') still erased freed s
                (laws.forest s w) f,
          ));
      both = λ illegal s t u b op w f h. rewriting-both illegal _ laws s t u b op (laws.forest s w) f h;
    }
