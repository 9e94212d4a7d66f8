-- Options with their numbers and passes, as far as a loop has come.
use Rattle.std.proofs.Common.{◌≡◌, ℕ, ◌+◌, ◌<◌, ◌≤◌, below_more, true, false, List, [], ◌∷◌, ◌++◌, length}
use Rattle.std.proofs.Common.{drop, take, get_or, map, Bor, arith, refl, sym, subst, ap, ◌∙◌, length-append}
use Rattle.std.proofs.lemmas.List.{get_or_append_left, take-append-le}
use Rattle.std.proofs.Math.Seq.{get_or-append_seam, take-append_seam}
use Rattle.plir_pipelines.specs.declared.step.Setting.{Setting}
use Rattle.plir_pipelines.specs.declared.step.Step.{Step}
use Rattle.plir_pipelines.specs.declared.step.StepErr.{StepErr}
use Rattle.plir_pipelines.specs.declared.step.StepErr.TheVariants.{Unclosed, NoSetting, NoNumber, Twice, OutOfMemory}
use Rattle.plir_pipelines.specs.Settings.{AreOnce, AreRefused, AreSettings, IsMalformed, IsSetting, IsWrong, is_set, setting_words}
use Rattle.plir_pipelines.specs.Pipelines.{AreSteps, AreStepsRefused, IsBraced, IsStepRefused}
use Rattle.std.specs.Str.{IsTrimAscii}
use Rattle.plir_pipelines.proofs.Zipped.{words-parted, zip-next}

-- one more, of an option that none of the others is of
once-push : (ss : List Setting) (s : Setting) → AreOnce ss → is_set ss s.name.now ≡ false → AreOnce (ss ++ s ∷ [])
once-push ss s once new k d below =
    let all = ss ++ s ∷ [] in
    below_more (λ j. is_set (take j all) (get_or all j d).name.now ≡ false) (length ss)
    (λ j less.
    (let short : j ≤ length ss = omega (arith, less) in
    ap (λ z. is_set z (get_or all j d).name.now) (take-append-le j ss (s ∷ []) short)
    ∙ ap (λ z. is_set (take j ss) z.name.now) (get_or_append_left ss (s ∷ []) d j less) ∙ once j d less))
    (ap (λ z. is_set z (get_or all (length ss) d).name.now) (take-append_seam ss (s ∷ []))
    ∙ ap (λ z. is_set ss z.name.now) (get_or-append_seam ss s [] d) ∙ new)
    k (omega (arith, length-append ss (s ∷ []), below))

module _ (ws : List (Bor (List ℕ))) (i : ℕ) (d : Bor (List ℕ)) (below : i < length ws) where
  module _ (ss : List Setting) (so_far : AreSettings (map (λ w. w.now) (take i ws)) ss) where
    -- a word further
    pub settings-next : (more : List Setting) (s : Setting) → more ≡ ss ++ s ∷ [] →
        IsSetting (get_or ws i d).now s → is_set ss s.name.now ≡ false →
        AreSettings (map (λ w. w.now) (take (i + 1) ws)) more
    settings-next more s put here new = record {
      each = zip-next ws i d IsSetting ss more s put below so_far.each here;
      once = subst AreOnce (sym put) (once-push ss s so_far.once new);
    }

    -- the word at a place is wrong
    wrong-at : (e : StepErr) → IsWrong ss (get_or ws i d).now e →
        (front : List (List ℕ)) × (word : List ℕ) × (back : List (List ℕ)) × (settings : List Setting) ×
        (map (λ w. w.now) ws ≡ front ++ word ∷ back) × AreSettings front settings × IsWrong settings word e
    wrong-at e wrong = (
      map (λ w. w.now) (take i ws),
      (get_or ws i d).now,
      map (λ w. w.now) (drop (i + 1) ws),
      ss,
      words-parted ws i d below,
      so_far,
      wrong,
    )

    -- it is no option with a number
    pub malformed-at : (e : StepErr) → IsMalformed (get_or ws i d).now e → AreRefused (map (λ w. w.now) ws) e
    malformed-at (Unclosed step) h = absurd h
    malformed-at (NoSetting word) h = wrong-at (NoSetting word) h
    malformed-at (NoNumber name number) h = wrong-at (NoNumber name number) h
    malformed-at (Twice name) h = absurd h
    malformed-at OutOfMemory h = tt

    -- it is of an option that one in front of it is of
    pub twice-at : (s : Setting) → IsSetting (get_or ws i d).now s → is_set ss s.name.now ≡ true →
        AreRefused (map (λ w. w.now) ws) (Twice s.name)
    twice-at s here old = wrong-at (Twice s.name) (s, here, refl, old)

  -- the word at a place is no pass
  pub step-refused-at : (steps : List Step) → AreSteps (map (λ w. w.now) (take i ws)) steps → (e : StepErr) →
      IsStepRefused (get_or ws i d).now e → AreStepsRefused (map (λ w. w.now) ws) e
  step-refused-at steps so_far e h = by e h
    where
      refused : (e : StepErr) → IsStepRefused (get_or ws i d).now e →
          (front : List (List ℕ)) × (word : List ℕ) × (back : List (List ℕ)) × (steps : List Step) ×
          (map (λ w. w.now) ws ≡ front ++ word ∷ back) × AreSteps front steps × IsStepRefused word e
      refused e h = (
        map (λ w. w.now) (take i ws),
        (get_or ws i d).now,
        map (λ w. w.now) (drop (i + 1) ws),
        steps,
        words-parted ws i d below,
        so_far,
        h,
      )

      by : (e : StepErr) → IsStepRefused (get_or ws i d).now e → AreStepsRefused (map (λ w. w.now) ws) e
      by (Unclosed step) h = refused (Unclosed step) h
      by (NoSetting word) h = refused (NoSetting word) h
      by (NoNumber name number) h = refused (NoNumber name number) h
      by (Twice name) h = refused (Twice name) h
      by OutOfMemory h = tt

-- what stands in the braces of a word is refused
pub settings-refused : (word text front inside : List ℕ) → IsTrimAscii word text → IsBraced text front inside →
    (e : StepErr) → AreRefused (setting_words inside) e → IsStepRefused word e
settings-refused word text front inside trimmed braced (NoSetting w) h = (text, front, inside, trimmed, braced, h)
settings-refused word text front inside trimmed braced (NoNumber name number) h =
    (text, front, inside, trimmed, braced, h)
settings-refused word text front inside trimmed braced (Twice name) h = (text, front, inside, trimmed, braced, h)
settings-refused word text front inside trimmed braced (Unclosed step) h =
    absurd h.6
settings-refused word text front inside trimmed braced OutOfMemory h = tt
