use Rattle.std.proofs.Common.{map, take}
use Rattle.plir_pipelines.specs.Settings.{AreSettings}
use Rattle.plir_pipelines.proofs.settings.settings_in.Given as goal

-- the words so far are the options and numbers so far
abbrev pub invariant-loop-word : goal.invariant-loop-word
invariant-loop-word l = AreSettings (map (λ w. w.now) (take l.word-index l.words)) l.settings.items
