use Rattle.std.proofs.Common.{◌≡◌, ◌++◌, map, take, string_bytes}
use Rattle.plir_pipelines.specs.Flags.{flags_of_pass}
use Rattle.plir_pipelines.specs.Options.{rule_of}
use Rattle.plir_pipelines.proofs.flags.put_flags.Given as goal

-- the flags of the options so far are put
abbrev pub invariant-loop-option : goal.invariant-loop-option
invariant-loop-option g l =
    map (λ f. string_bytes f.text) l.flags.items ≡ map (λ f. string_bytes f.text) l.fn.flags.items
    ++ flags_of_pass l.name (map rule_of (take l.option-index l.option-items))
