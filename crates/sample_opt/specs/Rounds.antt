-- Sweeps, one after another.
use Rattle.std.specs.Prelude.{◌≡◌, ℕ, zero, suc, Bool, codes}
use Rattle.plir_core.specs.declared.ptr.IRNode.{IRNode}
use Rattle.plir_core.specs.ContextView.{ContextView}
use Rattle.plir_pipelines.specs.Options.{OptionRule}
use Rattle.dce.specs.Swept.{IsSweptBelow}

-- the option that says how many there are
abbrev pub rounds_rule : OptionRule
rounds_rule = record { name = codes "rounds"; least = 1; most = 100; default = 1 }

-- From s to t what is below a node was swept so many times.
abbrev pub AreSwept : {K A T : Type 0} → (has_effect is_terminator : K → Bool) → IRNode → ℕ → ContextView K A T →
    ContextView K A T → Type 0
AreSwept effect ends n zero s t = t ≡ s
AreSwept {K} {A} {T} effect ends n (suc k) s t =
    (u : ContextView K A T) × AreSwept effect ends n k s u × IsSweptBelow effect ends n u t
