use Rattle.plir_read.proofs.NamesGiven.{IsSought-on}
use Rattle.plir_read.proofs.names.before_suffix.Goals as goal
use Rattle.std.proofs.Common.{◌∙◌, sym}

pub bytes-preserved : goal.bytes-preserved
bytes-preserved c = IsSought-on c.args.suffix _ _ c.bytes.invariant c.in-len1-up.len_at_least
    (sym c.is_joined_suffix.ensures ∙ c.if-is_joined_suffix.false)
