use Rattle.std.proofs.Common.{◌↔◌, ◌<◌, ◌^◌, All, IsTrue, subst, ◌∙◌}
use Rattle.plir_attr_text.proofs.writable.are_sizes.Goals as goal

pub returns : goal.returns
returns c = subst (λ ns. IsTrue c.are_u32.result ↔ All (λ n. n < 2 ^ 32) ns)
    (c.as_slice.ensures.value ∙ c.value.view_is) c.are_u32.ensures
