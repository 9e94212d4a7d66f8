use Rattle.std.proofs.{Common.◌<◌, Common.◌^◌, Common.refl, Common.arith, lemmas.List.Elements.All-from_get_or}
use Rattle.plir_attr_text.proofs.writable.are_u32.Goals as goal

pub returns : goal.returns
returns c = (
  λ t. All-from_get_or (λ n. n < 2 ^ 32) c.args.sizes.now 0 (λ i within. omega (arith, c.type_inv.sizes i)),
  λ all. refl,
)
