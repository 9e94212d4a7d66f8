use Rattle.std.proofs.Common.{◌≡◌, ◌↔◌, ◌∙◌, ◌++◌, IsTrue, sym, subst, rules, true≢false}
use Rattle.std.proofs.lemmas.List.Elements.{All-append}
use Rattle.plir_data.specs.LiveLaws.{all_left, all_right}
use Rattle.plir_data.specs.Types.{IsLive, AllLive}
use Rattle.plir_tests.specs.Holders.{handles_of}
use Rattle.plir_tests.proofs.holder_set.HolderSetOpSet.is_type_live.Goals as goal

pub returns-then-holds_types : goal.returns-then-holds_types
returns-then-holds_types g c =
    let types = g.C.TypeStore.types c.args.ctx.now in
    let arguments = c.as_slice.result.now in
    let results = c.as_slice-then-holds_types.result.now in
    let is : handles_of c.args.ty.now ≡ arguments ++ results = search rules in
    let both : IsTrue c.holds_types-then-holds_types.result ↔ AllLive types (arguments ++ results) = (
      λ t. All-append (IsLive types) arguments results (c.holds_types.ensures.0 c.if-holds_types.true)
          (c.holds_types-then-holds_types.ensures.0 t),
      λ h. c.holds_types-then-holds_types.ensures.1 (all_right (IsLive types) arguments results h),
    ) in
    subst (λ hs. IsTrue c.holds_types-then-holds_types.result ↔ AllLive types hs) (sym is) both

pub returns-else-holds_types : goal.returns-else-holds_types
returns-else-holds_types g c =
    let types = g.C.TypeStore.types c.args.ctx.now in
    let arguments = c.as_slice.result.now in
    let results = c.in-Routine.signature.1 in
    let is : handles_of c.args.ty.now ≡ arguments ++ results = search rules in
    let neither : IsTrue c.holds_types.result ↔ AllLive types (arguments ++ results) = (
      λ t. absurd (true≢false (sym t ∙ c.if-holds_types.false)),
      λ h. c.holds_types.ensures.1 (all_left (IsLive types) arguments results h),
    ) in
    subst (λ hs. IsTrue c.holds_types.result ↔ AllLive types hs) (sym is) neither
