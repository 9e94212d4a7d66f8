use Rattle.std.proofs.Common.{rules, Bor, ◌≡◌, ◌∙◌, true≢false, ◌++◌, ◌∷◌, [], map, sym, subst, refl, arith}
use Rattle.std.specs.Prelude.{IfSome}
use Rattle.std.specs.Map.Iter.{deref_pair}
use Rattle.std.proofs.lemmas.List.Elements.{All-push, All-same}
use Rattle.std.proofs.lemmas.Map.Entries.{All-lookup}
use Rattle.std.proofs.lemmas.Map.Iter.{hash_map_turn, iter_end}
use Rattle.plir_core.specs.declared.value.Value.{Value}
use Rattle.plir_core.specs.ContextView.{IsValueLive}
use Rattle.plir_core.specs.SameValue.{same_value}
use Rattle.plir_copies.proofs.Lists.{map-last}
use Rattle.plir_copies.proofs.Lookups.{value_alike, value_found}
use Rattle.plir_copies.proofs.liveness.are_values_live.Goals as goal

pub returns-then-not-is_live : goal.returns-then-not-is_live
returns-then-not-is_live g c =
    let k =
    hash_map_turn deref_pair c.entries.yielded c.into_iter-from-iterator.result c.entries._from-iterator
    c.next.new.self c.next.result (c.in-Some._from, c.in-Some.to) c.entries.yielded_by c.in-Some.is
    c.next.ensures.steps value_alike c.args.values.now (search rules) (search rules) in (
      λ h. absurd (true≢false (sym h)),
      λ p.
          let live = p c.in-Some._from.now c.in-Some.to.now (sym (value_found c.args.values.now c.in-Some._from.now) ∙ k.1) in
          grind (arith, live, c.is_live.ensures.value, c.if-not-is_live.true),
    )

pub entries-preserved : goal.entries-preserved
entries-preserved g c =
    let live : IsValueLive c.args.ctx.now c.in-Some.to.now = grind (arith, c.is_live.ensures.value, c.if-not-is_live.false) in
    let x : Bor (Value) × Bor (Value) = (c.in-Some._from, c.in-Some.to) in
    let holds : (Value) × (Value) → Type 0 = λ e. IsValueLive c.args.ctx.now e.1 in
    All-same holds (map deref_pair (c.entries.yielded ++ x ∷ [])) (map deref_pair c.entries.yielded ++ deref_pair x ∷ [])
    (map-last deref_pair c.entries.yielded x)
    (All-push holds (map deref_pair c.entries.yielded) (deref_pair x) c.entries.invariant live)

pub returns : goal.returns
returns g c =
    let all : map deref_pair c.entries.yielded ≡ c.args.values.now.entries = search (rules, iter_end) in
    let one : Value → Type 0 = λ v. IsValueLive c.args.ctx.now v in
    let live = All-same (λ e. one e.1) c.args.values.now.entries (map deref_pair c.entries.yielded) (sym all)
    c.entries.invariant in
    (λ h v w e. subst (λ o. IfSome o one) e (All-lookup one (same_value v) c.args.values.now.entries live), λ p. refl)
