use Rattle.std.proofs.Common.{◌≡◌, ◌++◌, ◌∷◌, [], List, Bool, not, ap, sym, subst, ◌∙◌}
use Rattle.std.proofs.lemmas.Bool.{cond-true, cond-false}
use Rattle.std.specs.List.{list_any}
use Rattle.plir_flow.specs.Taken.{IsOnceEach}
use Rattle.plir_flow.proofs.TakenLists.{once-more, fresh-says, twice-says, put-told}
use Rattle.plir_flow.proofs.once.Once.add.Goals as goal

-- what the set of the same values told of one
told : {A : Type 0} (test : A → Bool) (ys zs : List A) (known fresh : Bool) → fresh ≡ not known → known ≡ list_any test ys
    → ys ≡ zs → fresh ≡ not (list_any test zs)
told test ys zs known fresh f k is = f ∙ ap not k ∙ ap (λ l. not (list_any test l)) is

pub returns-then-not-branch-clause-once : goal.returns-then-not-branch-clause-once
returns-then-not-branch-clause-once g c xs w =
    subst (IsOnceEach (xs ++ c.args.value ∷ []))
    (put-told c.args.value c.args.self.now c.reserve.new.self.items _ c.in_ok-insert.field-0
    (told _ _ _ _ _ c.in_ok-insert.ensures.added (c.self.invariant c.args.value) c.self.view_is)
    (c.reserve.ensures.items ∙ c.self.view_is ∙ sym (cond-false _ _ _ c.if-not-branch.true)))
    (once-more g.T.PartialEq.eq c.requires xs c.args.self.now c.args.value w)

pub returns-then-not-branch-clause-twice : goal.returns-then-not-branch-clause-twice
returns-then-not-branch-clause-twice g c is =
    twice-says g.T.PartialEq.eq c.requires c.args.value c.args.self.now c.in_ok-insert.field-0
    (told _ _ _ _ _ c.in_ok-insert.ensures.added (c.self.invariant c.args.value) c.self.view_is) c.if-not-branch.true

pub returns-clause-once : goal.returns-clause-once
returns-clause-once g c xs w =
    subst (IsOnceEach (xs ++ c.args.value ∷ []))
    (put-told c.args.value c.args.self.now c.push.new.self.items _ c.in_ok-insert.field-0
    (told _ _ _ _ _ c.in_ok-insert.ensures.added (c.self.invariant c.args.value) c.self.view_is)
    (c.in_ok-push.ensures.items ∙ ap (λ ys. ys ++ c.args.value ∷ []) (c.reserve.ensures.items ∙ c.self.view_is)
    ∙ sym (cond-true _ _ _ c.if-not-branch.false)))
    (once-more g.T.PartialEq.eq c.requires xs c.args.self.now c.args.value w)

pub returns-clause-fresh : goal.returns-clause-fresh
returns-clause-fresh g c is =
    fresh-says g.T.PartialEq.eq c.requires c.args.value c.args.self.now c.in_ok-insert.field-0
    (told _ _ _ _ _ c.in_ok-insert.ensures.added (c.self.invariant c.args.value) c.self.view_is) c.if-not-branch.false
