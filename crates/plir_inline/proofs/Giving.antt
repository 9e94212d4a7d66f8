-- What contexts keep where values are given others.
use Rattle.std.proofs.Common.{◌≡◌, ℕ, suc, List, [], ◌∷◌, length, map, Option, Some, None}
use Rattle.std.proofs.Common.{inl, inr, refl, sym, ap, ◌∙◌, option_map}
use Rattle.plir_store.specs.Members.{Has}
use Rattle.plir_store.specs.Table.{content_at}
use Rattle.plir_core.specs.declared.ptr.Ptr.{Ptr}
use Rattle.plir_core.specs.declared.ptr.Operation.{Operation as OperationKind}
use Rattle.plir_core.specs.declared.value.Value.{Value}
use Rattle.plir_core.specs.declared.value.DefiningEntity.{DefiningEntity}
use Rattle.plir_core.specs.declared.value.DefiningEntity.TheVariants.{Op, Block}
use Rattle.plir_core.specs.Contents.{OpView}
use Rattle.plir_core.specs.ContextView.{ContextView, op_at, operands_in, operands_of, results_in}
use Rattle.plir_core.specs.ContextView.{arguments_in, successors_in, types_from}
use Rattle.plir_core.specs.Held.{KeepsNodes}
use Rattle.plir_core.specs.Replaced.{op_replaced, replaced}
use Rattle.plir_core.specs.Rewired.{IsRewired}
use Rattle.plir_inline.specs.Given.{IsGiven, NoneFrom, given_first, with_operands_by}
use Rattle.plir_inline.proofs.GivenValues.{given-other}

module _ {X Y Z : Type 0} where
  pub map-as : (f : X → Y) (g : Y → Z) (h : X → Z) → ((x : X) → g (f x) ≡ h x) → (xs : List X)
      → map g (map f xs) ≡ map h xs
  map-as f g h e [] = refl
  map-as f g h e (x ∷ xs) = λ i. e x i ∷ map-as f g h e xs i

pub map-same : {X : Type 0} (f : X → X) (xs : List X) → ((x : X) → Has xs x → f x ≡ x) → map f xs ≡ xs
map-same f [] e = refl
map-same f (x ∷ xs) e = λ i. e x (inl refl) i ∷ map-same f xs (λ y h. e y (inr h)) i

pub length-map : {X Y : Type 0} (f : X → Y) (xs : List X) → length (map f xs) ≡ length xs
length-map f [] = refl
length-map f (x ∷ xs) = ap suc (length-map f xs)

module _ {K A : Type 0} where
  pub by-both : (f g h : Value → Value) → ((x : Value) → g (f x) ≡ h x) → (o : Option (OpView K A))
      → option_map (with_operands_by g) (option_map (with_operands_by f) o) ≡ option_map (with_operands_by h) o
  by-both f g h e None = refl
  by-both f g h e (Some o) =
      ap (λ vs. let r : OpView K A = record o { operands = vs } in Some r) (map-as f g h e o.operands)

  -- where f changes none of the operands, nothing has changed
  pub by-same : (f : Value → Value) (o : Option (OpView K A)) → ((x : Value) → Has (operands_in o) x → f x ≡ x)
      → option_map (with_operands_by f) o ≡ o
  by-same f None e = refl
  by-same f (Some o) e = ap (λ vs. let r : OpView K A = record o { operands = vs } in Some r) (map-same f o.operands e)

  pub by-operands : (f : Value → Value) (o : Option (OpView K A))
      → operands_in (option_map (with_operands_by f) o) ≡ map f (operands_in o)
  by-operands f None = refl
  by-operands f (Some o) = refl

  pub by-results : (f : Value → Value) (o : Option (OpView K A))
      → results_in (option_map (with_operands_by f) o) ≡ results_in o
  by-results f None = refl
  by-results f (Some o) = refl

  pub by-successors : (f : Value → Value) (o : Option (OpView K A))
      → successors_in (option_map (with_operands_by f) o) ≡ successors_in o
  by-successors f None = refl
  by-successors f (Some o) = refl

module _ {K A T : Type 0} where
  pub keeps-same : (s : ContextView K A T) → KeepsNodes s s
  keeps-same s = record {
    live = λ n. refl;
    given = λ n. refl;
    children = λ n. refl;
    parents = λ n. refl;
    types = refl;
    limit = refl;
  }

  pub keeps-both : (s t u : ContextView K A T) → KeepsNodes s t → KeepsNodes t u → KeepsNodes s u
  keeps-both s t u a b = record {
    live = λ n. b.live n ∙ a.live n;
    given = λ n. b.given n ∙ a.given n;
    children = λ n. b.children n ∙ a.children n;
    parents = λ n. b.parents n ∙ a.parents n;
    types = b.types ∙ a.types;
    limit = b.limit ∙ a.limit;
  }

  pub given-same : (s : ContextView K A T) (f : Value → Value) → ((x : Value) → f x ≡ x) → IsGiven s s f
  given-same s f e = record {
    keeps = keeps-same s;
    ops = λ p. sym (by-same f (op_at s p) (λ x h. e x));
    blocks = λ b. refl;
  }

  pub given-next : (s t u : ContextView K A T) (f h : Value → Value) (v w : Value) → IsGiven s t f → IsRewired t u v w
      → ((x : Value) → replaced v w (f x) ≡ h x) → IsGiven s u h
  given-next s t u f h v w a r e = record {
    keeps = keeps-both s t u a.keeps r.keeps;
    ops = λ p.
        r.ops p ∙ ap (option_map (op_replaced v w)) (a.ops p) ∙ by-both f (replaced v w) h e (op_at s p);
    blocks = λ b. ap (λ z. content_at z b.slot) r.blocks ∙ a.blocks b;
  }

  pub given-both : (s t u : ContextView K A T) (f g : Value → Value) → IsGiven s t f → IsGiven t u g
      → IsGiven s u (λ x. g (f x))
  given-both s t u f g a b = record {
    keeps = keeps-both s t u a.keeps b.keeps;
    ops = λ p.
        b.ops p ∙ ap (option_map (with_operands_by g)) (a.ops p) ∙ by-both f g (λ x. g (f x)) (λ x. refl) (op_at s p);
    blocks = λ x. b.blocks x ∙ a.blocks x;
  }

  module _ (s t : ContextView K A T) (f : Value → Value) (h : IsGiven s t f) where
    pub given-operands : (p : Ptr OperationKind) → operands_of t p ≡ map f (operands_of s p)
    given-operands p = ap operands_in (h.ops p) ∙ by-operands f (op_at s p)

    pub given-types : (e : DefiningEntity) → types_from t e ≡ types_from s e
    given-types (Op p) = ap results_in (h.ops p) ∙ by-results f (op_at s p)
    given-types (Block b) = ap arguments_in (h.blocks b)

  -- the operands of an operation that uses no value of e
  pub giver-same : (s t : ContextView K A T) (e : DefiningEntity) (vs : List Value) (n : ℕ) (p : Ptr OperationKind)
      → IsGiven s t (given_first e vs n) → NoneFrom e (operands_of s p) → operands_of t p ≡ operands_of s p
  giver-same s t e vs n p h none =
      given-operands s t (given_first e vs n) h p
      ∙ map-same (given_first e vs n) (operands_of s p) (λ x has. given-other e vs n x (none x has))
