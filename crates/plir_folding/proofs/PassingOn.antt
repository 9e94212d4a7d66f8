-- Uses are passed on, one value after another.
use Rattle.std.proofs.Common.{◌≡◌, ℕ, Bool, true, false, cond, List, [], ◌∷◌, map, Option, Some, None}
use Rattle.std.proofs.Common.{refl, sym, ap, subst, ◌∙◌, option_map}
use Rattle.std.specs.Prelude.{◌≢◌}
use Rattle.plir_core.specs.declared.ptr.Ptr.{Ptr}
use Rattle.plir_core.specs.declared.ptr.Operation.{Operation as OperationKind}
use Rattle.plir_core.specs.declared.ptr.IRNode.{IRNode}
use Rattle.plir_core.specs.declared.ptr.IRNode.TheVariants.{Operation}
use Rattle.plir_core.specs.declared.value.Value.{Value}
use Rattle.plir_core.specs.Contents.{OpView}
use Rattle.plir_core.specs.Held.{KeepsNodes}
use Rattle.plir_core.specs.ContextView.{ContextView, IsLive, op_at, operands_in, operands_of}
use Rattle.plir_core.specs.ButOperands.{but_operands}
use Rattle.plir_core.specs.Forest.{look, IsBelow}
use Rattle.plir_core.specs.Replaced.{replaced, op_replaced}
use Rattle.plir_core.specs.Rewired.{IsRewired}
use Rattle.plir_core.specs.SameValue.{same_value, value-exact}
use Rattle.plir_core.specs.ValueUses.{HasUses}
use Rattle.plir_core.specs.WellFormed.{IsWellFormed}
use Rattle.plir_walk.specs.LawfulChanges.{LawfulChanges}
use Rattle.plir_folding.specs.declared.identity_set.Side.{Side}
use Rattle.plir_folding.specs.Worth.{Integer}
use Rattle.plir_folding.specs.Folded.{ArePaired}
use Rattle.plir_folding.specs.Identities.{stands_for}
use Rattle.plir_folding.specs.PassedOn.{IsSameAs, IsPassedOn, IsPassedBelow}
use Rattle.plir_folding.proofs.Below.{below-live}
use Rattle.plir_folding.proofs.Folds.{paired-self, paired-then}
use Rattle.plir_folding.proofs.Leads.{same-self, same-then, stands-same}

-- a list is paired with its images
paired-map : (R : Value → Value → Type 0) (f : Value → Value) → ((v : Value) → R v (f v)) → (vs : List Value)
    → ArePaired R vs (map f vs)
paired-map R f each [] = tt
paired-map R f each (v ∷ vs) = (each v, paired-map R f each vs)

module _ {K A : Type 0} (v w : Value) where
  but-same : (o : Option (OpView K A)) → but_operands (option_map (op_replaced v w) o) ≡ but_operands o
  but-same None = refl
  but-same (Some o) = refl

  operands-same : (o : Option (OpView K A)) → operands_in (option_map (op_replaced v w) o)
      ≡ map (replaced v w) (operands_in o)
  operands-same None = refl
  operands-same (Some o) = refl

pub keeps-self : {K A T : Type 0} (s : ContextView K A T) → KeepsNodes s s
keeps-self s = record {
  live = λ n. refl;
  given = λ n. refl;
  children = λ n. refl;
  parents = λ n. refl;
  types = refl;
  limit = refl;
}

pub keeps-then : {K A T : Type 0} (s t u : ContextView K A T) → KeepsNodes s t → KeepsNodes t u → KeepsNodes s u
keeps-then s t u f g = record {
  live = λ n. g.live n ∙ f.live n;
  given = λ n. g.given n ∙ f.given n;
  children = λ n. g.children n ∙ f.children n;
  parents = λ n. g.parents n ∙ f.parents n;
  types = g.types ∙ f.types;
  limit = g.limit ∙ f.limit;
}

module _ {K A T : Type 0} (holds : K → Side → Integer → Bool) where
  pub passed-none : (s : ContextView K A T) → IsPassedOn holds s s
  passed-none s = record {
    keeps = keeps-self s;
    ops = λ p. refl;
    operands = λ p. paired-self (IsSameAs holds s) (λ v. same-self holds s v) (operands_of s p);
    used = λ v h. h;
    blocks = refl;
    regions = refl;
    free = refl;
  }

  pub passed-then : (s t u : ContextView K A T) → IsPassedOn holds s t → IsPassedOn holds t u → IsPassedOn holds s u
  passed-then s t u f g = record {
    keeps = keeps-then s t u f.keeps g.keeps;
    ops = λ p. g.ops p ∙ f.ops p;
    operands =
        λ p. paired-then (IsSameAs holds s) (IsSameAs holds t) (IsSameAs holds s) (operands_of s p) (operands_of t p)
        (operands_of u p) (λ x y z h. same-then holds s t f x y z) (f.operands p) (g.operands p);
    used = λ v h. f.used v (g.used v h);
    blocks = g.blocks ∙ f.blocks;
    regions = g.regions ∙ f.regions;
    free = g.free ∙ f.free;
  }

  -- a value that another one stands for has come in its place
  module _ (s t : ContextView K A T) (v w : Value) (r : IsRewired s t v w)
      (stands : stands_for holds s v ≡ Some w) (used : HasUses s w) (other : w ≢ v) where
    each : (x : Value) → IsSameAs holds s x (replaced v w x)
    each x = go (same_value x v) refl
      where
        go : (b : Bool) → same_value x v ≡ b → IsSameAs holds s x (cond b w x)
        go true e = subst (λ z. IsSameAs holds s z w) (sym ((value-exact x v).0 e)) (stands-same holds s v w stands)
        go false e = same-self holds s x

    used-before : (x : Value) → HasUses t x → HasUses s x
    used-before x h = go (same_value x v) (same_value x w) refl refl
      where
        go : (b c : Bool) → same_value x v ≡ b → same_value x w ≡ c → HasUses s x
        go true c e k = absurd (r.gone (λ q. other (sym q)) (subst (HasUses t) ((value-exact x v).0 e) h))
        go false true e k = subst (HasUses s) (sym ((value-exact x w).0 k)) used
        go false false e k =
            (r.others x (λ q. unlike (same_value x v) ((value-exact x v).1 q) e)
            (λ q. unlike (same_value x w) ((value-exact x w).1 q) k)).has.0 h
          where
            unlike : (b : Bool) → b ≡ true → b ≡ false → ⊥
            unlike b y n = let z : ⊥ = cc (y, n) in z

    pub passed-one : IsPassedOn holds s t
    passed-one = record {
      keeps = r.keeps;
      ops = λ p. ap but_operands (r.ops p) ∙ but-same v w (op_at s p);
      operands =
          λ p. subst (ArePaired (IsSameAs holds s) (operands_of s p))
          (sym (ap operands_in (r.ops p) ∙ operands-same v w (op_at s p)))
          (paired-map (IsSameAs holds s) (replaced v w) each (operands_of s p));
      used = used-before;
      blocks = r.blocks;
      regions = r.regions;
      free = r.free;
    }

  module _ (own : A → List ℕ) (laws : LawfulChanges K A T own) where
    pub below-none : (s : ContextView K A T) (n : IRNode) → IsWellFormed own s → IsPassedBelow holds own s n s
    below-none s n w = record { passed = passed-none s; lawful = laws.none s n; whole = w }

    pub below-then : (s t u : ContextView K A T) (n : IRNode) → IsWellFormed own s → IsPassedBelow holds own s n t
        → IsPassedBelow holds own t n u → IsPassedBelow holds own s n u
    below-then s t u n w f g = record {
      passed = passed-then s t u f.passed g.passed;
      lawful = laws.both s t u n (laws.forest s w) f.lawful g.lawful;
      whole = g.whole;
    }

    -- what stood below a root is live still
    pub still-live : (s t : ContextView K A T) (r : IRNode) (p : Ptr OperationKind) → IsWellFormed own s
        → IsPassedOn holds s t → IsBelow (look s) r (Operation p) → IsLive t (Operation p)
    still-live s t r p w f b = f.keeps.live (Operation p) ∙ below-live s r (Operation p) b (laws.forest s w)
