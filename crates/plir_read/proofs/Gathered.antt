-- Nodes that are made one after another and put under one node, as a loop does.
use Rattle.std.proofs.Common.{◌≡◌, ℕ, ◌<◌, true, false, List, [], ◌∷◌, ◌++◌, length, Bool, Option, Some, None, Result}
use Rattle.std.proofs.Common.{Ok, sym, subst}
use Rattle.std.proofs.lemmas.Option.{none-some}
use Rattle.plir_core.specs.declared.ptr.IRNode.{IRNode}
use Rattle.plir_core.specs.declared.ptr.IRNode.TheVariants.{Operation, BasicBlock}
use Rattle.plir_core.specs.Above.{Reaches}
use Rattle.plir_core.specs.Grown.{IsGrown, Growth}
use Rattle.plir_core.specs.Made.{KeepsLive, IsMade}
use Rattle.plir_store.specs.Members.{Has}
use Rattle.plir_core.specs.Nodes.{Nodes}
use Rattle.plir_core.specs.Placed.{IsPlaced}
use Rattle.plir_core.specs.Standing.{IsStanding}
use Rattle.plir_core.specs.ContextView.{ContextView, IsLive, children, parent_of}
use Rattle.plir_core.specs.WellFormed.{IsWellFormed}
use Rattle.plir_attr_text.specs.declared.fault.Fault.{Fault}
use Rattle.plir_attr_text.specs.Reading.{Ends}
use Rattle.plir_attr_text.specs.declared.fault.Stop.{Stop}
use Rattle.plir_attr_text.specs.Names.{Grows}
use Rattle.plir_attr_text.specs.laws.Growth.{Grows-itself, Grows-on}
use Rattle.plir_attr_text.specs.laws.Fronts.{GoesOn, ends_at_item, closes, goes_on}
use Rattle.plir_read.specs.Keeping.{KeepsBut, KeepsOlder}
use Rattle.plir_read.specs.Slots.{IsMadeInOrder, IsGrownInOrder}
use Rattle.plir_read.specs.laws.Kept.{KeepsBut-grown, KeepsBut-on}
use Rattle.plir_read.specs.laws.Frames.{IsFrame, frame_made, frame_placed, child_below}
use Rattle.plir_read.specs.laws.TreesInOrder.{next_in_order}

module _ {K A T : Type 0} where
  -- X are things that nodes stand for: one by one, and in a list.
  module _ (own : A → List ℕ) {X : Type 0} (One : ContextView K A T → IRNode → X → Type 0)
      (Many : ContextView K A T → List IRNode → List X → Type 0)
      (one_kept : (s t : ContextView K A T) (P : IRNode → Type 0) → IsFrame s t P → (n : IRNode) (x : X) → P n →
      One s n x → One t n x)
      (many_kept : (s t : ContextView K A T) (P : IRNode → Type 0) → IsFrame s t P → (ns : List IRNode) (xs : List X) →
      ((m : IRNode) → Has ns m → P m) → Many s ns xs → Many t ns xs)
      (push : (s : ContextView K A T) (ns : List IRNode) (xs : List X) (n : IRNode) (x : X) → Many s ns xs → One s n x →
      Many s (ns ++ n ∷ []) (xs ++ x ∷ [])) (goes : List ℕ → Result (Bool × List ℕ) Fault)
      (read : List ℕ → Result (X × List ℕ) Fault) where
    -- from `first` to s nodes were put under `over`, and what is read goes on at `rest`
    pub record Gathers (first s : ContextView K A T) (over : IRNode) (rest : List ℕ)
        (total : Result (List X × List ℕ) Fault) : Type 0 where
      pub live : IsLive first over
      pub grown : IsGrown first.nodes s.nodes over
      pub types : Grows first.types s.types
      pub whole : IsWellFormed own s
      pub in_order : IsGrownInOrder first.nodes s.nodes over
      pub front : List X
      pub stand : Many s (children s over) front
      pub turns : GoesOn goes read front rest total

    -- the node n is made, from s to t, and put under `over`, from t to u
    pub record Comes (s t u : ContextView K A T) (n over : IRNode) (x : X) : Type 0 where
      pub made : IsMade s.nodes t.nodes n
      pub in_order : IsMadeInOrder s.nodes t.nodes n
      pub kept : KeepsOlder s t
      pub stands : One t n x
      pub there : IsWellFormed own t
      pub placed : IsPlaced t.nodes u.nodes n over (children t over ++ n ∷ [])
      pub types : u.types ≡ t.types

    pub unlinked_apart : (first s t : ContextView K A T) (over n : IRNode) (rest : List ℕ)
        (total : Result (List X × List ℕ) Fault) → Gathers first s over rest total → IsMade s.nodes t.nodes n →
        Reaches (parent_of t) over n → ⊥
    unlinked_apart first s t over n rest total g m r = m.apart over (g.grown.keeps.live over g.live) r

    -- one of them was not read
    pub not_one : (first s t : ContextView K A T) (over : IRNode) (rest : List ℕ)
        (total : Result (List X × List ℕ) Fault) → Gathers first s over rest total → KeepsOlder s t →
        KeepsBut first t (Some over)
    not_one first s t over rest total g k =
        KeepsBut-on first s t (Some over) None (λ m e h q. none-some m q) (KeepsBut-grown first s over g.grown g.types)
        k

    pub not_read : (first s : ContextView K A T) (over : IRNode) (rest : List ℕ)
        (total : Result (List X × List ℕ) Fault) (P : Type 0) (e : Stop) → Gathers first s over rest total →
        Ends P e (read rest) → Ends P e total
    not_read first s over rest total P e g h = ends_at_item goes read g.front rest total P e g.turns h

    module _ (standing : (s : ContextView K A T) → IsWellFormed own s → IsStanding s) where
      comes_grown : (first s t u : ContextView K A T) (over n : IRNode) (x : X) (rest : List ℕ)
          (total : Result (List X × List ℕ) Fault) → Growth first.nodes → Growth s.nodes →
          Gathers first s over rest total → Comes s t u n over x → IsGrown first.nodes u.nodes over
      comes_grown first s t u over n x rest total w v g c =
          w.twice s.nodes u.nodes over g.whole.stored g.grown
          (v.placed t.nodes u.nodes n over (children t over ++ n ∷ []) c.made c.placed)

      comes_types : (first s t u : ContextView K A T) (over n : IRNode) (x : X) (rest : List ℕ)
          (total : Result (List X × List ℕ) Fault) → Gathers first s over rest total → Comes s t u n over x →
          Grows first.types u.types
      comes_types first s t u over n x rest total g c =
          subst (Grows first.types) (sym c.types) (Grows-on first.types s.types t.types g.types c.kept.types)

      comes_stand : (first s t u : ContextView K A T) (over n : IRNode) (x : X) (rest : List ℕ)
          (total : Result (List X × List ℕ) Fault) (g : Gathers first s over rest total) → Comes s t u n over x →
          Many u (children u over) (g.front ++ x ∷ [])
      comes_stand first s t u over n x rest total g c =
          let live = g.grown.keeps.live over g.live in
          let before = standing s g.whole in
          let now = standing t c.there in
          let first_frame = frame_made s t n before c.made c.kept.types in
          let second_frame = frame_placed t u n over (children t over ++ n ∷ []) now c.placed c.types in
          let same : children t over ≡ children s over = c.made.children over live in
          let here : Many t (children t over) g.front =
          subst (λ z. Many t z g.front) (sym same)
          (many_kept s t (λ m. IsLive s m) first_frame (children s over) g.front
          (λ m h. before.forest.child_live over m h) g.stand) in
          let after : Many u (children t over) g.front =
          many_kept t u (λ m. Reaches (parent_of t) over m → ⊥) second_frame (children t over) g.front
          (λ m h. child_below t now over m h) here in
          let one : One u n x =
          one_kept t u (λ m. Reaches (parent_of t) over m → ⊥) second_frame n x
          (unlinked_apart first s t over n rest total g c.made) c.stands in
          subst (λ z. Many u z (g.front ++ x ∷ [])) (sym c.placed.children_over)
          (push u (children t over) g.front n x after one)

      comes_in_order : (first s t u : ContextView K A T) (over n : IRNode) (x : X) (rest : List ℕ)
          (total : Result (List X × List ℕ) Fault) → Gathers first s over rest total → Comes s t u n over x →
          IsGrownInOrder first.nodes u.nodes over
      comes_in_order first s t u over n x rest total g c =
          next_in_order first s t u over n (standing s g.whole) (standing t c.there) (g.grown.keeps.live over g.live)
          c.made c.kept.types c.placed c.types g.in_order c.in_order

      pub one_more : (first s t u : ContextView K A T) (over n : IRNode) (x : X) (rest after behind : List ℕ)
          (total : Result (List X × List ℕ) Fault) → Growth first.nodes → Growth s.nodes →
          Gathers first s over rest total → Comes s t u n over x → IsWellFormed own u
          → read rest ≡ Ok (x, after) → goes after ≡ Ok (true, behind) → length behind < length rest →
          Gathers first u over behind total
      one_more first s t u over n x rest after behind total p q g c w e f lt = record {
        live = g.live;
        grown = comes_grown first s t u over n x rest total p q g c;
        types = comes_types first s t u over n x rest total g c;
        whole = w;
        in_order = comes_in_order first s t u over n x rest total g c;
        front = g.front ++ x ∷ [];
        stand = comes_stand first s t u over n x rest total g c;
        turns = goes_on goes read g.front rest total x after behind g.turns e f lt;
      }

      -- all of them were read
      pub record Gathered (first u : ContextView K A T) (over : IRNode) (behind : List ℕ)
          (total : Result (List X × List ℕ) Fault) : Type 0 where
        pub all : List X
        pub gives : total ≡ Ok (all, behind)
        pub stand : Many u (children u over) all
        pub grown : IsGrown first.nodes u.nodes over
        pub in_order : IsGrownInOrder first.nodes u.nodes over
        pub kept : KeepsBut first u (Some over)

      pub last_one : (first s t u : ContextView K A T) (over n : IRNode) (x : X) (rest after behind : List ℕ)
          (total : Result (List X × List ℕ) Fault) → Growth first.nodes → Growth s.nodes →
          Gathers first s over rest total → Comes s t u n over x
          → read rest ≡ Ok (x, after) → goes after ≡ Ok (false, behind) → Gathered first u over behind total
      last_one first s t u over n x rest after behind total p q g c e f =
          let grown = comes_grown first s t u over n x rest total p q g c in
          record {
            all = g.front ++ x ∷ [];
            gives = closes goes read g.front rest total x after behind g.turns e f;
            stand = comes_stand first s t u over n x rest total g c;
            grown = grown;
            in_order = comes_in_order first s t u over n x rest total g c;
            kept = KeepsBut-grown first u over grown (comes_types first s t u over n x rest total g c);
          }
