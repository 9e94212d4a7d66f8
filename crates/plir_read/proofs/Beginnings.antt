-- Operations and blocks with which a text begins, where there is no room for them.
use Rattle.std.proofs.Common.{◌≡◌, ℕ, zero, suc, ◌+◌, ◌-◌, ◌<◌, ◌≤◌, Bool, true, false, List, [], ◌∷◌, ◌++◌, length}
use Rattle.std.proofs.Common.{Result, Ok, Err, inl, inr, refl, sym, ap, subst, ◌∙◌, arith, append_assoc, append-nil}
use Rattle.std.specs.Prelude.{All}
use Rattle.std.proofs.lemmas.List.Elements.{All-nil, All-cons, All-append}
use Rattle.plir_core.specs.declared.ptr.IRNode.{IRNode}
use Rattle.plir_core.specs.Nodes.{Nodes}
use Rattle.plir_core.specs.Placed.{MovesOnly}
use Rattle.plir_core.specs.Room.{NodeCount, together, no_node, one_op, one_block, IsFullFor, HaveCome}
use Rattle.plir_core.specs.RoomLaws.{IsAtMost, part_at_most, together_none, full_more, full_before, come_itself}
use Rattle.plir_core.specs.RoomLaws.{come_on, come_moved}
use Rattle.plir_attr_text.specs.declared.fault.Fault.{Fault}
use Rattle.plir_attr_text.specs.declared.fault.Stop.{Stop}
use Rattle.plir_attr_text.specs.declared.fault.Stop.TheVariants.{OutOfMemory, Crowded, At}
use Rattle.plir_attr_text.specs.Lists.{more_at, if_more, with_first, sign_at}
use Rattle.plir_attr_text.specs.Reading.{Ends}
use Rattle.plir_attr_text.specs.Steps.{◌>>=◌}
use Rattle.plir_attr_text.specs.Terms.{AttrTerm, TypeTerm}
use Rattle.plir_attr_text.specs.Tokens.{Token, sign, Begins}
use Rattle.plir_attr_text.specs.TypeGrammar.{enclosed}
use Rattle.plir_attr_text.specs.laws.Begun.{Begins-append, sign_found}
use Rattle.plir_attr_text.specs.laws.Fronts.{GoesOn, with_front, closes, goes_on}
use Rattle.plir_attr_text.specs.laws.ListsFound.{FoundOne, IsSound, Chain}
use Rattle.plir_attr_text.specs.laws.StepLaws.{bind_ok, done, ok_is}
use Rattle.plir_read.specs.OpGrammar.{OpWithin, OpsWithin, BlockWithin, BodyWithin}
use Rattle.plir_read.specs.OpReading.{start_at, header_at, block_head_at, op_at, ops_at, block_at, blocks_at, bodied_at}
use Rattle.plir_read.specs.OpReading.{named, semicolon_at, brace_at}
use Rattle.plir_read.specs.OpTerms.{Header, BlockHead, OpTerm, op_term, BlockTerm, ops_of, blocks_of}
use Rattle.plir_read.specs.OpsRead.{list_count, body_count, BodyBeginsTooMany}
use Rattle.plir_read.specs.Room.{one_with_region, op_count, block_count}
use Rattle.plir_read.specs.Room.{IsBrace, IsBegun, BeginsTooMany, HasNoRoom, LacksRoom}
use Rattle.plir_read.specs.declared.heads.BodyKind.{BodyKind}
use Rattle.plir_read.specs.declared.heads.HeadKind.TheVariants.{Bodied}
use Rattle.plir_read.specs.laws.OpFound.{by_semicolon, semicolon_found, by_brace, brace_found, header_found}
use Rattle.plir_read.specs.laws.OpFound.{block_head_found}
use Rattle.plir_read.specs.laws.OpFound.{op_found, block_found, ops_wrote, chain_wrote}
use Rattle.plir_read.proofs.RoomLaws.{count_all, count_append, ops_counted}
use Rattle.plir_read.proofs.RoomLaws.{blocks_counted}
use Rattle.plir_read.specs.laws.StartFound.{start_found, bare_id}

-- where there is no room for one reason, there is none for another that follows from it
pub Ends-map : {A : Type 0} (P Q : Type 0) (stop : Stop) (r : Result A Fault) → (P → Q) → Ends P stop r → Ends Q stop r
Ends-map P Q OutOfMemory r f h = tt
Ends-map P Q Crowded r f h = f h
Ends-map P Q (At d left) r f h = h

-- what was found is begun
pub begun_found : {X : Type 0} (E : X → List Token → Type 0) (bytes rest : List ℕ) (x : X) → FoundOne E bytes x rest →
    IsBegun E bytes x
begun_found E bytes rest x f = record {
  front = f.tokens;
  rest = rest;
  begins = f.begins;
  braces = [];
  only = All-nil IsBrace;
  spelled = subst (E x) (sym (append-nil f.tokens)) f.spelled;
}

-- ---- things one behind another

module _ {X : Type 0} (E : X → List Token → Type 0) (between : Bool → List Token) where
  -- each has something behind it after which one more comes
  abbrev pub Before : List X → List Token → Type 0
  Before [] ts = ts ≡ []
  Before (x ∷ xs) ts =
      (first more : List Token) × E x first × Before xs more × (ts ≡ first ++ (between true ++ more))

  behind_first : (first more tail ts : List Token) → ts ≡ first ++ (between true ++ more) →
      ts ++ tail ≡ first ++ (between true ++ (more ++ tail))
  behind_first first more tail ts e =
      ap (λ (l : List Token). l ++ tail) e ∙ append_assoc first (between true ++ more) tail ∙
      ap (λ (l : List Token). first ++ l) (append_assoc (between true) more tail)

  one_before : (x : X) (xs : List X) (first more : List Token) → E x first → Chain E between xs more →
      Chain E between (x ∷ xs) (first ++ (between true ++ more))
  one_before x [] first more e c = absurd c
  one_before x (y ∷ ys) first more e c = (
    first,
    between true ++ more,
    e,
    (c.0, c.1, c.2, c.3, ap (λ (l : List Token). between true ++ l) c.4),
    refl,
  )

  pub chain_of : (xs : List X) (ts : List Token) (x : X) (last : List Token) → Before xs ts → E x last →
      Chain E between (xs ++ x ∷ []) (ts ++ (last ++ between false))
  chain_of [] ts x last b e =
      let c : Chain E between (x ∷ []) (last ++ between false) = (last, between false, e, refl, refl) in
      subst (λ (l : List Token). Chain E between (x ∷ []) (l ++ (last ++ between false))) (sym b) c
  chain_of (y ∷ ys) ts x last b e =
      let tail = last ++ between false in
      subst (Chain E between (y ∷ (ys ++ x ∷ []))) (sym (behind_first b.0 b.1 tail ts b.4))
      (one_before y (ys ++ x ∷ []) b.0 (b.1 ++ tail) b.2 (chain_of ys b.1 x last b.3 e))

  pub before_push : (xs : List X) (ts : List Token) (x : X) (last : List Token) → Before xs ts → E x last →
      Before (xs ++ x ∷ []) (ts ++ (last ++ between true))
  before_push [] ts x last b e = (
    last,
    [],
    e,
    refl,
    ap (λ (l : List Token). l ++ (last ++ between true)) b ∙
        ap (λ (l : List Token). last ++ l) (sym (append-nil (between true))),
  )
  before_push (y ∷ ys) ts x last b e =
      let tail = last ++ between true in
      (b.0, b.1 ++ tail, b.2, before_push ys b.1 x last b.3 e, behind_first b.0 b.1 tail ts b.4)

-- ---- loops

-- what is read once things have been read: one more, and what comes behind that
record ReadsOne {X : Type 0} (read : List ℕ → Result (X × List ℕ) Fault) (front : List X) (rest : List ℕ)
    (xs : List X) : Type 0 where
  one : X × List ℕ
  is : read rest ≡ Ok one
  more : List X
  all : xs ≡ front ++ one.0 ∷ more

reads_one : {X : Type 0} (goes : List ℕ → Result (Bool × List ℕ) Fault) (read : List ℕ → Result (X × List ℕ) Fault)
    (front : List X) (rest : List ℕ) (total : Result (List X × List ℕ) Fault) → GoesOn goes read front rest total →
    (y : List X × List ℕ) → total ≡ Ok y → ReadsOne read front rest y.0
unfolding more_at
reads_one {X} goes read front rest total g y e = at g.steps g.enough (g.gives ∙ e)
  where
    at : (n : ℕ) → length rest < n → with_front front (more_at goes read n rest) ≡ Ok y → ReadsOne read front rest y.0
    at zero lt h = absurd (omega (arith, lt))
    at (suc m) lt h =
        let a = bind_ok (more_at goes read (suc m) rest) (λ x. done (front ++ x.0, x.1)) y h in
        let b = bind_ok (read rest) (λ x. goes x.1 >>= λ s. with_first x.0 (if_more s.0 (more_at goes read m s.1) s.1))
        a.0 a.1 in
        let d = bind_ok (goes b.0.1) (λ s. with_first b.0.0 (if_more s.0 (more_at goes read m s.1) s.1)) a.0 b.2 in
        let f = bind_ok (if_more d.0.0 (more_at goes read m d.0.1) d.0.1) (λ ys. done (b.0.0 ∷ ys.0, ys.1)) a.0 d.2 in
        record {
          one = b.0;
          is = b.1;
          more = f.0.0;
          all = sym (ap (λ (z : List X × List ℕ). z.0) (ok_is (front ++ a.0.0, a.0.1) y a.2))
              ∙ ap (λ (z : List X × List ℕ). front ++ z.0) (sym (ok_is (b.0.0 ∷ f.0.0, f.0.1) a.0 f.2));
        }

module _ {O B X : Type 0} (E : X → List Token → Type 0) (between : Bool → List Token) (count : X → NodeCount)
    (goes : List ℕ → Result (Bool × List ℕ) Fault) (read : List ℕ → Result (X × List ℕ) Fault)
    (lead : List Token) where
  -- From s to t things were read from the text, behind what leads them, and their nodes have come; reading goes on at
  -- `rest`.
  pub record RoomSoFar (s t : Nodes O B) (bytes rest : List ℕ) (total : Result (List X × List ℕ) Fault) : Type 0 where
    pub front : List X
    pub going : GoesOn goes read front rest total
    pub tokens : List Token
    pub begins : Begins bytes (lead ++ tokens) rest
    pub before : Before E between front tokens
    pub come : HaveCome s t (count_all count front)

  pub room_begins : (s : Nodes O B) (bytes rest : List ℕ) (total : Result (List X × List ℕ) Fault) →
      Begins bytes lead rest → GoesOn goes read [] rest total → RoomSoFar s s bytes rest total
  room_begins s bytes rest total b g = record {
    front = [];
    going = g;
    tokens = [];
    begins = subst (λ (l : List Token). Begins bytes l rest) (sym (append-nil lead)) b;
    before = refl;
    come = come_itself s;
  }

  module _ (parts : (bytes : List ℕ) (s : Bool × List ℕ) → goes bytes ≡ Ok s → Begins bytes (between s.0) s.1)
      (sound : IsSound E read) (s t : Nodes O B) (bytes rest : List ℕ) (total : Result (List X × List ℕ) Fault)
      (f : RoomSoFar s t bytes rest total) where
    one_counted : (x : X) → together (count_all count f.front) (count x) ≡ count_all count (f.front ++ x ∷ [])
    one_counted x =
        ap (λ c. together (count_all count f.front) c) (sym (together_none (count x))) ∙
        sym (count_append count f.front (x ∷ []))

    module _ (u v : Nodes O B) (n : IRNode) (x : X) (after : List ℕ) (is_read : read rest ≡ Ok (x, after))
        (come : HaveCome t u (count x)) (moved : MovesOnly u v n) where
      come_more : HaveCome s v (count_all count (f.front ++ x ∷ []))
      come_more = subst (HaveCome s v) (one_counted x)
          (come_on s t v (count_all count f.front) (count x) f.come (come_moved t u v (count x) n come moved))

      pub room_next : (behind : List ℕ) → goes after ≡ Ok (true, behind) → length behind < length rest →
          RoomSoFar s v bytes behind total
      room_next behind g lt =
          let one = sound rest (x, after) is_read in
          let last : Begins rest (one.tokens ++ between true) behind =
          Begins-append one.tokens (between true) rest after behind one.begins (parts after (true, behind) g) in
          record {
            front = f.front ++ x ∷ [];
            going = goes_on goes read f.front rest total x after behind f.going is_read g lt;
            tokens = f.tokens ++ (one.tokens ++ between true);
            begins = subst (λ (l : List Token). Begins bytes l behind)
                (append_assoc lead f.tokens (one.tokens ++ between true))
                (Begins-append (lead ++ f.tokens) (one.tokens ++ between true) bytes rest behind f.begins last);
            before = before_push E between f.front f.tokens x one.tokens f.before one.spelled;
            come = come_more;
          }

      pub room_all : (behind : List ℕ) → goes after ≡ Ok (false, behind) → (xs : List X) (end : List ℕ) →
          total ≡ Ok (xs, end) → HaveCome s v (count_all count xs)
      room_all behind g xs end e =
          subst (λ (z : List X × List ℕ). HaveCome s v (count_all count z.0)) (ok_is (
            f.front ++ x ∷ [],
            behind,
          ) (xs, end) (sym (closes goes read f.front rest total x after behind f.going is_read g) ∙ e)) come_more

    -- where there is no room for one more
    pub last_full : (x : X) → IsFullFor t (count x) → IsFullFor s (count_all count (f.front ++ x ∷ []))
    last_full x h = subst (IsFullFor s) (one_counted x)
        (full_before s t (count_all count f.front) (count x) f.come h)

    pub never_all : HasNoRoom count t (read rest) → HasNoRoom (count_all count) s total
    never_all h y e =
        let r = reads_one goes read f.front rest total f.going y e in
        let full = full_before s t (count_all count f.front) (count r.one.0) f.come (h r.one r.is) in
        let most : IsAtMost (together (count_all count f.front) (count r.one.0)) (count_all count
        (f.front ++ r.one.0 ∷ r.more)) =
        subst (IsAtMost (together (count_all count f.front) (count r.one.0)))
        (sym (count_append count f.front (r.one.0 ∷ r.more)))
        (record { ops = omega arith; regions = omega arith; blocks = omega arith }) in
        subst (λ (l : List X). IsFullFor s (count_all count l)) (sym r.all) (full_more s _ _ most full)

-- ---- the operations of a block

module _ {O B : Type 0} (n : ℕ) (s t : Nodes O B) (bytes rest : List ℕ)
    (f : RoomSoFar (OpWithin n) by_semicolon op_count semicolon_at (op_at n) [] s t bytes rest (ops_at (op_at n) bytes))
  where
    ops_begun : (o : OpTerm) → IsBegun (OpWithin n) rest o → IsBegun (OpsWithin n) bytes (f.front ++ o ∷ [])
    ops_begun o b =
        let last = b.front ++ b.braces in
        let wrote = ops_wrote n (f.front ++ o ∷ []) (f.tokens ++ (last ++ []))
        (chain_of (OpWithin n) by_semicolon f.front f.tokens o last f.before b.spelled) in
        let same : f.tokens ++ (last ++ []) ≡ (f.tokens ++ b.front) ++ b.braces =
        ap (λ (l : List Token). f.tokens ++ l) (append-nil last) ∙ sym (append_assoc f.tokens b.front b.braces) in
        record {
          front = f.tokens ++ b.front;
          rest = b.rest;
          begins = Begins-append f.tokens b.front bytes rest b.rest f.begins b.begins;
          braces = b.braces;
          only = b.only;
          spelled = subst (OpsWithin n (f.front ++ o ∷ [])) same wrote;
        }

    pub ops_lack_room : LacksRoom op_count (OpWithin n) t rest (op_at n rest) →
        LacksRoom list_count (OpsWithin n) s bytes (ops_at (op_at n) bytes)
    ops_lack_room h = (
      record {
        part = f.front ++ h.0.part ∷ [];
        begun = ops_begun h.0.part h.0.begun;
        full = subst (IsFullFor s) (sym (ops_counted (f.front ++ h.0.part ∷ [])))
            (last_full (OpWithin n) by_semicolon op_count semicolon_at (op_at n) [] semicolon_found (op_found n) s t
            bytes
            rest (ops_at (op_at n) bytes) f h.0.part h.0.full);
      },
      λ y e. subst (IsFullFor s) (sym (ops_counted y.0))
          (never_all (OpWithin n) by_semicolon op_count semicolon_at (op_at n) [] semicolon_found (op_found n) s t bytes
          rest (ops_at (op_at n) bytes) f h.1 y e),
    )

-- ---- a block

module _ {O B : Type 0} (n : ℕ) (s t : Nodes O B) (bytes rest : List ℕ) (h : BlockHead)
    (head : block_head_at n bytes ≡ Ok (h, rest)) where
  block_begun : (os : List OpTerm) → IsBegun (OpsWithin n) rest os → IsBegun (BlockWithin n) bytes (h, os)
  block_begun os b =
      let f = block_head_found n bytes (h, rest) head in
      record {
        front = f.tokens ++ b.front;
        rest = b.rest;
        begins = Begins-append f.tokens b.front bytes rest b.rest f.begins b.begins;
        braces = b.braces;
        only = b.only;
        spelled = record {
          head = f.tokens;
          inside = b.front ++ b.braces;
          head_spelled = f.spelled.0;
          head_within = f.spelled.1;
          spelled = b.spelled.0;
          within = b.spelled.1;
          tokens = append_assoc f.tokens b.front b.braces;
        };
      }

  no_ops_begun : IsBegun (OpsWithin n) rest []
  no_ops_begun = record {
    front = [];
    rest = rest;
    begins = refl;
    braces = [];
    only = All-nil IsBrace;
    spelled = (refl, omega arith);
  }

  block_never : (P : NodeCount → Type 0) → ((os : List OpTerm) → P (together one_block (list_count os))) →
      (y : BlockTerm × List ℕ) → block_at (op_at n) n bytes ≡ Ok y → P (block_count y.0)
  unfolding block_at
  block_never P f y e =
      let a = bind_ok (block_head_at n bytes) (λ w. ops_at (op_at n) w.1 >>= λ os. done ((w.0, os.0), os.1)) y e in
      let b = bind_ok (ops_at (op_at n) a.0.1) (λ os. done ((a.0.0, os.0), os.1)) y a.2 in
      subst (λ (z : BlockTerm × List ℕ). P (block_count z.0)) (ok_is ((a.0.0, b.0.0), b.0.1) y b.2) (f b.0.0)

  -- there is no room for the block itself
  pub block_lacks_room : IsFullFor s one_block →
      LacksRoom block_count (BlockWithin n) s bytes (block_at (op_at n) n bytes)
  block_lacks_room full = (
    record { part = (h, []); begun = block_begun [] no_ops_begun; full = full },
    block_never (IsFullFor s) (λ os. full_more s one_block (together one_block (list_count os))
        (part_at_most one_block (list_count os)) full),
  )

  -- there is none for its operations
  pub inside_lacks_room : HaveCome s t one_block → LacksRoom list_count (OpsWithin n) t rest (ops_at (op_at n) rest) →
      LacksRoom block_count (BlockWithin n) s bytes (block_at (op_at n) n bytes)
  unfolding block_at
  inside_lacks_room come k = (
    record {
      part = (h, k.0.part);
      begun = block_begun k.0.part k.0.begun;
      full = full_before s t one_block (list_count k.0.part) come k.0.full;
    },
    λ y e. at y e,
  )
    where
      at : (y : BlockTerm × List ℕ) → block_at (op_at n) n bytes ≡ Ok y → IsFullFor s (block_count y.0)
      at y e =
          let a = bind_ok (block_head_at n bytes) (λ w. ops_at (op_at n) w.1 >>= λ os. done ((w.0, os.0), os.1)) y e in
          let b = bind_ok (ops_at (op_at n) a.0.1) (λ os. done ((a.0.0, os.0), os.1)) y a.2 in
          let same : rest ≡ a.0.1 = ap (λ (z : BlockHead × List ℕ). z.1) (ok_is (h, rest) a.0 (sym head ∙ a.1)) in
          let full : IsFullFor t (list_count b.0.0) = k.1 b.0 (subst (λ z. ops_at (op_at n) z ≡ Ok b.0) (sym same) b.1)
          in
          subst (λ (z : BlockTerm × List ℕ). IsFullFor s (block_count z.0)) (ok_is ((a.0.0, b.0.0), b.0.1) y b.2)
          (full_before s t one_block (list_count b.0.0) come full)

-- ---- the blocks of a region

module _ {O B : Type 0} (n : ℕ) (s t : Nodes O B) (bytes rest : List ℕ)
    (f : RoomSoFar (BlockWithin n) by_brace block_count brace_at (block_at (op_at n) n) (sign 123 ∷ []) s t bytes rest
    (blocks_at (op_at n) n bytes)) where
  blocks_begun : (b : BlockTerm) → IsBegun (BlockWithin n) rest b → IsBegun (BodyWithin n) bytes (f.front ++ b ∷ [])
  blocks_begun b g =
      let last = g.front ++ g.braces in
      let close : List Token = sign 125 ∷ [] in
      let w = chain_wrote n (f.front ++ b ∷ []) (f.tokens ++ (last ++ close))
      (chain_of (BlockWithin n) by_brace f.front f.tokens b last f.before g.spelled) in
      let same : (f.tokens ++ g.front) ++ (g.braces ++ close) ≡ f.tokens ++ (last ++ close) =
      append_assoc f.tokens g.front (g.braces ++ close) ∙
      ap (λ (l : List Token). f.tokens ++ l) (sym (append_assoc g.front g.braces close)) in
      record {
        front = sign 123 ∷ (f.tokens ++ g.front);
        rest = g.rest;
        begins = Begins-append (sign 123 ∷ f.tokens) g.front bytes rest g.rest f.begins g.begins;
        braces = g.braces ++ close;
        only = All-append IsBrace g.braces close g.only (All-cons IsBrace (sign 125) [] (inr refl) (All-nil IsBrace));
        spelled = record {
          body = w.body;
          spelled = w.spelled;
          within = w.within;
          tokens = ap (λ (l : List Token). sign 123 ∷ l) (same ∙ w.tokens);
        };
      }

  pub blocks_lack_room : LacksRoom block_count (BlockWithin n) t rest (block_at (op_at n) n rest) →
      LacksRoom body_count (BodyWithin n) s bytes (blocks_at (op_at n) n bytes)
  blocks_lack_room h = (
    record {
      part = f.front ++ h.0.part ∷ [];
      begun = blocks_begun h.0.part h.0.begun;
      full = subst (IsFullFor s) (sym (blocks_counted (f.front ++ h.0.part ∷ [])))
          (last_full (BlockWithin n) by_brace block_count brace_at (block_at (op_at n) n) (sign 123 ∷ []) brace_found
          (block_found n (op_at n) (op_found n)) s t bytes rest (blocks_at (op_at n) n bytes) f h.0.part h.0.full);
    },
    λ y e. subst (IsFullFor s) (sym (blocks_counted y.0))
        (never_all (BlockWithin n) by_brace block_count brace_at (block_at (op_at n) n) (sign 123 ∷ []) brace_found
        (block_found n (op_at n) (op_found n)) s t bytes rest (blocks_at (op_at n) n bytes) f h.1 y e),
  )

-- ---- a module or a function

module _ {O B : Type 0} (n : ℕ) (k : BodyKind) (names : ℕ) (s t : Nodes O B) (bytes behind : List ℕ) (h : Header)
    (none : 0 ≡ names) (head : header_at n k bytes ≡ Ok (h, behind)) where
  bodied_is : (y : OpTerm × List ℕ) → bodied_at (op_at n) n k names bytes ≡ Ok y →
      (x : List BlockTerm × List ℕ) × (blocks_at (op_at n) n behind ≡ Ok x) × (y.0 ≡ op_term h (blocks_of x.0))
  unfolding bodied_at
  bodied_is y e =
      let a = bind_ok (named 0 names)
      (λ u. header_at n k bytes >>= λ h. blocks_at (op_at n) n h.1 >>= λ bs. done (op_term h.0 (blocks_of bs.0), bs.1))
      y e in
      let b = bind_ok (header_at n k bytes)
      (λ h. blocks_at (op_at n) n h.1 >>= λ bs. done (op_term h.0 (blocks_of bs.0), bs.1)) y a.2 in
      let d = bind_ok (blocks_at (op_at n) n b.0.1) (λ bs. done (op_term b.0.0 (blocks_of bs.0), bs.1)) y b.2 in
      let same : (h, behind) ≡ b.0 = ok_is (h, behind) b.0 (sym head ∙ b.1) in (
        d.0,
        subst (λ (z : Header × List ℕ). blocks_at (op_at n) n z.1 ≡ Ok d.0) (sym same) d.1,
        sym (ap (λ (z : OpTerm × List ℕ). z.0) (ok_is (op_term b.0.0 (blocks_of d.0.0), d.0.1) y d.2)) ∙
            ap (λ (z : Header × List ℕ). op_term z.0 (blocks_of d.0.0)) (sym same),
      )

  no_blocks_begun : IsBegun (BodyWithin n) behind []
  no_blocks_begun = record {
    front = [];
    rest = behind;
    begins = refl;
    braces = sign 123 ∷ sign 125 ∷ [];
    only = All-cons IsBrace (sign 123) (sign 125 ∷ []) (inl refl)
        (All-cons IsBrace (sign 125) [] (inr refl) (All-nil IsBrace));
    spelled = record { body = []; spelled = refl; within = omega arith; tokens = refl };
  }

  -- there is no room for the operation itself with its region
  pub bodied_lacks_room : IsFullFor s one_with_region →
      BodyBeginsTooMany s n k names bytes × HasNoRoom op_count s (bodied_at (op_at n) n k names bytes)
  bodied_lacks_room full = (
    record {
      none = none;
      header = h;
      behind = behind;
      is = head;
      part = [];
      begun = no_blocks_begun;
      full = full;
    },
    λ y e. let x = bodied_is y e in
        subst (λ w. IsFullFor s (op_count w)) (sym x.2)
        (full_more s one_with_region (together one_with_region (body_count x.0.0)) (part_at_most one_with_region
        (body_count x.0.0)) full),
  )

  -- there is none for its blocks
  pub body_lacks_room : HaveCome s t one_with_region →
      LacksRoom body_count (BodyWithin n) t behind (blocks_at (op_at n) n behind) →
      BodyBeginsTooMany s n k names bytes × HasNoRoom op_count s (bodied_at (op_at n) n k names bytes)
  body_lacks_room come g = (
    record {
      none = none;
      header = h;
      behind = behind;
      is = head;
      part = g.0.part;
      begun = g.0.begun;
      full = full_before s t one_with_region (body_count g.0.part) come g.0.full;
    },
    λ y e. let x = bodied_is y e in
        subst (λ w. IsFullFor s (op_count w)) (sym x.2)
        (full_before s t one_with_region (body_count x.0.0) come (g.1 x.0 x.1)),
  )

-- ---- an operation

-- a module or a function behind its id, with n - 1 levels left
pub op_lacks_room : {O B : Type 0} (s : Nodes O B) (n : ℕ) (k : BodyKind) (ws : List (List ℕ)) (names : ℕ)
    (bytes rest : List ℕ) → 0 < n → start_at bytes ≡ Ok ((ws, Bodied k), rest) → length ws ≡ names →
    BodyBeginsTooMany s (n - 1) k names rest → BeginsTooMany op_count (OpWithin n) s bytes
op_lacks_room s n k ws names bytes rest lt start many h =
    let id = bare_id bytes ws (Bodied k) rest (start_found bytes ((ws, Bodied k), rest) start) (h.none ∙ sym many) in
    let f = header_found (n - 1) k bytes rest (h.header, h.behind) id h.is in
    let g = h.begun in
    let same : (f.tokens ++ g.front) ++ g.braces ≡ f.tokens ++ enclosed 123 g.spelled.body 125 =
    append_assoc f.tokens g.front g.braces ∙ ap (λ (l : List Token). f.tokens ++ l) g.spelled.tokens in
    record {
      part = op_term h.header (blocks_of h.part);
      begun = record {
        front = f.tokens ++ g.front;
        rest = g.rest;
        begins = Begins-append f.tokens g.front bytes h.behind g.rest f.begins g.begins;
        braces = g.braces;
        only = g.only;
        spelled = (
          (f.tokens, g.spelled.body, f.spelled.0, g.spelled.spelled, same),
          omega (arith, f.spelled.1, g.spelled.within, lt),
        );
      };
      full = h.full;
    }

-- an operation that was read has no room
pub read_lacks_room : {O B : Type 0} (s : Nodes O B) (n : ℕ) (bytes : List ℕ) (x : OpTerm × List ℕ) →
    op_at n bytes ≡ Ok x → IsFullFor s (op_count x.0) → LacksRoom op_count (OpWithin n) s bytes (op_at n bytes)
read_lacks_room s n bytes x e full = (
  record { part = x.0; begun = begun_found (OpWithin n) bytes x.1 x.0 (op_found n bytes x e); full = full },
  λ y h. subst (λ (z : OpTerm × List ℕ). IsFullFor s (op_count z.0)) (ok_is x y (sym e ∙ h)) full,
)
