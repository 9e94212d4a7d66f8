-- What reading has made, step by step.
use Rattle.std.proofs.Common.{◌≡◌, ◌<◌, ◌+◌, ℕ, false, List, [], ◌∷◌, length, Result, Ok, Option, Some, None, sym}
use Rattle.std.proofs.Common.{IfOk, Bor, subst, ◌∙◌, arith}
use Rattle.std.proofs.lemmas.Option.{same_Some}
use Rattle.std.proofs.lemmas.Result.{IfOk-weaker}
use Rattle.plir_core.specs.Contents.{OpView}
use Rattle.plir_core.specs.ContextView.{ContextView, IsLive, is_live}
use Rattle.plir_core.specs.Grown.{Growth}
use Rattle.plir_core.specs.Made.{IsMade}
use Rattle.plir_core.specs.Standing.{IsStanding}
use Rattle.plir_core.specs.Stored.{IsStored}
use Rattle.plir_core.specs.declared.ptr.Ptr.{Ptr}
use Rattle.plir_core.specs.declared.ptr.Operation.{Operation as OperationKind}
use Rattle.plir_core.specs.declared.ptr.Region.{Region as RegionKind}
use Rattle.plir_core.specs.declared.ptr.IRNode.{IRNode}
use Rattle.plir_core.specs.declared.ptr.IRNode.TheVariants.{Operation, Region}
use Rattle.plir_attr_text.specs.Names.{AreNamed, Grows}
use Rattle.plir_attr_text.specs.Lists.{past_sign, sign_at}
use Rattle.plir_attr_text.specs.Tokens.{sign}
use Rattle.plir_attr_text.specs.TypesWritten.{IsWrittenIn}
use Rattle.plir_attr_text.specs.laws.Begun.{Begins-length, look-shorter, past_sign_found, sign_found}
use Rattle.plir_attr_text.specs.laws.Ends.{end_on, sign_end, takes_end}
use Rattle.plir_read.specs.Keeping.{KeepsBut, KeepsOlder, IsNewOp}
use Rattle.plir_read.specs.Slots.{AreGivenOut, IsMadeInOrder}
use Rattle.plir_read.specs.laws.Kept.{KeepsBut-itself, KeepsBut-on}
use Rattle.plir_read.specs.laws.OpMade.{KeepsOlder-made, KeepsOlder-on, KeepsOlder-typed, body_kept, op_kept, op_made}
use Rattle.plir_read.specs.laws.OpMade.{root_grown}
use Rattle.plir_read.specs.laws.TreesInOrder.{op_in_order, root_in_order}
use Rattle.plir_read.specs.laws.TypesNamed.{behind_named, named_itself, named_on, named_still}
use Rattle.plir_read_ir.proofs.Lefts.{IsShorter}
use Rattle.plir_read_ir.specs.Progress.{HasGrown, HasRead, IsBehind, IsReading}

-- an end of a text is not longer
pub behind_length : (bytes rest : List ℕ) → IsBehind bytes rest → length rest < length bytes + 1
behind_length bytes rest b = omega (arith, Begins-length b.0 bytes rest b.1)

pub sign_shorter : (b : ℕ) (bytes rest : List ℕ) → sign_at b bytes ≡ Ok rest → length rest < length bytes
sign_shorter b bytes rest e = look-shorter bytes (sign b, rest) (sign_found b bytes rest e)

-- behind a sign, and one more
pub braces_end : (bytes start rest : List ℕ) → sign_at 123 bytes ≡ Ok start → past_sign 125 start ≡ Some rest →
    IsBehind bytes rest
braces_end bytes start rest p q =
    end_on bytes start rest (sign_end 123 bytes start p)
    (takes_end start (sign 125) rest (past_sign_found 125 start rest q))

pub braces_shorter : (bytes start rest : List ℕ) → sign_at 123 bytes ≡ Ok start → past_sign 125 start ≡ Some rest →
    length rest < length bytes
braces_shorter bytes start rest p q =
    omega (arith, sign_shorter 123 bytes start p, look-shorter start (sign 125, rest) (past_sign_found 125 start rest q))

module _ {K A T : Type 0} where
  pub reading_itself : (bytes : List ℕ) (but : Option IRNode) (s : ContextView K A T) → IsReading bytes but s s
  reading_itself bytes but s = record { kept = KeepsBut-itself s but; named = named_itself bytes s.types }

  -- types that are read
  pub reading_typed : (bytes : List ℕ) (a s : ContextView K A T) → s.nodes ≡ a.nodes → Grows a.types s.types →
      AreNamed (IsWrittenIn bytes) a.types s.types → IsReading bytes None a s
  reading_typed bytes a s same grown named = record { kept = KeepsOlder-typed a s same grown; named = named }

  -- and then what leaves the types as they were
  pub reading_kept : (bytes : List ℕ) (a s t : ContextView K A T) → IsReading bytes None a s → KeepsOlder s t →
      t.types ≡ s.types → IsReading bytes None a t
  reading_kept bytes a s t r k e = record {
    kept = KeepsOlder-on a s t r.kept k;
    named = named_still bytes a.types s.types t.types e r.named;
  }

  pub reading_made : (bytes : List ℕ) (a s t : ContextView K A T) (n : IRNode) → IsReading bytes None a s →
      IsMade s.nodes t.nodes n → t.types ≡ s.types → IsReading bytes None a t
  reading_made bytes a s t n r m e = reading_kept bytes a s t r (KeepsOlder-made s t n m e) e

  -- what is read behind the front of a text
  pub reading_behind : (bytes rest : List ℕ) (but : Option IRNode) (s t : ContextView K A T) → IsBehind bytes rest →
      IsReading rest but s t → IsReading bytes but s t
  reading_behind bytes rest but s t b r = record {
    kept = r.kept;
    named = behind_named bytes rest s.types t.types b r.named;
  }

  new_apart : (s : ContextView K A T) (n m : IRNode) → is_live s n ≡ false → IsLive s m → Some n ≡ Some m → ⊥
  new_apart s n m new e q = let f = subst (λ z. IsLive s z) (sym (same_Some n m q)) e in let z = sym f ∙ new in cc

  -- what is read inside a node that was not there before
  pub reading_inside : (bytes rest : List ℕ) (a t u : ContextView K A T) (o : IRNode) → is_live a o ≡ false →
      IsBehind bytes rest → IsReading bytes None a t → IsReading rest (Some o) t u → IsReading bytes None a u
  reading_inside bytes rest a t u o new b r q = record {
    kept = KeepsBut-on a t u None (Some o) (λ m e h z. new_apart a o m new e z) r.kept q.kept;
    named = named_on bytes a.types t.types u.types q.kept.types r.named
        (behind_named bytes rest t.types u.types b q.named);
  }

  -- a node, and what is read inside it
  pub root_read : (bytes rest end : List ℕ) (a s t u : ContextView K A T) (n : IRNode) → s.nodes ≡ a.nodes →
      Growth s.nodes → IsStored t.nodes → IsStanding u → IsMade s.nodes t.nodes n → AreGivenOut s.nodes (n ∷ []) t.nodes
      → IsBehind bytes rest → HasGrown rest end t u n → HasRead bytes end a u n
  root_read bytes rest end a s t u n same growth f w m slots b h = record {
    made = subst (λ z. IsMade z u.nodes n) same (root_grown s t u n growth f m h.grown);
    in_order = subst (λ z. IsMadeInOrder z u.nodes n) same (root_in_order s t u n w slots h.in_order);
    behind = end_on bytes rest end b h.behind;
  }

  -- an operation with its region, and what is read inside that
  pub op_read : (bytes rest end : List ℕ) (a s t u : ContextView K A T) (p : Ptr OperationKind) (r : Ptr RegionKind)
      (v : OpView K A) → s.nodes ≡ a.nodes → Grows a.types s.types → Growth s.nodes → IsStored t.nodes → IsStanding t →
      IsStanding u → IsNewOp s t p r v → AreGivenOut s.nodes (Operation p ∷ Region r ∷ []) t.nodes →
      IsBehind bytes rest → KeepsBut t u (Some (Region r)) → HasGrown rest end t u (Region r) →
      HasRead bytes end a u (Operation p)
  op_read bytes rest end a s t u p r v same types growth f y w n slots b k h = record {
    made = op_made a s t u p r v y same types n growth f h.grown;
    in_order = subst (λ z. IsMadeInOrder z u.nodes (Operation p)) same
        (op_in_order s t u p r w (body_kept a s t u p r v y same types n k) slots h.in_order);
    behind = end_on bytes rest end b h.behind;
  }

  -- and what was there
  pub op_reading : (bytes rest : List ℕ) (a s t u : ContextView K A T) (p : Ptr OperationKind) (r : Ptr RegionKind)
      (v : OpView K A) → s.nodes ≡ a.nodes → Grows a.types s.types → AreNamed (IsWrittenIn bytes) a.types s.types →
      IsStanding t → IsNewOp s t p r v → IsBehind bytes rest → IsReading rest (Some (Region r)) t u →
      IsReading bytes None a u
  op_reading bytes rest a s t u p r v same types named y n b q = record {
    kept = op_kept a s t u p r v y same types n q.kept;
    named = named_on bytes a.types t.types u.types q.kept.types (named_still bytes a.types s.types t.types n.types named)
        (behind_named bytes rest t.types u.types b q.named);
  }

  -- an operation that is read behind the front of a text
  pub read_behind : {E : Type 0} (bytes rest : List ℕ) (s t : ContextView K A T)
      (r : Result (Ptr OperationKind × Bor (List ℕ)) E) → IsShorter bytes rest →
      IfOk r (λ x. HasRead rest x.1.now s t (Operation x.0)) → IfOk r (λ x. HasRead bytes x.1.now s t (Operation x.0))
  read_behind bytes rest s t r l all =
      IfOk-weaker r (λ x. HasRead rest x.1.now s t (Operation x.0)) (λ x. HasRead bytes x.1.now s t (Operation x.0))
      (λ x h. record {
        made = h.made;
        in_order = h.in_order;
        behind = end_on bytes rest x.1.now l.behind h.behind;
      }) all

  -- and less of the text is left
  pub left_behind : {E : Type 0} (bytes rest : List ℕ) (s t : ContextView K A T)
      (r : Result (Ptr OperationKind × Bor (List ℕ)) E) → IsShorter bytes rest →
      IfOk r (λ x. HasRead rest x.1.now s t (Operation x.0)) → IfOk r (λ x. length x.1.now < length bytes)
  left_behind bytes rest s t r l all =
      IfOk-weaker r (λ x. HasRead rest x.1.now s t (Operation x.0)) (λ x. length x.1.now < length bytes)
      (λ x h. omega (arith, l.shorter, behind_length rest x.1.now h.behind)) all
