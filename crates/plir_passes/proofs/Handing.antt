-- The illegal operations of a block are handed to `rewrite`, one after another.
use Rattle.std.proofs.Common.{◌≡◌, ◌≢◌, Bool, true, false, List, [], ◌∷◌, ◌++◌, Some, Result, Ok, Err}
use Rattle.std.proofs.Common.{inl, inr, refl, sym, ap, subst, ◌∙◌, append_assoc}
use Rattle.std.specs.List.{filter}
use Rattle.std.proofs.lemmas.List.{append-nil}
use Rattle.plir_data.specs.declared.op_set.OpKind.{OpKind}
use Rattle.plir_store.specs.Members.{Has}
use Rattle.plir_store.specs.MemberLaws.{Has-append_cases}
use Rattle.plir_core.specs.declared.ptr.Ptr.{Ptr}
use Rattle.plir_core.specs.declared.ptr.Operation.{Operation as OperationKind}
use Rattle.plir_core.specs.declared.ptr.BasicBlock.{BasicBlock as BasicBlockKind}
use Rattle.plir_core.specs.declared.ptr.IRNode.{IRNode}
use Rattle.plir_core.specs.declared.ptr.IRNode.TheVariants.{Operation, BasicBlock}
use Rattle.plir_core.specs.Above.{Reaches}
use Rattle.plir_core.specs.ContextView.{ContextView, children, parent_of}
use Rattle.plir_core.specs.Standing.{IsStanding}
use Rattle.plir_walk.specs.NodeLaws.{beside-apart, filter-agree}
use Rattle.plir_passes.specs.Legal.{is_illegal, HasLegalChildren}
use Rattle.plir_passes.specs.Rewritten.{IsRewriting}
use Rattle.plir_passes.specs.Rewrites.{Rewrites, Rewrite, ops_of, NoRefusal, AnswersFor, IsRewrite, AreRewrites}
use Rattle.plir_passes.specs.Rewrites.{IsBlockConverted}
use Rattle.plir_passes.specs.Passing.{said, IsHanded}
use Rattle.plir_passes.proofs.Keeping.{legal-kept}

-- a test that refuses all of a list leaves none of it
filter-none : {A : Type 0} (p : A → Bool) (xs : List A) → ((x : A) → Has xs x → p x ≡ false) → filter p xs ≡ []
filter-none p [] h = refl
filter-none p (x ∷ xs) h = (let e = h x (inl refl) in rw e (filter-none p xs (λ y k. h y (inr k))))

module _ {K A T E : Type 0} where
  ops-append : (xs ys : List (Rewrite K A T E)) → ops_of (xs ++ ys) ≡ ops_of xs ++ ops_of ys
  ops-append [] ys = refl
  ops-append (x ∷ xs) ys = ap (λ z. Operation x.op ∷ z) (ops-append xs ys)

  none-refused : (xs : List (Rewrite K A T E)) (x : Rewrite K A T E) → NoRefusal xs → x.answer ≡ Ok tt
      → NoRefusal (xs ++ x ∷ [])
  none-refused [] x h e = (e, tt)
  none-refused (y ∷ ys) x h e = (h.0, none-refused ys x h.1 e)

  -- where no operation was handed on, there was no call
  no-calls : (xs : List (Rewrite K A T E)) (ns : List IRNode) → ops_of xs ++ ns ≡ [] → xs ≡ []
  no-calls [] ns e = refl
  no-calls (x ∷ xs) ns e = (let z : ⊥ = cc e in absurd z)

module _ {K A T : Type 0} (illegal : OpKind K → Bool) where
  -- an operation of a block beside the one that is replaced is of the kind that it was of
  pub beside-kept : (s t : ContextView K A T) (b : Ptr BasicBlockKind) (op : Ptr OperationKind) → IsStanding s
      → parent_of s (Operation op) ≡ Some (BasicBlock b) → IsRewriting illegal s t b op → (a : IRNode)
      → Has (children s (BasicBlock b)) a → a ≢ Operation op → is_illegal illegal t a ≡ is_illegal illegal s a
  beside-kept s t b op w here f a h ne =
      legal-kept illegal s t (λ n. Reaches (parent_of s) n (Operation op) → ⊥) f.kept a
      (w.forest.child_live (BasicBlock b) a h)
      (beside-apart s w.measured (BasicBlock b) (Operation op) a here (w.forest.child_parent (BasicBlock b) a h) ne)

module _ {K A T E : Type 0} (illegal : OpKind K → Bool) (rewrites : Rewrites K A T E) where
  rewrites-more : (s m : ContextView K A T) (calls : List (Rewrite K A T E)) (x : Rewrite K A T E)
      → AreRewrites illegal rewrites s calls m → x.before ≡ m → IsRewrite illegal rewrites x
      → AreRewrites illegal rewrites s (calls ++ x ∷ []) x.after
  rewrites-more s m [] x h e r = (e ∙ h, r, refl)
  rewrites-more s m (y ∷ ys) x h e r = (h.0, h.1, rewrites-more y.after m ys x h.2 e r)

  -- From s to s' the illegal operations of the block b that are none of `back` were handed to `rewrite`, which refused
  -- none of them.
  pub record AreHanded (s : ContextView K A T) (b : Ptr BasicBlockKind) (s' : ContextView K A T)
      (back : List IRNode) : Type 0 where
    pub calls : List (Rewrite K A T E)
    pub chain : AreRewrites illegal rewrites s calls s'
    pub in_block : (x : Rewrite K A T E) → Has calls x → x.block ≡ b
    pub accepted : NoRefusal calls
    pub due : filter (is_illegal illegal s) (children s (BasicBlock b))
        ≡ ops_of calls ++ filter (is_illegal illegal s') back

  pub handed-none : (s : ContextView K A T) (b : Ptr BasicBlockKind) → AreHanded s b s (children s (BasicBlock b))
  handed-none s b = record {
    calls = [];
    chain = refl;
    in_block = λ x h. absurd h;
    accepted = tt;
    due = refl;
  }

  module _ (s : ContextView K A T) (b : Ptr BasicBlockKind) (s' : ContextView K A T) where
    -- all of them
    pub handed-all : AreHanded s b s' [] → IsBlockConverted illegal rewrites s b (Ok tt) s'
    handed-all r = record {
      calls = r.calls;
      chain = r.chain;
      in_block = r.in_block;
      answers = (r.accepted, sym (r.due ∙ append-nil (ops_of r.calls)));
    }

    module _ {X : Type 0} (op : Ptr OperationKind) (rest : List IRNode) (r : AreHanded s b s' (Operation op ∷ rest))
        (t : ContextView K A T) (answer : Result X E) (h : IsHanded illegal rewrites s' b op answer t) where
      abbrev call : Rewrite K A T E
      call = record { before = s'; block = b; op = op; answer = said answer; after = t }

      in-block : (x : Rewrite K A T E) → Has (r.calls ++ call ∷ []) x → x.block ≡ b
      in-block x k = elim (Has-append_cases r.calls (call ∷ []) x k) [
        | inl i ↦ r.in_block x i
        | inr (inl e) ↦ ap (λ z. z.block) (sym e)
        | inr (inr nay) ↦ absurd nay
      ]

      -- the operation is among those that were due, before the rest
      due-now : is_illegal illegal s' (Operation op) ≡ true
          → filter (is_illegal illegal s) (children s (BasicBlock b))
          ≡ ops_of (r.calls ++ call ∷ []) ++ filter (is_illegal illegal s') rest
      due-now i =
          r.due ∙ (rw i refl)
          ∙ sym (append_assoc (ops_of r.calls) (Operation op ∷ []) (filter (is_illegal illegal s') rest))
          ∙ ap (λ z. z ++ filter (is_illegal illegal s') rest) (sym (ops-append r.calls (call ∷ [])))

      -- one more
      pub handed-more : said answer ≡ Ok tt
          → ((a : IRNode) → Has rest a → is_illegal illegal t a ≡ is_illegal illegal s' a) → AreHanded s b t rest
      handed-more ok beside = elim h [
        | inl f ↦ subst (λ z. AreHanded s b z rest) (sym f.2) (record {
          calls = r.calls;
          chain = r.chain;
          in_block = r.in_block;
          accepted = r.accepted;
          due = r.due ∙ ap (λ z. ops_of r.calls ++ z) (skipped f.0);
        })
        | inr f ↦ record {
          calls = r.calls ++ call ∷ [];
          chain = rewrites-more s s' r.calls call r.chain refl f;
          in_block = in-block;
          accepted = none-refused r.calls call r.accepted ok;
          due = due-now f.due
              ∙ ap (λ z. ops_of (r.calls ++ call ∷ []) ++ z)
              (filter-agree (is_illegal illegal s') (is_illegal illegal t) rest (λ a k. sym (beside a k)));
        }
      ]
        where
          skipped : is_illegal illegal s' (Operation op) ≡ false
              → filter (is_illegal illegal s') (Operation op ∷ rest) ≡ filter (is_illegal illegal s') rest
          skipped e = rw e refl

      -- and it was refused
      pub handed-refused : (e : E) → said answer ≡ Err e → IsBlockConverted illegal rewrites s b (Err e) t
      handed-refused e err = elim h [
        | inl f ↦ absurd (let q = sym f.1 ∙ err in let z : ⊥ = cc q in z)
        | inr f ↦ record {
          calls = r.calls ++ call ∷ [];
          chain = rewrites-more s s' r.calls call r.chain refl f;
          in_block = in-block;
          answers = ((r.calls, call, refl, err, r.accepted), filter (is_illegal illegal s') rest, due-now f.due);
        }
      ]

  -- where no operation of a block is illegal, nothing is done
  pub block-idle : (s : ContextView K A T) (b : Ptr BasicBlockKind) (answer : Result (Unit {0}) E)
      (t : ContextView K A T) → IsBlockConverted illegal rewrites s b answer t
      → HasLegalChildren illegal s (BasicBlock b) → t ≡ s
  block-idle s b answer t f legal =
      subst (λ z. AreRewrites illegal rewrites s z t) (none answer f.answers) f.chain
    where
      due : filter (is_illegal illegal s) (children s (BasicBlock b)) ≡ []
      due = filter-none (is_illegal illegal s) (children s (BasicBlock b)) legal

      none : (a : Result (Unit {0}) E)
          → AnswersFor (filter (is_illegal illegal s) (children s (BasicBlock b))) f.calls a → f.calls ≡ []
      none (Ok u) h = no-calls f.calls [] (append-nil (ops_of f.calls) ∙ h.1 ∙ due)
      none (Err e) h = no-calls f.calls h.1 (sym h.2 ∙ due)
