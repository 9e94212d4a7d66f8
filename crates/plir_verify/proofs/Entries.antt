-- The attributes that an operation holds, one after another.
use Rattle.std.proofs.Common.{◌≡◌, Bool, true, false, ℕ, List, [], ◌∷◌, ◌++◌, Result, Ok, Err, inl, inr, sym, subst}
use Rattle.std.proofs.Common.{◌∙◌}
use Rattle.std.proofs.Common.{append_assoc, refl, ap}
use Rattle.std.specs.Prelude.{All}
use Rattle.std.proofs.lemmas.List.Elements.{All-head, All-tail}
use Rattle.plir_store.specs.Members.{Has}
use Rattle.plir_data.specs.AttrLive.{HandlesLive, IsAttrLive}
use Rattle.plir_data.specs.AttrVerify.{attr_is_valid, IsRefusal}
use Rattle.plir_data.specs.AttrView.{AttrView}
use Rattle.plir_data.specs.Verify.{IsVerdict}
use Rattle.plir_data.specs.declared.attr_verify.AttrVerifyErr.{AttrVerifyErr}
use Rattle.plir_data.specs.declared.location.VerifyErr.{VerifyErr}
use Rattle.plir_data.specs.declared.location.VerifyErr.TheVariants.{Refused, Memory}
use Rattle.plir_data.specs.declared.op_set.OpSet as op_set
use Rattle.plir_core.specs.declared.ptr.Ptr.{Ptr}
use Rattle.plir_core.specs.declared.ptr.Operation.{Operation as OperationKind}
use Rattle.plir_core.specs.ContextView.{ContextView, attributes_of}
use Rattle.plir_verify.specs.Rules.{IsValid}
use Rattle.plir_verify.specs.RuleRefusals.{AreVerified}

-- what holds of all of a list holds of one of them
all-at : {X : Type 0} (P : X → Type 0) (xs : List X) (y : X) (ys : List X) → All P (xs ++ y ∷ ys) → P y
all-at P [] y ys h = All-head P y ys h
all-at P (x ∷ xs) y ys h = all-at P xs y ys (All-tail P x (xs ++ y ∷ ys) h)

module _ {D K A T E : Type 0} (o : op_set.Ghosts D K A T E) (s : ContextView K A T) (p : Ptr OperationKind) where
  abbrev is_valid : List ℕ × AttrView A → Bool
  is_valid e = attr_is_valid (o.attr_is_valid s.types) s.types e.1

  -- All before those that are left are valid.
  pub record IsVerifying (left : List (List ℕ × AttrView A)) : Type 0 where
    pub front : List (List ℕ × AttrView A)
    pub held : attributes_of s p ≡ front ++ left
    pub before : (e : List ℕ × AttrView A) → Has front e → is_valid e ≡ true

  -- what is to be looked at next is live
  pub entry-live : (own : A → List ℕ) (left more : List (List ℕ × AttrView A)) (y : List ℕ × AttrView A)
      → left ≡ y ∷ more → IsVerifying left → HandlesLive own s.types (attributes_of s p)
      → IsAttrLive own s.types y.1
  entry-live own left more y e h live =
      all-at (λ z. IsAttrLive own s.types z.1) h.front y more
      (subst (All (λ z. IsAttrLive own s.types z.1)) (h.held ∙ ap (λ z. h.front ++ z) e) live)

  pub begins : (left : List (List ℕ × AttrView A)) → left ≡ attributes_of s p → IsVerifying left
  begins left e = record { front = []; held = sym e; before = λ x h. absurd h }

  has-last : (xs : List (List ℕ × AttrView A)) (y x : List ℕ × AttrView A)
      → ((e : List ℕ × AttrView A) → Has xs e → is_valid e ≡ true) → is_valid y ≡ true
      → Has (xs ++ y ∷ []) x → is_valid x ≡ true
  has-last [] y x all v (inl e) = ap is_valid (sym e) ∙ v
  has-last [] y x all v (inr h) = absurd h
  has-last (z ∷ xs) y x all v (inl e) = all x (inl e)
  has-last (z ∷ xs) y x all v (inr h) = has-last xs y x (λ e g. all e (inr g)) v h

  pub goes-on : (left more : List (List ℕ × AttrView A)) (y : List ℕ × AttrView A) → left ≡ y ∷ more
      → IsVerifying left → is_valid y ≡ true → IsVerifying more
  goes-on left more y e h v = record {
    front = h.front ++ y ∷ [];
    held = h.held ∙ ap (λ z. h.front ++ z) e ∙ sym (append_assoc h.front (y ∷ []) more);
    before = λ x g. has-last h.front y x h.before v g;
  }

  pub all-verified : (left : List (List ℕ × AttrView A)) → left ≡ [] → IsVerifying left
      → (e : List ℕ × AttrView A) → Has (attributes_of s p) e → is_valid e ≡ true
  all-verified left none h e has =
      h.before e (end h.front (subst (λ z. Has z e) (h.held ∙ ap (λ z. h.front ++ z) none) has))
    where
      end : (xs : List (List ℕ × AttrView A)) → Has (xs ++ []) e → Has xs e
      end [] k = k
      end (x ∷ xs) (inl k) = inl k
      end (x ∷ xs) (inr k) = inr (end xs k)

  pub invalid-found : (left more : List (List ℕ × AttrView A)) (y : List ℕ × AttrView A) → left ≡ y ∷ more
      → IsVerifying left → (v : VerifyErr (AttrVerifyErr E))
      → IsVerdict (is_valid y) (IsRefusal (o.attr_is_valid s.types) (o.attr_refusal s.types) s.types y.1) (Err v)
      → AreVerified o s p (Err v)
  invalid-found left more y e h (Refused l err) r = record {
    front = h.front;
    entry = y;
    back = more;
    held = h.held ∙ ap (λ z. h.front ++ z) e;
    before = h.before;
    invalid = r.0;
    reported = r.2;
  }
  invalid-found left more y e h Memory r = tt
