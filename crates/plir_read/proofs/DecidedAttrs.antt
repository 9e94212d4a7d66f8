-- The tokens decide what is read of attributes, and which fault is met in one.
use Rattle.std.proofs.Common.{◌≡◌, ℕ, zero, suc, ◌^◌, nat_lt, Bool, true, false, cond}
use Rattle.std.proofs.Common.{List, [], ◌∷◌, codes, Option, Some, None, Result, Ok, Err, refl, sym, ap, ◌∙◌}
use Rattle.std.proofs.Common.{inl, inr}
use Rattle.std.specs.Str.{bytes_eq, is_utf8}
use Rattle.std.proofs.lemmas.Bool.{ltb-false}
use Rattle.plir_data.specs.Identifier.{is_identifier}
use Rattle.plir_attr_text.specs.declared.attr_words.AttrKind.{AttrKind}
use Rattle.plir_attr_text.specs.declared.attr_words.AttrKind.TheVariants as kinds
use Rattle.plir_attr_text.specs.declared.fault.Fault.{Fault}
use Rattle.plir_attr_text.specs.declared.fault.Fault.TheVariants.{Unexpected, IntegerOutOfRange}
use Rattle.plir_attr_text.specs.AttrReading.{attr_kind, attr_head, name_at, bool_at, text_at, as_size, size_at}
use Rattle.plir_attr_text.specs.AttrReading.{unless_unset, given_name_at}
use Rattle.plir_attr_text.specs.AttrReading.{value_at, entry_at, attr_body, attr_at}
use Rattle.plir_attr_text.specs.Lists.{sign_at, past_sign, items_at}
use Rattle.plir_attr_text.specs.Steps.{◌>>=◌}
use Rattle.plir_attr_text.specs.Strings.{string_at}
use Rattle.plir_attr_text.specs.Terms.{AttrTerm}
use Rattle.plir_attr_text.specs.Tokens.{Token, word, digits, signed, quoted, arrow, sign, look}
use Rattle.plir_attr_text.specs.TypeReading.{type_at}
use Rattle.plir_attr_text.specs.laws.AttrsFound.{attr_at-shorter, entry_at-shorter}
use Rattle.plir_attr_text.specs.laws.Begun.{sign_found, sign_again}
use Rattle.plir_attr_text.specs.laws.LeavesAgain.{string_again}
use Rattle.plir_attr_text.specs.laws.LeavesFound.{string_found, size_at-shorter, given_name_at-shorter}
use Rattle.plir_attr_text.specs.laws.StepLaws.{chosen}
use Rattle.plir_read.specs.FaultsMet.{IsWrong, a_string}
use Rattle.plir_read.proofs.DecidedTypes.{steady_sign, WordAnswers, steady_word, steady_made, steady_deep}
use Rattle.plir_read.proofs.DecidedTypes.{steady_closed}
use Rattle.plir_read.proofs.DecidedTypes.{closed, steady_items, wrong_word, else_err, steady_type}
use Rattle.plir_read.proofs.DecidedValues.{firm_of, steady_value}
use Rattle.plir_read.proofs.Deciding.{pairs, bare, Stopping, Steady, decided_as, bind_err, err_first, ok_first}
use Rattle.plir_read.proofs.Deciding.{steady_as, steady_bind, steady_done}
use Rattle.plir_read.proofs.OneToken.{Answers, steady_token}

-- ---- words and numbers

pub steady_name : Steady pairs name_at
unfolding name_at
steady_name =
    steady_word (λ w r. cond (is_identifier w) (Ok (w, r)) (Err Unexpected)) (λ w. at w (is_identifier w) refl)
  where
    at : (w : List ℕ) (c : Bool) → is_identifier w ≡ c →
        WordAnswers (λ w r. cond (is_identifier w) (Ok (w, r)) (Err Unexpected)) w
    at w true e = inl (w, λ r. rw e refl)
    at w false e = inr (Unexpected, (word w, refl), λ r. rw e refl)

steady_bool : Steady pairs bool_at
unfolding bool_at
steady_bool =
    steady_word (λ w r. cond (bytes_eq w (codes "true")) (Ok (true, r))
    (cond (bytes_eq w (codes "false")) (Ok (false, r)) (Err Unexpected)))
    (λ w. at w (bytes_eq w (codes "true")) (bytes_eq w (codes "false")) refl refl)
  where
    at : (w : List ℕ) (c d : Bool) → bytes_eq w (codes "true") ≡ c → bytes_eq w (codes "false") ≡ d →
        WordAnswers (λ w r. cond (bytes_eq w (codes "true")) (Ok (true, r))
        (cond (bytes_eq w (codes "false")) (Ok (false, r)) (Err Unexpected))) w
    at w true d e g = inl (true, λ r. rw e refl)
    at w false true e g = inl (false, λ r. rw (e, g) refl)
    at w false false e g = inr (Unexpected, (word w, refl), λ r. rw (e, g) refl)

steady_size : Steady pairs size_at
unfolding size_at
steady_size = steady_token pairs as_size at
  where
    number : (n : ℕ) (c : Bool) → nat_lt n (2 ^ 32) ≡ c → Answers pairs as_size (digits n)
    number n true e = inl ((n, []), λ r. rw e refl)
    number n false e = inr (IntegerOutOfRange, inr (inl (n, ltb-false n (2 ^ 32) e, refl)), λ r. rw e refl)

    at : (t : Token) → Answers pairs as_size t
    at (digits n) = number n (nat_lt n (2 ^ 32)) refl
    at (word w) = inr (Unexpected, (word w, refl), λ r. refl)
    at (signed s n) = inr (Unexpected, (signed s n, refl), λ r. refl)
    at (quoted q) = inr (Unexpected, (quoted q, refl), λ r. refl)
    at arrow = inr (Unexpected, (arrow, refl), λ r. refl)
    at (sign b) = inr (Unexpected, (sign b, refl), λ r. refl)

steady_given_name : Steady pairs given_name_at
unfolding given_name_at
steady_given_name =
    steady_as pairs (λ z. unless_unset (past_sign 63 z) (name_at z >>= λ w. Ok (Some w.0, w.1))) _
    (λ z. same (past_sign 63 z) (name_at z >>= λ w. Ok (Some w.0, w.1)))
    (steady_closed 63 None (λ z. name_at z >>= λ w. Ok (Some w.0, w.1))
    (steady_bind pairs name_at steady_name pairs _ (λ w. steady_done _)))
  where
    same : (o : Option (List ℕ)) (m : Result (Option (List ℕ) × List ℕ) Fault) → unless_unset o m ≡
        closed 63 None (λ z. m) o m
    same (Some r) m = refl
    same None m = refl

-- ---- strings

stops_text : Stopping text_at
unfolding text_at
stops_text bytes f e =
    elim (bind_err (sign_at 34 bytes) (λ inside. string_at inside >>=
    λ s. cond (is_utf8 s.0) (Ok (s.0, s.1)) (Err Unexpected)) f e) [
      | inl p ↦ decided_as (λ o q. err_first (sign_at 34 o) _ f q) bytes f ((steady_sign 34).stops bytes f p)
      | inr p ↦ record {
        tokens = [];
        rest = bytes;
        begins = refl;
        behind = a_string p.0;
        comes = sign_found 34 bytes p.0 p.1;
        cause = elim (bind_err (string_at p.0) (λ s. cond (is_utf8 s.0) (Ok (s.0, s.1)) (Err Unexpected)) f p.2) [
          | inl q ↦ inl q
          | inr q ↦ elim (chosen (is_utf8 q.0.0) _ _ _ q.2) [
            | inl k ↦ absurd (let v = k.1 in cc)
            | inr k ↦
                let same : Unexpected ≡ f = let v = k.1 in cc in
                inr (sym same, (q.0.0, q.0.1, q.1, k.0))
          ]
        ];
        decided = λ o r b c. ok_first (sign_at 34 o) _ p.0 (Err f) (sign_again 34 o p.0 (ap look b ∙ c)) p.2;
      }
    ]

steady_text : Steady pairs text_at
steady_text = record { firm = firm_of _ text_at string_found string_again; stops = stops_text }

-- ---- attributes

kind_wrong : (w : List ℕ) (f : Fault) → attr_kind w ≡ Err f → IsWrong f (word w ∷ [])
unfolding attr_kind
kind_wrong w f e = wrong_word w f (else_err (bytes_eq w (codes "builtin.given_names")) kinds.GivenNames _ f (else_err
    (bytes_eq w (codes "builtin.operand_segment_sizes")) kinds.OperandSegmentSizes _ f (else_err (bytes_eq w (codes
    "builtin.type")) kinds.TypeOf _ f (else_err (bytes_eq w (codes "builtin.unit")) kinds.Unit _ f (else_err (bytes_eq
    w (codes "builtin.vec")) kinds.Vec _ f (else_err (bytes_eq w (codes "builtin.dict")) kinds.Dict _ f (else_err
    (bytes_eq w (codes "builtin.integer")) kinds.Integer _ f (else_err (bytes_eq w (codes "builtin.bool")) kinds.Bool
    _ f (else_err (bytes_eq w (codes "builtin.string")) kinds.String _ f (else_err (bytes_eq w (codes
    "builtin.identifier")) kinds.Identifier _ f e))))))))))

steady_head : Steady pairs attr_head
unfolding attr_head
steady_head = steady_made attr_kind kind_wrong

pub steady_entry : (read : List ℕ → Result (AttrTerm × List ℕ) Fault) → Steady pairs read →
    Steady pairs (entry_at read)
unfolding entry_at
steady_entry read attrs =
    steady_bind pairs name_at steady_name pairs _ (λ k. steady_bind bare (sign_at 61) (steady_sign 61) pairs _
    (λ b. steady_bind pairs read attrs pairs _ (λ x. steady_done _)))

module _ (n : ℕ) (attrs : Steady pairs (attr_at n)) where
  steady_body : (k : AttrKind) → Steady pairs (attr_body n (attr_at n) k)
  steady_body kinds.Identifier = steady_bind pairs name_at steady_name pairs _ (λ w. steady_done _)
  steady_body kinds.String = steady_bind pairs text_at steady_text pairs _ (λ s. steady_done _)
  steady_body kinds.Bool = steady_bind pairs bool_at steady_bool pairs _ (λ b. steady_done _)
  steady_body kinds.Integer = steady_bind pairs (value_at n) (steady_value n) pairs _ (λ v. steady_done _)
  steady_body kinds.Dict =
      steady_bind pairs (items_at 91 93 (entry_at (attr_at n)))
      (steady_items (entry_at (attr_at n)) (steady_entry (attr_at n) attrs) (entry_at-shorter n) 91 93) pairs _
      (λ es. steady_done _)
  steady_body kinds.Vec =
      steady_bind pairs (items_at 91 93 (attr_at n)) (steady_items (attr_at n) attrs (attr_at-shorter n) 91 93) pairs _
      (λ xs. steady_done _)
  steady_body kinds.Unit = steady_done _
  steady_body kinds.TypeOf = steady_bind pairs (type_at n) (steady_type n) pairs _ (λ t. steady_done _)
  steady_body kinds.OperandSegmentSizes =
      steady_bind pairs (items_at 91 93 size_at) (steady_items size_at steady_size size_at-shorter 91 93) pairs _
      (λ ns. steady_done _)
  steady_body kinds.GivenNames =
      steady_bind pairs (items_at 91 93 given_name_at)
      (steady_items given_name_at steady_given_name given_name_at-shorter 91 93) pairs _ (λ ns. steady_done _)

pub steady_attr : (n : ℕ) → Steady pairs (attr_at n)
unfolding attr_at
steady_attr zero = steady_deep
steady_attr (suc n) =
    steady_bind pairs attr_head steady_head pairs (λ h. attr_body n (attr_at n) h.0 h.1)
    (λ h. steady_body n (steady_attr n) h.0)
