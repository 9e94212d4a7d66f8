-- Lines, as far as a search has come.
use Rattle.std.proofs.Common.{◌≡◌, ◌+◌, ◌<◌, ◌≤◌, ℕ, suc, true, false, List, [], ◌∷◌, ◌++◌, arith, refl, sym, ap, ◌∙◌}
use Rattle.std.proofs.Common.{subst, inl, inr, length, take, drop, get_or, drop-cons, append_assoc, length-append}
use Rattle.std.proofs.lemmas.Bool.{true≢false}
use Rattle.std.proofs.lemmas.List.Elements.{All-append, All-cons, All-head, All-nil, All-tail}
use Rattle.plir_checks.specs.declared.checks.Check.{Check}
use Rattle.plir_checks.specs.declared.checks.CheckKind.{CheckKind}
use Rattle.plir_checks.specs.declared.checks.CheckKind.TheVariants.{Behind, Next}
use Rattle.plir_checks.specs.declared.meeting.Unmet.{Unmet}
use Rattle.plir_checks.specs.Blanks.{has_text}
use Rattle.plir_checks.specs.Meeting.{AllLack, AreMet, CanPass, IsMet, IsMetBehind, IsMissed, IsUnmet}

-- lines that have not what is sought stand in front of those that are left, and the next one has a number
pub record Passed (sought : List ℕ) (all left : List (List ℕ)) (next : ℕ) : Type 0 where
  pub front : List (List ℕ)
  pub cut : all ≡ front ++ left
  pub lack : AllLack sought front
  pub count : next ≡ length front + 1

pub passed_none : (sought : List ℕ) (all : List (List ℕ)) → Passed sought all all 1
passed_none sought all =
    record { front = []; cut = refl; lack = All-nil (λ l. has_text l sought ≡ false); count = refl }

module _ (sought : List ℕ) (all left rest : List (List ℕ)) (line : List ℕ) (next : ℕ)
    (p : Passed sought all left next) where
  one : has_text line sought ≡ false → AllLack sought (line ∷ [])
  one lacks = All-cons (λ l. has_text l sought ≡ false) line [] lacks (All-nil (λ l. has_text l sought ≡ false))

  -- one line more
  pub passed_more : left ≡ line ∷ rest → has_text line sought ≡ false → Passed sought all rest (next + 1)
  passed_more e lacks =
      record {
        front = p.front ++ line ∷ [];
        cut = p.cut ∙ ap (λ z. p.front ++ z) e ∙ sym (append_assoc p.front (line ∷ []) rest);
        lack = All-append (λ l. has_text l sought ≡ false) p.front (line ∷ []) p.lack (one lacks);
        count = omega (arith, p.count, length-append p.front (line ∷ []));
      }

  -- none further
  pub passed_all : left ≡ line ∷ [] → has_text line sought ≡ false → AllLack sought all
  passed_all e lacks =
      subst (AllLack sought) (sym (p.cut ∙ ap (λ z. p.front ++ z) e))
      (All-append (λ l. has_text l sought ≡ false) p.front (line ∷ []) p.lack (one lacks))

  -- the line that has it
  pub passed_met : left ≡ line ∷ rest → has_text line sought ≡ true → IsMetBehind Behind sought all next rest
  passed_met e have =
      (p.front, line, record { cut = p.cut ∙ ap (λ z. p.front ++ z) e; passed = p.lack; met = have }, p.count)

-- a check for the next line
pub met_next : (kind : CheckKind) (text : List ℕ) (lines : List (List ℕ)) (line : List ℕ) (behind : List (List ℕ)) →
    kind ≡ Next → lines ≡ line ∷ behind → has_text line text ≡ true → IsMetBehind kind text lines 1 behind
met_next kind text lines line behind is cut met =
    ([], line, record { cut = cut; passed = subst (λ k. CanPass k text []) (sym is) refl; met = met }, refl)

-- the line that meets a check is one alone
once_behind : (text : List ℕ) (f f' : List (List ℕ)) (l l' : List ℕ) (b b' : List (List ℕ)) →
    f ++ l ∷ b ≡ f' ++ l' ∷ b' → AllLack text f → AllLack text f' → has_text l text ≡ true →
    has_text l' text ≡ true → b ≡ b'
once_behind text [] [] l l' b b' e lack lack' have have' = cc
once_behind text [] (x ∷ f') l l' b b' e lack lack' have have' =
    let same : l ≡ x = cc in
    absurd (true≢false (sym have ∙ ap (λ z. has_text z text) same ∙ All-head (λ z. has_text z text ≡ false) x f' lack'))
once_behind text (x ∷ f) [] l l' b b' e lack lack' have have' =
    let same : l' ≡ x = cc in
    absurd (true≢false (sym have' ∙ ap (λ z. has_text z text) same ∙ All-head (λ z. has_text z text ≡ false) x f lack))
once_behind text (x ∷ f) (x' ∷ f') l l' b b' e lack lack' have have' =
    let rest : f ++ l ∷ b ≡ f' ++ l' ∷ b' = cc in
    once_behind text f f' l l' b b' rest (All-tail (λ z. has_text z text ≡ false) x f lack)
    (All-tail (λ z. has_text z text ≡ false) x' f' lack') have have'

once : (kind : CheckKind) (text : List ℕ) (ls f f' : List (List ℕ)) (l l' : List ℕ) (b b' : List (List ℕ)) →
    IsMet kind text ls f l b → IsMet kind text ls f' l' b' → b ≡ b'
once Behind text ls f f' l l' b b' m m' =
    once_behind text f f' l l' b b' (sym m.cut ∙ m'.cut) m.passed m'.passed m.met m'.met
once Next text ls f f' l l' b b' m m' =
    let e : l ∷ b ≡ l' ∷ b' =
    ap (λ z. z ++ l ∷ b) (sym m.passed) ∙ sym m.cut ∙ m'.cut ∙ ap (λ z. z ++ l' ∷ b') m'.passed in
    cc

-- what no line meets is met by none
lack_at : (text : List ℕ) (f : List (List ℕ)) (l : List ℕ) (b : List (List ℕ)) → AllLack text (f ++ l ∷ b) →
    has_text l text ≡ true → ⊥
lack_at text [] l b lack have = true≢false (sym have ∙ All-head (λ z. has_text z text ≡ false) l b lack)
lack_at text (x ∷ f) l b lack have =
    lack_at text f l b (All-tail (λ z. has_text z text ≡ false) x (f ++ l ∷ b) lack) have

missed : (kind : CheckKind) (text : List ℕ) (ls f : List (List ℕ)) (l : List ℕ) (b : List (List ℕ)) →
    IsMissed kind text ls → IsMet kind text ls f l b → ⊥
missed Behind text ls f l b lack m = lack_at text f l b (subst (AllLack text) m.cut lack) m.met
missed Next text ls f l b lack m =
    let first : ls ≡ l ∷ b = m.cut ∙ ap (λ z. z ++ l ∷ b) m.passed in
    lack_at text [] l [] (subst (λ z. AllLack text (take 1 z)) first lack) m.met

-- What checks and lines come to, once some checks are met: the others and the lines behind, the next of which has a
-- number.
pub record SoFar (checks : List Check) (lines : List (List ℕ)) (left : List Check) (behind : List (List ℕ)) (from : ℕ) :
    Type 0 where
  pub met : AreMet left behind → AreMet checks lines
  pub back : AreMet checks lines → AreMet left behind
  pub unmet : (u : Unmet) → IsUnmet left behind from u → IsUnmet checks lines 1 u
  pub count : from + length behind ≡ length lines + 1

pub so_far_none : (checks : List Check) (lines : List (List ℕ)) → SoFar checks lines checks lines 1
so_far_none checks lines = record { met = λ h. h; back = λ h. h; unmet = λ u h. h; count = omega arith }

module _ (checks : List Check) (lines : List (List ℕ)) (left : List Check) (behind : List (List ℕ)) (from : ℕ)
    (s : SoFar checks lines left behind from) (check : Check) (others : List Check) (is : left ≡ check ∷ others) where
  -- one check more
  pub so_far_more : (past next : ℕ) (rest : List (List ℕ)) →
      IsMetBehind check.kind check.text.now behind past rest → next ≡ from + past → SoFar checks lines others rest next
  so_far_more past next rest (front, line, m, p) e =
      record {
        met = λ h. s.met (subst (λ z. AreMet z behind) (sym is) (front, line, rest, m, h));
        back = λ h. back_to (subst (λ z. AreMet z behind) is (s.back h));
        unmet = λ u h. s.unmet u (subst (λ z. IsUnmet z behind from u) (sym is)
            (inr (front, line, rest, m, subst (λ k. IsUnmet others rest k u) (e ∙ ap (λ k. from + k) p) h)));
        count = omega (arith, s.count, ap length m.cut, length-append front (line ∷ rest), p, e);
      }
    where
      back_to : AreMet (check ∷ others) behind → AreMet others rest
      back_to (f, l, b, m', h) =
          subst (AreMet others) (once check.kind check.text.now behind f front l line b rest m' m) h

  -- a check that no line meets
  pub stop_here : IsMissed check.kind check.text.now behind → AreMet checks lines → ⊥
  stop_here lack h = by (subst (λ z. AreMet z behind) is (s.back h))
    where
      by : AreMet (check ∷ others) behind → ⊥
      by (f, l, b, m, _) = missed check.kind check.text.now behind f l b lack m

  pub stop_is : (u : Unmet) → IsMissed check.kind check.text.now behind → u.check ≡ check.line → u.from ≡ from →
      IsUnmet checks lines 1 u
  stop_is u lack c f = s.unmet u (subst (λ z. IsUnmet z behind from u) (sym is) (inl (lack, c, f)))

-- a check at a place
module _ (checks : List Check) (lines behind : List (List ℕ)) (i from : ℕ) (d : Check)
    (s : SoFar checks lines (drop i checks) behind from) (below : i < length checks) where
  pub met_at : (past next : ℕ) (rest : List (List ℕ)) →
      IsMetBehind (get_or checks i d).kind (get_or checks i d).text.now behind past rest → next ≡ from + past →
      SoFar checks lines (drop (i + 1) checks) rest next
  met_at past next rest m e =
      let one : i + 1 ≡ suc i = omega arith in
      subst (λ j. SoFar checks lines (drop j checks) rest next) (sym one)
      (so_far_more checks lines (drop i checks) behind from s (get_or checks i d) (drop (suc i) checks)
      (drop-cons checks i d below) past next rest m e)

  pub missed_at : IsMissed (get_or checks i d).kind (get_or checks i d).text.now behind → AreMet checks lines → ⊥
  missed_at lack =
      stop_here checks lines (drop i checks) behind from s (get_or checks i d) (drop (suc i) checks)
      (drop-cons checks i d below) lack

-- no more lines are passed than there are
pub room_for : (kind : CheckKind) (text : List ℕ) (lines : List (List ℕ)) (past : ℕ) (behind : List (List ℕ)) →
    IsMetBehind kind text lines past behind → past ≤ length lines
room_for kind text lines past behind (front, line, m, p) =
    omega (arith, p, ap length m.cut, length-append front (line ∷ behind))

-- the check at no place
abbrev pub no_check : Check
no_check = record { line = 0; kind = Behind; text = record { ref_ptr = (0, 0); now = [] } }

-- all checks are met
pub so_far_all : (checks : List Check) (lines : List (List ℕ)) (left : List Check) (behind : List (List ℕ)) (from : ℕ) →
    SoFar checks lines left behind from → left ≡ [] → AreMet checks lines
so_far_all checks lines left behind from s none = s.met (subst (λ z. AreMet z behind) (sym none) tt)
