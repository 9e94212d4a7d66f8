-- The tokens decide which fault a text meets.
use Rattle.std.proofs.Common.{◌≡◌, ◌≢◌, ℕ, zero, suc, ◌<◌, nat_eq, Bool, true, false, true≢false, cond, ◌&&◌}
use Rattle.std.proofs.Common.{List, [], ◌∷◌, ◌++◌, length, codes, Result, Ok, Err, refl, sym, ap, subst, ◌∙◌, arith}
use Rattle.std.proofs.Common.{inl}
use Rattle.std.proofs.Common.{inr}
use Rattle.std.proofs.lemmas.Bool.Decides.{Decides-eqb}
use Rattle.plir_data.specs.Identifier.{is_identifier, is_letter, is_digit}
use Rattle.plir_attr_text.specs.AttrGrammar.{SpellsIdentifier}
use Rattle.plir_attr_text.specs.AttrReading.{name_at}
use Rattle.plir_attr_text.specs.Bytes.{is_blank, past, begins}
use Rattle.plir_attr_text.specs.Lists.{separator_at, more_at}
use Rattle.plir_attr_text.specs.Steps.{◌>>=◌}
use Rattle.plir_attr_text.specs.Terms.{AttrTerm, TypeTerm}
use Rattle.plir_attr_text.specs.Tokens.{Token, word, sign, look, Begins, is_mark, token_at}
use Rattle.plir_attr_text.specs.Wholes.{if_none_left, end_at, whole}
use Rattle.plir_attr_text.specs.declared.fault.Fault.{Fault}
use Rattle.plir_attr_text.specs.declared.fault.Fault.TheVariants.{Unexpected, NResultsVerifyErr}
use Rattle.plir_attr_text.specs.declared.fault.Fault.TheVariants.{ForwardRefOpExistenceErr}
use Rattle.plir_attr_text.specs.laws.Begun.{Begins-append, Takes-shorter, word_again, closed_again, comma_again}
use Rattle.plir_attr_text.specs.laws.LeavesAgain.{name_again}
use Rattle.plir_attr_text.specs.laws.ListsFound.{After}
use Rattle.plir_attr_text.specs.laws.StepLaws.{chosen, done}
use Rattle.plir_read.specs.FaultsMet.{Meets, HasResults, more_names_and_id, names_and_id, IsWrong, anything, IsDecided}
use Rattle.plir_read.specs.OpGrammar.{OpWithin}
use Rattle.plir_read.specs.OpReading.{op_kind, op_id, names_at, names_before, start_at, named, first_name}
use Rattle.plir_read.specs.OpReading.{header_at, constant_at, named_constant_at, blocks_at, bodied_at, behind_id, op_at}
use Rattle.plir_read.specs.OpTerms.{OpTerm, op_term, constant_term, blocks_of}
use Rattle.plir_read.specs.declared.heads.BodyKind.{BodyKind}
use Rattle.plir_read.specs.declared.heads.BodyKind.TheVariants.{Module, Func}
use Rattle.plir_read.specs.declared.heads.HeadKind.{HeadKind}
use Rattle.plir_read.specs.declared.heads.HeadKind.TheVariants.{Bodied, Constant, ForwardRef}
use Rattle.plir_read.proofs.DecidedOps.{Start, steady_start, steady_header, steady_constant, steady_blocks}
use Rattle.plir_read.proofs.DecidedTypes.{steady_deep}
use Rattle.plir_read.proofs.OpAgain.{op_within_again}
use Rattle.plir_read.specs.laws.OpFound.{op_found}
use Rattle.plir_read.proofs.StartAgain.{last_again, next_again}
use Rattle.plir_read.specs.laws.StartFound.{id_of, NamesBefore, by_equals, start_found}
use Rattle.plir_read.proofs.Deciding.{fault, pairs, Stopping, Steady, decided_as, decided_behind, bind_err, err_first}
use Rattle.plir_read.proofs.Deciding.{ok_first, stops_bind, steady_bind, steady_done}
use Rattle.plir_read.proofs.OneToken.{plain, plain_takes, plain_looks}
use Rattle.plir_read.proofs.DecidedValues.{firm_of}

-- ---- names of results, and the id

abbrev AreNames : List (List ℕ) → Type 0
AreNames [] = Unit {0}
AreNames (w ∷ ws) = (is_identifier w ≡ true) × AreNames ws

-- names as they were found
record NamesAre (ws : List (List ℕ)) (id : List ℕ) (ts shape : List Token) : Type 0 where
  formed : AreNames ws
  tokens : ts ++ word id ∷ [] ≡ shape

more_names_are : (id : List ℕ) (ws : List (List ℕ)) (ts : List Token) → After SpellsIdentifier by_equals ws ts →
    NamesAre ws id ts (more_names_and_id ws id)
more_names_are id [] ts h = record { formed = tt; tokens = ap (λ (l : List Token). l ++ word id ∷ []) h }
more_names_are id (w ∷ ws) ts h =
    let rec = more_names_are id ws h.1 h.3 in
    record {
      formed = (h.2.0, rec.formed);
      tokens = ap (λ (l : List Token). l ++ word id ∷ []) h.4 ∙
          ap (λ (l : List Token). sign 44 ∷ ((l ++ h.1) ++ word id ∷ [])) h.2.1 ∙
          ap (λ (l : List Token). sign 44 ∷ word w ∷ l) rec.tokens;
    }

names_are : (id : List ℕ) (ws : List (List ℕ)) (ts : List Token) → NamesBefore ws ts →
    NamesAre ws id ts (names_and_id ws id)
names_are id [] ts h = record { formed = tt; tokens = ap (λ (l : List Token). l ++ word id ∷ []) h }
names_are id (w ∷ ws) ts h =
    let rec = more_names_are id ws h.1 h.3 in
    record {
      formed = (h.2.0, rec.formed);
      tokens = ap (λ (l : List Token). l ++ word id ∷ []) h.4 ∙
          ap (λ (l : List Token). (l ++ h.1) ++ word id ∷ []) h.2.1 ∙ ap (λ (l : List Token). word w ∷ l) rec.tokens;
    }

-- names that stand there are read
record NamesRead (ws : List (List ℕ)) (id o r : List ℕ) : Type 0 where
  mid : List ℕ
  reads : (k : ℕ) → length o < k → more_at (separator_at 61) name_at k o ≡ Ok (ws, mid)
  id_comes : look mid ≡ Ok (word id, r)

read_name : (w o mid : List ℕ) → is_identifier w ≡ true → look o ≡ Ok (word w, mid) → name_at o ≡ Ok (w, mid)
read_name w o mid f e = name_again w (word w ∷ []) o mid (f, refl) (mid, e, refl)

names_read : (id : List ℕ) (w : List ℕ) (ws : List (List ℕ)) (o r : List ℕ) → is_identifier w ≡ true → AreNames ws →
    Begins o (word w ∷ more_names_and_id ws id) r → NamesRead (w ∷ ws) id o r
names_read id w [] o r f n b =
    let s = b.2 in
    let i = s.2 in
    record {
      mid = s.0;
      reads = λ k lt. last_again (separator_at 61) name_at k w o b.0 s.0 lt (read_name w o b.0 f b.1)
          (closed_again 61 b.0 s.0 s.1);
      id_comes = i.1 ∙ ap (λ (z : List ℕ). done (word id, z)) i.2;
    }
names_read id w (v ∷ vs) o r f n b =
    let s = b.2 in
    let rec = names_read id v vs s.0 r n.0 n.1 s.2 in
    record {
      mid = rec.mid;
      reads = λ k lt. next_again (separator_at 61) name_at k w (v ∷ vs) o b.0 s.0 rec.mid lt (read_name w o b.0 f b.1)
          (comma_again 61 b.0 s.0 refl s.1)
          (omega (arith, Takes-shorter o (word w) b.0 b.1, Takes-shorter b.0 (sign 44) s.0 s.1)) rec.reads;
      id_comes = rec.id_comes;
    }

id_read : (k : HeadKind) (mid r : List ℕ) → look mid ≡ Ok (word (id_of k), r) → op_id mid ≡ Ok (k, r)
unfolding op_id op_kind
id_read (Bodied Module) mid r e = rw (word_again mid (codes "builtin.module") r e) refl
id_read (Bodied Func) mid r e = rw (word_again mid (codes "builtin.func") r e) refl
id_read Constant mid r e = rw (word_again mid (codes "builtin.constant") r e) refl
id_read ForwardRef mid r e = rw (word_again mid (codes "builtin.forward_ref") r e) refl

no_identifier : (k : HeadKind) → is_identifier (id_of k) ≡ false
no_identifier (Bodied Module) = refl
no_identifier (Bodied Func) = refl
no_identifier Constant = refl
no_identifier ForwardRef = refl

no_names_read : (k : HeadKind) (o r : List ℕ) → look o ≡ Ok (word (id_of k), r) → names_before o ≡ Ok ([], o)
unfolding names_before name_at
no_names_read k o r e = rw (word_again o (id_of k) r e, no_identifier k) refl

some_names_read : (w : List ℕ) (ws : List (List ℕ)) (id o r : List ℕ) → is_identifier w ≡ true → AreNames ws →
    Begins o (word w ∷ more_names_and_id ws id) r → (mid : List ℕ) × (names_before o ≡ Ok (w ∷ ws, mid)) ×
    (look mid ≡ Ok (word id, r))
unfolding names_before names_at
some_names_read w ws id o r f n b =
    let k = names_read id w ws o r f n b in
    (k.mid, rw (read_name w o b.0 f b.1) (k.reads (suc (length o)) (omega arith)), k.id_comes)

start_reads : (ws : List (List ℕ)) (k : HeadKind) (o r : List ℕ) → AreNames ws →
    Begins o (names_and_id ws (id_of k)) r → start_at o ≡ Ok ((ws, k), r)
unfolding start_at
start_reads [] k o r n b =
    let e : look o ≡ Ok (word (id_of k), r) = b.1 ∙ ap (λ (z : List ℕ). done (word (id_of k), z)) b.2 in
    rw (no_names_read k o r e, id_read k o r e) refl
start_reads (w ∷ ws) k o r n b =
    let m = some_names_read w ws (id_of k) o r n.0 n.1 b in
    rw (m.1, id_read k m.0 r m.2) refl

-- an operation's beginning as it stands
record StartsAs (bytes : List ℕ) (s : Start) : Type 0 where
  names : AreNames s.0.0
  begins : Begins bytes (names_and_id s.0.0 (id_of s.0.1)) s.1

starts_as : (bytes : List ℕ) (s : Start) → start_at bytes ≡ Ok s → StartsAs bytes s
starts_as bytes s e =
    let o = start_found bytes s e in
    let n = names_are (id_of s.0.1) s.0.0 o.names o.spelled in
    record {
      names = n.formed;
      begins =
          subst (λ (ts : List Token). Begins bytes ts s.1) n.tokens (Begins-append o.names (word (id_of s.0.1) ∷ [])
          bytes o.behind s.1 o.begins (s.1, o.id, refl));
    }

-- ---- operations

-- another number of names than results
not_named : (e k : ℕ) (f : Fault) → named e k ≡ Err f → (NResultsVerifyErr e k ≡ f) × (e ≢ k)
unfolding named
not_named e k f h =
    elim (chosen (nat_eq e k) (done tt) (fault (NResultsVerifyErr e k)) (Err f) h) [
      | inl p ↦ absurd (let v = p.1 in cc)
      | inr p ↦ let same : NResultsVerifyErr e k ≡ f = let v = p.1 in cc in
          (same, λ is. true≢false (sym ((Decides-eqb e k).1 is) ∙ p.0))
    ]

module _ {B : Type 0} (then : Start → Result B Fault) (bytes : List ℕ) (f : Fault) (s : Start)
    (e : start_at bytes ≡ Ok s) where
  -- the number of names is told, and what stands behind the id is read
  counted : (expected : ℕ) (body : List ℕ → Result B Fault) → HasResults (id_of s.0.1) expected →
      ((z : List ℕ) → then (s.0, z) ≡ (named expected (length s.0.0) >>= λ u. body z)) → Stopping body →
      then s ≡ Err f → IsDecided (λ o. (start_at o >>= then) ≡ Err f) bytes f
  counted expected body results is stops h =
      elim (bind_err (named expected (length s.0.0)) (λ u. body s.1) f (sym (is s.1) ∙ h)) [
        | inl p ↦
            let a = starts_as bytes s e in
            let ts = names_and_id s.0.0 (id_of s.0.1) in
            let n = not_named expected (length s.0.0) f p in
            record {
              tokens = ts;
              rest = s.1;
              begins = a.begins;
              behind = anything;
              comes = tt;
              cause = (
                [],
                ts,
                subst (λ (g : Fault). IsWrong g ts) n.0 (s.0.0, id_of s.0.1, refl, results, refl, n.1),
                refl,
              );
              decided = λ o r b c.
                  ok_first (start_at o) then (s.0, r) (Err f) (start_reads s.0.0 s.0.1 o r a.names b)
                  (is r ∙ err_first (named expected (length s.0.0)) _ f p);
            }
        | inr p ↦
            let k = steady_start.firm bytes s e in
            decided_behind k.tokens bytes s.1 f k.begins
            (λ o mid b n q. ok_first (start_at o) then (s.0, mid) (Err f) (k.again o mid b n)
            (is mid ∙ ok_first (named expected (length s.0.0)) _ p.0 (Err f) p.1 q)) (stops s.1 f p.2)
      ]

  -- a forward reference
  forward : s.0.1 ≡ ForwardRef → ((z : List ℕ) → then (s.0, z) ≡ Err ForwardRefOpExistenceErr) → then s ≡ Err f →
      IsDecided (λ o. (start_at o >>= then) ≡ Err f) bytes f
  forward kind is h =
      let a = starts_as bytes s e in
      let ts = names_and_id s.0.0 (id_of s.0.1) in
      let same : ForwardRefOpExistenceErr ≡ f = let v = sym (is s.1) ∙ h in cc in
      let here : ts ≡ names_and_id s.0.0 (codes "builtin.forward_ref") =
      ap (λ (k : HeadKind). names_and_id s.0.0 (id_of k)) kind in
      record {
        tokens = ts;
        rest = s.1;
        begins = a.begins;
        behind = anything;
        comes = tt;
        cause = ([], ts, subst (λ (g : Fault). IsWrong g ts) same (s.0.0, here), refl);
        decided = λ o r b c.
            ok_first (start_at o) then (s.0, r) (Err f) (start_reads s.0.0 s.0.1 o r a.names b)
            (is r ∙ ap fault same);
      }

module _ (n : ℕ) (ops : Steady pairs (op_at n)) where
  stops_body : (k : BodyKind) → Stopping {Y = OpTerm × List ℕ} (λ z. header_at n k z >>= λ h. blocks_at (op_at n) n
      h.1 >>=
      λ bs. done (op_term h.0 (blocks_of bs.0), bs.1))
  stops_body k =
      stops_bind pairs (header_at n k) (steady_header n k) _
      (λ h. (steady_bind pairs (blocks_at (op_at n) n) (steady_blocks n ops) pairs _ (λ bs. steady_done _)).stops)

  abbrev constant_of : List ℕ → (AttrTerm × TypeTerm) × List ℕ → Result (OpTerm × List ℕ) Fault
  constant_of w c = Ok (constant_term w c.0.0 c.0.1, c.1)

  stops_value : (w : List ℕ) → Stopping (λ z. constant_at n z >>= constant_of w)
  stops_value w = (steady_bind pairs (constant_at n) (steady_constant n) pairs _ (λ c. steady_done _)).stops

  abbrev behind_start : Start → Result (OpTerm × List ℕ) Fault
  behind_start s = behind_id (op_at n) n s.0.0 s.0.1 s.1

  constant_is : (ws : List (List ℕ)) (z : List ℕ) → behind_start ((ws, Constant), z) ≡
      (named 1 (length ws) >>= λ u. constant_at n z >>= constant_of (first_name ws))
  unfolding named_constant_at
  constant_is ws z = at (named 1 (length ws))
    where
      at : (r : Result (Unit {0}) Fault) →
          ((r >>= λ u. constant_at n z) >>= constant_of (first_name ws)) ≡
          (r >>= λ u. constant_at n z >>= constant_of (first_name ws))
      at (Ok u) = refl
      at (Err g) = refl

  stops_kind : (bytes : List ℕ) (f : Fault) (ws : List (List ℕ)) (k : HeadKind) (rest : List ℕ) →
      start_at bytes ≡ Ok ((ws, k), rest) → behind_start ((ws, k), rest) ≡ Err f →
      IsDecided (λ o. (start_at o >>= behind_start) ≡ Err f) bytes f
  unfolding bodied_at
  stops_kind bytes f ws (Bodied Module) rest e h =
      counted behind_start bytes f ((ws, Bodied Module), rest) e 0 _ (inl (refl, refl)) (λ z. refl) (stops_body
      Module) h
  stops_kind bytes f ws (Bodied Func) rest e h =
      counted behind_start bytes f ((ws, Bodied Func), rest) e 0 _ (inr (inl (refl, refl))) (λ z. refl)
      (stops_body Func) h
  stops_kind bytes f ws Constant rest e h =
      counted behind_start bytes f ((ws, Constant), rest) e 1 _ (inr (inr (refl, refl))) (constant_is ws)
      (stops_value (first_name ws)) h
  stops_kind bytes f ws ForwardRef rest e h =
      forward behind_start bytes f ((ws, ForwardRef), rest) e refl (λ z. refl) h

  stops_behind : Stopping (λ o. start_at o >>= behind_start)
  stops_behind bytes f e =
      elim (bind_err (start_at bytes) behind_start f e) [
        | inl p ↦ decided_as (λ o q. err_first (start_at o) behind_start f q) bytes f (steady_start.stops bytes f p)
        | inr p ↦ stops_kind bytes f p.0.0.0 p.0.0.1 p.0.1 p.1 p.2
      ]

op_stops : (n : ℕ) → Stopping (op_at n)
unfolding op_at
op_stops zero = (steady_deep {V = OpTerm}).stops
op_stops (suc n) =
    stops_behind n (record {
      firm = firm_of (OpWithin n) (op_at n) (op_found n) (op_within_again n);
      stops = op_stops n;
    })

steady_op : (n : ℕ) → Steady pairs (op_at n)
steady_op n =
    record { firm = firm_of (OpWithin n) (op_at n) (op_found n) (op_within_again n); stops = op_stops n }

-- ---- whole texts

-- whether nothing comes
abbrev over : Result (Token × List ℕ) Fault → Result (Unit {0}) Fault
over (Ok t) = Err Unexpected
over (Err f) = Ok tt

over_choice : (c : Bool) (t : Token × List ℕ) (r : Result (Token × List ℕ) Fault) → over r ≡ Err Unexpected →
    over (cond c (Ok t) r) ≡ Err Unexpected
over_choice true t r h = refl
over_choice false t r h = h

over_at : (bytes : List ℕ) → if_none_left bytes ≡ over (token_at bytes)
over_at [] = refl
over_at (b ∷ bs) =
    sym (over_choice (is_letter b) _ _ (over_choice (is_digit b) _ _ (over_choice (is_mark b && begins is_digit bs) _ _
    (over_choice (nat_eq b 45 && begins (λ c. nat_eq c 62) bs) _ _ refl))))

end_is : (z : List ℕ) → end_at z ≡ over (look z)
unfolding end_at look
end_is z = over_at (past is_blank z)

end_stops : {A : Type 0} (x : A) → Stopping (λ z. end_at z >>= λ u. done x)
end_stops x bytes f e =
    elim (bind_err (end_at bytes) (λ u. done x) f e) [
      | inl p ↦ at (look bytes) refl (sym (end_is bytes) ∙ p)
      | inr p ↦ absurd (let v = p.2 in cc)
    ]
  where
    at : (r : Result (Token × List ℕ) Fault) → look bytes ≡ r → over (look bytes) ≡ Err f →
        IsDecided (λ o. (end_at o >>= λ u. done x) ≡ Err f) bytes f
    at (Ok t) is h =
        let same : Unexpected ≡ f = let v = ap over (sym is) ∙ h in cc in
        let p = plain bytes t is in
        record {
          tokens = t.0 ∷ [];
          rest = t.1;
          begins = (t.1, plain_takes t.0 bytes t.1 p is, refl);
          behind = anything;
          comes = tt;
          cause = ([], t.0 ∷ [], subst (λ (g : Fault). IsWrong g (t.0 ∷ [])) same (t.0, refl), refl);
          decided = λ o r b c.
              err_first (end_at o) _ f (end_is o ∙ ap over (plain_looks t.0 o b.0 p b.1) ∙ ap fault same);
        }
    at (Err g) is h = absurd (let v = ap over (sym is) ∙ h in cc)

pub fault_decided : (n : ℕ) (text : List ℕ) (f : Fault) → Meets n text f → IsDecided (λ o. Meets n o f) text f
unfolding whole
fault_decided n text f h =
    stops_bind pairs (op_at n) (steady_op n) (λ x. end_at x.1 >>= λ u. done x.0) (λ x. end_stops x.0) text f h
