-- Uses and names that are noted one after the other.
use Rattle.std.proofs.Common.{◌≡◌, ◌++◌, ◌+◌, ◌<◌, ℕ, zero, suc, List, [], ◌∷◌, length, map, take, get_or, refl, sym}
use Rattle.std.proofs.Common.{ap, subst}
use Rattle.std.proofs.Common.{◌∙◌, append_assoc, append-nil, arith, Option}
use Rattle.std.proofs.lemmas.List.{map-append, take_more}
use Rattle.std.proofs.lemmas.List.Elements.{All-nil, All-cons, All-append}
use Rattle.plir_names.specs.declared.names.NameTable.{NameTable}
use Rattle.plir_core.specs.declared.ptr.Ptr.{Ptr}
use Rattle.plir_core.specs.declared.ptr.Operation.{Operation as OperationKind}
use Rattle.plir_core.specs.declared.ptr.Region.{Region as RegionKind}
use Rattle.plir_core.specs.declared.value.Value.{Value}
use Rattle.plir_read_ir.specs.Mentions.{WordIn, values_bear, values_in}
use Rattle.plir_read_ir.specs.Readings.{AddsNoted, AddsValues, NotedUse, noted_operand, noted_successor, noted_operands}
use Rattle.plir_read_ir.specs.Readings.{noted_successors, noted_use, place_in, plain_name}
use Rattle.plir_read_ir.specs.Noting.{Bears, NameInBody, same_name}
use Rattle.plir_read_ir.specs.Spelling.{word_of, words}
use Rattle.plir_read_ir.specs.declared.notes.PendingUse.{PendingUse}
use Rattle.plir_read_ir.specs.declared.spelled.Spelled.{Spelled}
use Rattle.plir_read_ir.proofs.Says.{adds_as, adds_one}
use Rattle.plir_read_ir.proofs.Words.{words_push}

pub noted_none : (p : Ptr OperationKind) (us : List PendingUse) → AddsNoted p [] us us
noted_none p us = ([], sym (append-nil us), All-nil (λ (u : PendingUse). u.op ≡ p), refl)

pub noted_push : (p : Ptr OperationKind) (ns : List NotedUse) (n : NotedUse) (old mid new : List PendingUse)
    (u : PendingUse) → AddsNoted p ns old mid → new ≡ mid ++ u ∷ [] → u.op ≡ p → noted_use u ≡ n →
    AddsNoted p (ns ++ n ∷ []) old new
noted_push p ns n old mid new u a e o i = (
  a.0 ++ u ∷ [],
  e ∙ ap (λ (z : List PendingUse). z ++ u ∷ []) a.1 ∙ append_assoc old a.0 (u ∷ []),
  All-append (λ (x : PendingUse). x.op ≡ p) a.0 (u ∷ []) a.2
      (All-cons (λ (x : PendingUse). x.op ≡ p) u [] o (All-nil (λ (x : PendingUse). x.op ≡ p))),
  map-append noted_use a.0 (u ∷ []) ∙ ap (λ (l : List NotedUse). l ++ noted_use u ∷ []) a.3 ∙
      ap (λ (x : NotedUse). ns ++ x ∷ []) i,
)

pub noted_both : (p : Ptr OperationKind) (ns ms : List NotedUse) (old mid new : List PendingUse) → AddsNoted p ns old mid →
    AddsNoted p ms mid new → AddsNoted p (ns ++ ms) old new
noted_both p ns ms old mid new a b = (
  a.0 ++ b.0,
  b.1 ∙ ap (λ (z : List PendingUse). z ++ b.0) a.1 ∙ append_assoc old a.0 b.0,
  All-append (λ (x : PendingUse). x.op ≡ p) a.0 b.0 a.2 b.2,
  map-append noted_use a.0 b.0 ∙ ap (λ (l : List NotedUse). l ++ map noted_use b.0) a.3 ∙
      ap (λ (l : List NotedUse). ns ++ l) b.3,
)

pub operands_push : (body : Option (Ptr OperationKind)) (ws : List (List ℕ)) (ts : List ℕ) (w : List ℕ) (t : ℕ) →
    length ws ≡ length ts → noted_operands body (ws ++ w ∷ []) (ts ++ t ∷ []) ≡
    noted_operands body ws ts ++ noted_operand (body, w) t ∷ []
operands_push body [] [] w t e = refl
operands_push body [] (x ∷ ts) w t e = absurd (omega (arith, e))
operands_push body (v ∷ ws) [] w t e = absurd (omega (arith, e))
operands_push body (v ∷ ws) (x ∷ ts) w t e =
    ap (λ (l : List NotedUse). noted_operand (body, v) x ∷ l) (operands_push body ws ts w t (omega (arith, e)))

pub successors_push : (region : Option (Ptr RegionKind)) (i : ℕ) (ws : List (List ℕ)) (w : List ℕ) →
    noted_successors region i (ws ++ w ∷ []) ≡
    noted_successors region i ws ++ noted_successor (region, w) (place_in region (i + length ws)) ∷ []
successors_push region i [] w = ap (λ n. noted_successor (region, w) (place_in region n) ∷ []) (omega arith)
successors_push region i (v ∷ ws) w =
    ap (λ (l : List NotedUse). noted_successor (region, v) (place_in region i) ∷ l)
    (successors_push region (i + 1) ws w ∙
    ap (λ n. noted_successors region (i + 1) ws ++ noted_successor (region, w) (place_in region n) ∷ [])
    (omega arith))

pub values_push : (body : Option (Ptr OperationKind)) (value : ℕ → Value) (i : ℕ) (ws : List (List ℕ)) (w : List ℕ) →
    values_in (values_bear body value i (ws ++ w ∷ [])) ≡
    values_in (values_bear body value i ws) ++ ((body, w), value (i + length ws)) ∷ []
values_push body value i [] w =
    ap (λ n. let b : WordIn OperationKind × Value = ((body, w), value n) in b ∷ []) (omega arith)
values_push body value i (v ∷ ws) w =
    ap (λ (l : List (WordIn OperationKind × Value)). ((body, v), value i) ∷ l)
    (values_push body value (suc i) ws w ∙
    ap (λ n. values_in (values_bear body value (suc i) ws) ++ ((body, w), value n) ∷ []) (omega arith))

-- the first names, one more, and all of them
pub words_more : (names : List Spelled) (i : ℕ) (d : Spelled) → i < length names →
    words (take (i + 1) names) ≡ words (take i names) ++ word_of (get_or names i d) ∷ []
words_more names i d lt = ap words (take_more names i d lt) ∙ words_push (take i names) (get_or names i d)

pub words_length : (names : List Spelled) (i : ℕ) → i < length names → length (words (take i names)) ≡ i
words_length [] i lt = absurd (omega (arith, lt))
words_length (x ∷ xs) zero lt = refl
words_length (x ∷ xs) (suc i) lt = ap (λ n. suc n) (words_length xs i (omega (arith, lt)))

taken : (ts : List ℕ) (n : ℕ) → n < length ts → length (take n ts) ≡ n
taken [] n lt = absurd (omega (arith, lt))
taken (x ∷ xs) zero lt = refl
taken (x ∷ xs) (suc n) lt = ap (λ m. suc m) (taken xs n (omega (arith, lt)))

-- one more value bears a name
pub says_more : (old mid new : NameTable NameInBody Value) (body : Option (Ptr OperationKind)) (value : ℕ → Value)
    (names : List Spelled) (n : ℕ) (d : Spelled) (v : Value) → n < length names →
    AddsValues old mid (values_in (values_bear body value 0 (words (take n names)))) →
    Bears same_name mid new (((body, (get_or names n d).word), v) ∷ []) → v ≡ value n →
    AddsValues old new (values_in (values_bear body value 0 (words (take (n + 1) names))))
says_more old mid new body value names n d v lt says borne is =
    let ws = words (take n names) in
    let w = word_of (get_or names n d) in
    let count : 0 + length ws ≡ n = omega (arith, words_length names n lt) in
    adds_as same_name plain_name old new _ _
    (ap (λ (x : Value). values_in (values_bear body value 0 ws) ++ ((body, w), x) ∷ []) is ∙
    ap (λ (k : ℕ). values_in (values_bear body value 0 ws) ++ ((body, w), value k) ∷ []) (sym count) ∙
    sym (values_push body value 0 ws w) ∙
    ap (λ (l : List (List ℕ)). values_in (values_bear body value 0 l)) (sym (words_more names n d lt)))
    (adds_one same_name plain_name old mid new _ ((body, (get_or names n d).word), v) says borne)

-- one more operand is noted, and one more successor
pub operand_more : (p : Ptr OperationKind) (body : Option (Ptr OperationKind)) (names : List Spelled) (types : List ℕ)
    (n : ℕ) (d : Spelled) (e x : ℕ) (old mid new : List PendingUse) (u : PendingUse) → n < length names →
    length types ≡ length names → AddsNoted p (noted_operands body (words (take n names)) (take n types)) old mid →
    new ≡ mid ++ u ∷ [] → u.op ≡ p → noted_use u ≡ noted_operand (body, word_of (get_or names n d)) x → x ≡ get_or types n e →
    AddsNoted p (noted_operands body (words (take (n + 1) names)) (take (n + 1) types)) old new
operand_more p body names types n d e x old mid new u lt many a is op use_is type_is =
    let ws = words (take n names) in
    let ts = take n types in
    let w = word_of (get_or names n d) in
    let below : n < length types = omega (arith, lt, many) in
    let same : length ws ≡ length ts = words_length names n lt ∙ sym (taken types n below) in
    subst (λ l. AddsNoted p l old new)
    (sym (ap (λ (l : List (List ℕ)). noted_operands body l (take (n + 1) types)) (words_more names n d lt) ∙
    ap (λ (l : List ℕ). noted_operands body (ws ++ w ∷ []) l) (take_more types n e below) ∙
    operands_push body ws ts w (get_or types n e) same))
    (noted_push p (noted_operands body ws ts) (noted_operand (body, w) (get_or types n e)) old mid new u a is op
    (use_is ∙ ap (λ (t : ℕ). noted_operand (body, w) t) type_is))

pub successor_more : (p : Ptr OperationKind) (region : Option (Ptr RegionKind)) (names : List Spelled) (n : ℕ)
    (d : Spelled) (old mid new : List PendingUse) (u : PendingUse) → n < length names →
    AddsNoted p (noted_successors region 0 (words (take n names))) old mid → new ≡ mid ++ u ∷ [] → u.op ≡ p →
    noted_use u ≡ noted_successor (region, word_of (get_or names n d)) (place_in region n) →
    AddsNoted p (noted_successors region 0 (words (take (n + 1) names))) old new
successor_more p region names n d old mid new u lt a is op use_is =
    let ws = words (take n names) in
    let w = word_of (get_or names n d) in
    let count : 0 + length ws ≡ n = omega (arith, words_length names n lt) in
    subst (λ l. AddsNoted p l old new)
    (sym (ap (λ (l : List (List ℕ)). noted_successors region 0 l) (words_more names n d lt) ∙
    successors_push region 0 ws w ∙
    ap (λ (k : ℕ). noted_successors region 0 ws ++ noted_successor (region, w) (place_in region k) ∷ []) count))
    (noted_push p (noted_successors region 0 ws) (noted_successor (region, w) (place_in region n)) old mid new u a is op
    use_is)
