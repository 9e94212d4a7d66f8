-- What the parts of a type, as they are read, make of the whole.
use Rattle.std.proofs.Common.{◌≡◌, ℕ, zero, suc, ◌-◌, ◌<◌, Bool, cond, List, Result, Ok, Err, refl, sym, ap, subst, ◌∙◌}
use Rattle.std.proofs.Common.{arith}
use Rattle.std.proofs.lemmas.Bool.{le-leb}
use Rattle.plir_attr_text.specs.declared.fault.Fault.TheVariants.{TooDeep}
use Rattle.plir_attr_text.specs.declared.fault.Stop.TheVariants.{OutOfMemory, Crowded, At}
use Rattle.plir_attr_text.specs.TypeReading.{word_at, arrow_at, type_kind, function_at, type_head, type_body, type_at}
use Rattle.plir_attr_text.specs.laws.StepLaws.{done, Fails-bind, Fails-from}
use Rattle.plir_attr_text.specs.{declared.fault.Fault.Fault, declared.fault.Stop.Stop, declared.words.TypeKind.TypeKind}
use Rattle.plir_attr_text.specs.{Steps.◌>>=◌, Terms.TypeTerm, Terms.types_of, Lists.sign_at, Lists.items_at}
use Rattle.plir_attr_text.specs.{Levels.if_level, Levels.level_at, Reading.Fails, Reading.Reads}

pub type_at-body : (n : ℕ) (bytes rest : List ℕ) (k : TypeKind) → 0 < n → type_head bytes ≡ Ok (k, rest) →
    type_at n bytes ≡ type_body (type_at (n - 1)) k rest
unfolding type_at
type_at-body zero bytes rest k lt e = absurd (omega arith)
type_at-body (suc n) bytes rest k lt e = let m : suc n - 1 ≡ n = omega arith in rw (e, m) refl

-- ---- levels

-- a step behind which nothing fails has the fault of both
pub Fails-first : {A B : Type 0} (e : Stop) (r : Result A Fault) (view : A → B) → Fails e (r >>= λ x. done (view x)) →
    Fails e r
Fails-first OutOfMemory r view h = tt
Fails-first Crowded r view h = h
Fails-first (At d left) (Ok x) view h = let e = h.0 in absurd cc
Fails-first (At d left) (Err g) view h = let e = h.0 in let k : g ≡ d = cc in (ap (λ f. Err f) k, h.1)

-- the same fault of whatever would be read
pub Fails-either : {A : Type 0} (B C : Type 0) (e : Stop) (r : Result A Fault) (f : Fault)
    → Fails {Y = B} e (r >>= λ x. Err f) → Fails {Y = C} e (r >>= λ x. Err f)
Fails-either B C OutOfMemory r f h = tt
Fails-either B C Crowded r f h = h
Fails-either B C (At d left) (Ok x) f h = let e = h.0 in let k : f ≡ d = cc in (ap (λ g. Err g) k, h.1)
Fails-either B C (At d left) (Err g) f h = let e = h.0 in let k : g ≡ d = cc in (ap (λ g. Err g) k, h.1)

-- where a level is left, what fails is that no word comes
pub level-word : (e : Stop) (n : ℕ) (bytes : List ℕ) → 0 < n → Fails e (level_at n bytes) → Fails e (word_at bytes)
unfolding level_at if_level
level-word e n bytes lt h =
    Fails-first e (word_at bytes) (λ w. tt) (subst (λ (b : Bool). Fails e (word_at bytes >>=
    λ w. cond b (done tt) (Err TooDeep))) (le-leb 1 n (omega (arith, lt))) h)

-- where none is left, it is that no word comes, or the level
pub level-deep : (A : Type 0) (e : Stop) (bytes : List ℕ) → Fails e (level_at 0 bytes)
    → Fails {Y = A} e (word_at bytes >>= λ w. Err TooDeep)
unfolding level_at if_level
level-deep A e bytes h = Fails-either (Unit {0}) A e (word_at bytes) TooDeep h

-- where no level begins, the fault of that is one of the type
pub type_at-level-fails : (e : Stop) (n : ℕ) (bytes : List ℕ) → Fails e (level_at n bytes) → Fails e (type_at n bytes)
unfolding type_at type_head
type_at-level-fails e zero bytes h = level-deep _ e bytes h
type_at-level-fails e (suc n) bytes h = Fails-bind e (type_head bytes) (λ k. type_body (type_at n) k.0 k.1)
    (Fails-bind e (word_at bytes) (λ w. type_kind w.0 >>= λ k. Ok (k, w.1)) (level-word e (suc n) bytes (omega arith)
    h))

-- a fault of the id is one of the type
pub type_at-head-fails : (e : Stop) (n : ℕ) (bytes : List ℕ) → 0 < n → Fails e (type_head bytes) →
    Fails e (type_at n bytes)
unfolding type_at
type_at-head-fails e zero bytes lt h = absurd (omega (arith, lt))
type_at-head-fails e (suc n) bytes lt h = Fails-bind e (type_head bytes) (λ k. type_body (type_at n) k.0 k.1) h

pub function_read : (read : List ℕ → Result (TypeTerm × List ℕ) Fault) (bytes start first behind second end : List ℕ)
    (as_ rs : List TypeTerm) → sign_at 60 bytes ≡ Ok start → items_at 40 41 read start ≡ Ok (as_, first) →
    arrow_at first ≡ Ok behind → items_at 40 41 read behind ≡ Ok (rs, second) → sign_at 62 second ≡ Ok end →
    function_at read bytes ≡ Ok ((types_of as_, types_of rs), end)
unfolding function_at
function_read read bytes start first behind second end as_ rs p q r s t = rw (p, q, r, s, t) refl

-- a value that is read, as the value that is made of it
pub Reads-made : {X Y Z : Type 0} (means : X → Y → Type 0) (means' : X → Z → Type 0) (v : Y → Z) →
    ((x : X) (y : Y) → means x y → means' x (v y)) →
    (r : Result X Stop) (read : Result Y Fault) (total : Result Z Fault) → total ≡ (read >>= λ y. Ok (v y)) →
    Reads means r read → Reads means' r total
Reads-made means means' v h (Ok x) read total e p = (v p.0, e ∙ ap (λ q. q >>= λ y. Ok (v y)) p.1, h x p.0 p.2)
Reads-made means means' v h (Err stop) read total e p =
    Fails-from stop _ _ (sym e) (Fails-bind stop read (λ y. Ok (v y)) p)

-- what is read, with another name for what stands behind it
pub behind_is : {A : Type 0} (r : Result (A × List ℕ) Fault) (y : A × List ℕ) (rest : List ℕ) → r ≡ Ok y → rest ≡ y.1 →
    r ≡ Ok (y.0, rest)
behind_is r y rest e f = e ∙ ap (λ z. done (y.0, z)) (sym f)
