-- What the parts of an operation, as they are read, make of the whole.
use Rattle.std.proofs.Common.{◌≡◌, ℕ, zero, suc, ◌-◌, ◌<◌, true, false, List, [], ◌∷◌, ◌++◌, length, Option, Some, None}
use Rattle.std.proofs.Common.{is_some, option_map, Bool, Result, Ok, Err, refl, sym, ap, subst, ◌∙◌, arith}
use Rattle.std.proofs.lemmas.List.{length-map}
use Rattle.plir_attr_text.specs.Levels.{level_at}
use Rattle.plir_attr_text.specs.Lists.{more_at, past_sign, sign_at}
use Rattle.plir_attr_text.specs.Reading.{Ends, Fails}
use Rattle.plir_attr_text.specs.Steps.{◌>>=◌, read_as}
use Rattle.plir_attr_text.specs.Terms.{AttrTerm, EntryTerms, TypeTerm}
use Rattle.plir_attr_text.specs.TypeReading.{word_at}
use Rattle.plir_attr_text.specs.AttrReading.{name_at}
use Rattle.plir_attr_text.specs.Wholes.{end_at, whole}
use Rattle.plir_attr_text.specs.declared.fault.Fault.{Fault}
use Rattle.plir_attr_text.specs.declared.fault.Fault.TheVariants.{ForwardRefOpExistenceErr, TooDeep}
use Rattle.plir_attr_text.specs.declared.fault.Stop.{Stop}
use Rattle.plir_attr_text.specs.declared.fault.Stop.TheVariants.{OutOfMemory, Crowded, At}
use Rattle.plir_attr_text.specs.laws.Fronts.{GoesOn, closes, ends_at_item, goes_on}
use Rattle.plir_attr_text.specs.laws.StepLaws.{done, Ends-bind, Ends-from}
use Rattle.plir_attr_text.specs.laws.TypeSteps.{level-deep, level-word}
use Rattle.plir_read.specs.OpReading.{block_head_at, brace_at, ends_block, header_at, named, named_constant_at, op_id}
use Rattle.plir_read.specs.OpReading.{first_name, semicolon_at}
use Rattle.plir_read.specs.OpTerms.{BlockHead, Header as BodiedHeader}
use Rattle.plir_read.specs.Stopping.{IsRefusal}
use Rattle.plir_read.specs.declared.heads.BodyKind.{BodyKind}
use Rattle.plir_read.specs.declared.heads.HeadKind.{HeadKind}
use Rattle.plir_read.specs.declared.heads.HeadKind.TheVariants.{Bodied, Constant, ForwardRef}
use Rattle.plir_read_own.specs.OwnReading.{kind_at, names_before}
use Rattle.plir_read_own.specs.OwnTerms.{Signature, Uses}
use Rattle.plir_read_ir.specs.IrOpReading.{ReadsUpTo, another_at, behind_id, block_at, bodied_at, ir_op_at}
use Rattle.plir_read_ir.specs.IrOpReading.{opens_region}
use Rattle.plir_read_ir.specs.IrOpReading.{ops_at, own_at, region_at, regions_at}
use Rattle.plir_read_ir.specs.IrReading.{header_with, ir_kind_at, ir_opening_at, parts_at}
use Rattle.plir_read_ir.specs.IrTerms.{bodied_front, constant_front, own_front, IrOp, ir_op, no_regions, region_before}
use Rattle.plir_read_ir.specs.IrTerms.{blocks_of, regions_of}
use Rattle.plir_read_ir.specs.Spelling.{word_of, words}
use Rattle.plir_read_ir.specs.declared.openings.IrKind.{IrKind}
use Rattle.plir_read_ir.specs.declared.openings.IrKind.TheVariants.{Builtin, Own}
use Rattle.plir_read_ir.specs.declared.spelled.Spelled.{Spelled}

-- why reading stopped, be there room or not
abbrev pub Stops : {Y : Type 0} → Stop → Result Y Fault → Type 0
Stops stop read = Ends (Unit {0}) stop read

-- a fault of the readers below is a fault here
pub stops_of : {Y : Type 0} (P : Type 0) (stop : Stop) (read : Result Y Fault) → Ends P stop read → Stops stop read
stops_of P OutOfMemory read h = tt
stops_of P Crowded read h = tt
stops_of P (At fault left) read h = h

-- a refusal is no fault of the text
pub stops_refused : {Y : Type 0} (P : Type 0) (stop : Stop) (read : Result Y Fault) → IsRefusal P stop → Stops stop read
stops_refused P OutOfMemory read h = tt
stops_refused P Crowded read h = tt
stops_refused P (At fault left) read h = absurd h

-- what is read, as something that is made of it
pub made_of : {X Y : Type 0} (make : X → Y) (read : Result (X × List ℕ) Fault) (total : Result (Y × List ℕ) Fault)
    (x : X) (rest : List ℕ) → total ≡ read_as make read → read ≡ Ok (x, rest) → total ≡ Ok (make x, rest)
made_of make read total x rest e p = e ∙ rw p refl

pub stops_of_it : {X Y : Type 0} (make : X → Y) (read : Result (X × List ℕ) Fault) (total : Result (Y × List ℕ) Fault)
    (stop : Stop) → total ≡ read_as make read → Stops stop read → Stops stop total
stops_of_it make read total stop e h =
    Ends-from (Unit {0}) stop (read_as make read) total (sym e)
    (Ends-bind (Unit {0}) stop read (λ x. done (make x.0, x.1)) h)

pub reads_made : {X Y Z : Type 0} (make : X → Y) (behind : Z → List ℕ) (result : Result Z Stop)
    (read : Result (X × List ℕ) Fault) (total : Result (Y × List ℕ) Fault) → total ≡ read_as make read →
    ReadsUpTo behind result read → ReadsUpTo behind result total
reads_made make behind (Ok z) read total e h = (make h.0, made_of make read total h.0 (behind z) e h.1)
reads_made make behind (Err stop) read total e h = stops_of_it make read total stop e h

-- ---- what comes next, by what was seen of it

some_seen : {A B : Type 0} (view : A → B) (o : Option A) → is_some (option_map view o) ≡ is_some o
some_seen view (Some x) = refl
some_seen view None = refl

pub opens_as : {A B : Type 0} (view : A → B) (o : Option A) (seen : Option B) (b : Bool) → b ≡ is_some o →
    option_map view o ≡ seen → is_some seen ≡ b
opens_as view o seen b e f = sym (e ∙ sym (some_seen view o) ∙ ap is_some f)

-- ---- things one behind another

-- reading goes on here, where some things have been read
pub record Turns {X : Type 0} (goes : List ℕ → Result (Bool × List ℕ) Fault) (read : List ℕ →
    Result (X × List ℕ) Fault) (rest : List ℕ) (total : Result (List X × List ℕ) Fault) : Type 0 where
  pub front : List X
  pub turn : GoesOn goes read front rest total

module _ {X : Type 0} (goes : List ℕ → Result (Bool × List ℕ) Fault) (read : List ℕ → Result (X × List ℕ) Fault) where
  pub first_turn : (bytes : List ℕ) (total : Result (List X × List ℕ) Fault) →
      total ≡ more_at goes read (suc (length bytes)) bytes → Turns goes read bytes total
  first_turn bytes total e = record {
    front = [];
    turn = record {
      steps = suc (length bytes);
      enough = omega arith;
      gives = nothing (more_at goes read (suc (length bytes)) bytes) ∙ sym e;
    };
  }
    where
      nothing : (r : Result (List X × List ℕ) Fault) → (r >>= λ x. done ([] ++ x.0, x.1)) ≡ r
      nothing (Ok x) = refl
      nothing (Err f) = refl

  module _ (rest : List ℕ) (total : Result (List X × List ℕ) Fault) (t : Turns goes read rest total) where
    pub turn_stops : (stop : Stop) → Stops stop (read rest) → Stops stop total
    turn_stops stop h = ends_at_item goes read t.front rest total (Unit {0}) stop t.turn h

    pub next_turn : (x : X) (after behind : List ℕ) → read rest ≡ Ok (x, after) → goes after ≡ Ok (true, behind) →
        length behind < length rest → Turns goes read behind total
    next_turn x after behind p q lt =
        record { front = t.front ++ x ∷ []; turn = goes_on goes read t.front rest total x after behind t.turn p q lt }

    pub last_turn : (x : X) (after behind : List ℕ) → read rest ≡ Ok (x, after) → goes after ≡ Ok (false, behind) →
        (xs : List X) × (total ≡ Ok (xs, behind))
    last_turn x after behind p q = (t.front ++ x ∷ [], closes goes read t.front rest total x after behind t.turn p q)

-- ---- blocks and their operations

module _ {X : Type 0} (read : List ℕ → Result (X × List ℕ) Fault) where
  pub no_operations : (bytes : List ℕ) → ends_block bytes ≡ true → ops_at read bytes ≡ Ok ([], bytes)
  unfolding ops_at
  no_operations bytes e = rw e refl

  pub operations : (bytes : List ℕ) → ends_block bytes ≡ false →
      ops_at read bytes ≡ more_at semicolon_at read (suc (length bytes)) bytes
  unfolding ops_at
  operations bytes e = rw e refl

  module _ (n : ℕ) where
    pub no_block_head : (stop : Stop) (bytes : List ℕ) → Stops stop (block_head_at n bytes) →
        Stops stop (block_at read n bytes)
    unfolding block_at
    no_block_head stop bytes h =
        Ends-bind (Unit {0}) stop (block_head_at n bytes) (λ w. ops_at read w.1 >>= λ os. Ok ((w.0, os.0), os.1)) h

    pub block_is : (bytes rest : List ℕ) (w : BlockHead) → block_head_at n bytes ≡ Ok (w, rest) →
        block_at read n bytes ≡ read_as (λ os. (w, os)) (ops_at read rest)
    unfolding block_at
    block_is bytes rest w p = rw p refl

    pub no_brace : (stop : Stop) (bytes : List ℕ) → Fails stop (sign_at 123 bytes) → Stops stop (region_at read n bytes)
    unfolding region_at
    no_brace stop bytes h =
        Ends-bind (Unit {0}) stop (sign_at 123 bytes) _ (stops_of ⊥ stop (sign_at 123 bytes) h)

    pub no_blocks_inside : (bytes start rest : List ℕ) → sign_at 123 bytes ≡ Ok start →
        past_sign 125 start ≡ Some rest → region_at read n bytes ≡ Ok ([], rest)
    unfolding region_at
    no_blocks_inside bytes start rest p q = rw (p, q) refl

    pub blocks_inside : (bytes start : List ℕ) → sign_at 123 bytes ≡ Ok start → past_sign 125 start ≡ None →
        region_at read n bytes ≡ more_at brace_at (block_at read n) (suc (length start)) start
    unfolding region_at
    blocks_inside bytes start p q = rw (p, q) refl

    -- ---- regions

    -- where one more region begins, reading goes on there; where none does, all of them were read
    pub record RegionTurns (rest : List ℕ) (total : Result (List (List (BlockHead × List X)) × List ℕ) Fault) :
        Type 0 where
      pub more : is_some (past_sign 123 rest) ≡ true → Turns another_at (region_at read n) rest total
      pub all : is_some (past_sign 123 rest) ≡ false →
          (rs : List (List (BlockHead × List X))) × (total ≡ Ok (rs, rest))

    pub first_region : (bytes : List ℕ) → RegionTurns bytes (regions_at read n bytes)
    unfolding regions_at opens_region
    first_region bytes = record {
      more = λ e. first_turn another_at (region_at read n) bytes _ (rw e refl);
      all = λ e. ([], rw e refl);
    }

    pub next_region : (rest behind : List ℕ) (total : Result (List (List (BlockHead × List X)) × List ℕ) Fault)
        (bs : List (BlockHead × List X)) → RegionTurns rest total → is_some (past_sign 123 rest) ≡ true →
        region_at read n rest ≡ Ok (bs, behind) → length behind < length rest → RegionTurns behind total
    unfolding another_at opens_region
    next_region rest behind total bs t e p lt = record {
      more = λ f. next_turn another_at (region_at read n) rest total (t.more e) bs behind behind p (rw f refl) lt;
      all = λ f. last_turn another_at (region_at read n) rest total (t.more e) bs behind behind p (rw f refl);
    }

module _ {K : Type 0} (read : List ℕ → Result (IrOp K × List ℕ) Fault) (n : ℕ) where
  -- ---- a module or a function, and an own operation, behind its id

  pub wrong_names : (stop : Stop) (k : BodyKind) (names : ℕ) (bytes : List ℕ) → Fails stop (named 0 names) →
      Stops stop (bodied_at read n k names bytes)
  unfolding bodied_at
  wrong_names stop k names bytes h = Ends-bind (Unit {0}) stop (named 0 names) _ (stops_of ⊥ stop (named 0 names) h)

  pub no_header : (stop : Stop) (k : BodyKind) (names : ℕ) (bytes : List ℕ) (u : Unit {0}) → named 0 names ≡ Ok u →
      Fails stop (header_at n k bytes) → Stops stop (bodied_at read n k names bytes)
  unfolding bodied_at
  no_header stop k names bytes u p h =
      let then : BodiedHeader × List ℕ → Result (IrOp K × List ℕ) Fault = λ x. region_at read n x.1 >>=
      λ bs. done (ir_op (bodied_front x.0) (region_before (blocks_of bs.0) no_regions), bs.1) in
      let is : (header_at n k bytes >>= then) ≡ bodied_at read n k names bytes = rw p refl in
      Ends-from (Unit {0}) stop _ _ is (Ends-bind (Unit {0}) stop (header_at n k bytes) then
      (stops_of ⊥ stop (header_at n k bytes) h))

  bodied_is : (k : BodyKind) (names : ℕ) (bytes rest : List ℕ) (u : Unit {0}) (h : BodiedHeader) →
      named 0 names ≡ Ok u → header_at n k bytes ≡ Ok (h, rest) → bodied_at read n k names bytes ≡
      read_as (λ bs. ir_op (bodied_front h) (region_before (blocks_of bs) no_regions)) (region_at read n rest)
  unfolding bodied_at
  bodied_is k names bytes rest u h p q = rw (p, q) refl

  as_many : (spelled : List Spelled) (bytes : List ℕ) →
      parts_at n (length (words spelled)) bytes ≡ parts_at n (length spelled) bytes
  as_many spelled bytes = ap (λ m. parts_at n m bytes) (length-map spelled word_of)

  pub bodied_read : (k : BodyKind) (names : ℕ) (bytes rest end : List ℕ) (u : Unit {0}) (h : BodiedHeader)
      (bs : List (BlockHead × List (IrOp K))) → named 0 names ≡ Ok u → header_at n k bytes ≡ Ok (h, rest) →
      region_at read n rest ≡ Ok (bs, end) → bodied_at read n k names bytes ≡
      Ok (ir_op (bodied_front h) (region_before (blocks_of bs) no_regions), end)
  unfolding bodied_at
  bodied_read k names bytes rest end u h bs p q r = rw (p, q, r) refl

  pub no_region : (stop : Stop) (k : BodyKind) (names : ℕ) (bytes rest : List ℕ) (u : Unit {0}) (h : BodiedHeader) →
      named 0 names ≡ Ok u → header_at n k bytes ≡ Ok (h, rest) → Stops stop (region_at read n rest) →
      Stops stop (bodied_at read n k names bytes)
  no_region stop k names bytes rest u h p q r =
      stops_of_it (λ bs. ir_op (bodied_front h) (region_before (blocks_of bs) no_regions)) (region_at read n rest)
      (bodied_at read n k names bytes) stop (bodied_is k names bytes rest u h p q) r

  pub no_parts : (stop : Stop) (spelled : List Spelled) (k : K) (bytes : List ℕ) →
      Stops stop (parts_at n (length spelled) bytes) → Stops stop (own_at read n (words spelled) k bytes)
  unfolding own_at
  no_parts stop spelled k bytes h =
      Ends-bind (Unit {0}) stop (parts_at n (length (words spelled)) bytes) (λ p. regions_at read n p.1 >>=
      λ rs. done (ir_op (own_front (header_with (words spelled) k p.0)) (regions_of rs.0), rs.1))
      (subst (Stops stop) (sym (as_many spelled bytes)) h)

  own_is : (spelled : List Spelled) (k : K) (bytes rest : List ℕ) (p : Uses × (EntryTerms × Signature)) →
      parts_at n (length spelled) bytes ≡ Ok (p, rest) → own_at read n (words spelled) k bytes ≡
      read_as (λ rs. ir_op (own_front (header_with (words spelled) k p)) (regions_of rs)) (regions_at read n rest)
  unfolding own_at
  own_is spelled k bytes rest p q = rw (as_many spelled bytes ∙ q) refl

  pub own_read : (spelled : List Spelled) (k : K) (bytes rest end : List ℕ) (p : Uses × (EntryTerms × Signature))
      (rs : List (List (BlockHead × List (IrOp K)))) → parts_at n (length spelled) bytes ≡ Ok (p, rest) →
      regions_at read n rest ≡ Ok (rs, end) → own_at read n (words spelled) k bytes ≡
      Ok (ir_op (own_front (header_with (words spelled) k p)) (regions_of rs), end)
  unfolding own_at
  own_read spelled k bytes rest end p rs q r = rw (as_many spelled bytes ∙ q, r) refl

  pub no_regions_read : (stop : Stop) (spelled : List Spelled) (k : K) (bytes rest : List ℕ)
      (p : Uses × (EntryTerms × Signature)) → parts_at n (length spelled) bytes ≡ Ok (p, rest) →
      Stops stop (regions_at read n rest) → Stops stop (own_at read n (words spelled) k bytes)
  no_regions_read stop spelled k bytes rest p q r =
      stops_of_it (λ rs. ir_op (own_front (header_with (words spelled) k p)) (regions_of rs)) (regions_at read n rest)
      (own_at read n (words spelled) k bytes) stop (own_is spelled k bytes rest p q) r

-- ---- an operation

module _ {K : Type 0} (find : List ℕ → Option K) where
  opening_behind : (n : ℕ) (bytes rest : List ℕ) (ws : List (List ℕ)) (k : IrKind K) → 0 < n →
      ir_opening_at find bytes ≡ Ok ((ws, k), rest) →
      ir_op_at find n bytes ≡ behind_id (ir_op_at find (n - 1)) (n - 1) ws k rest
  unfolding ir_op_at
  opening_behind zero bytes rest ws k lt e = absurd (omega arith)
  opening_behind (suc n) bytes rest ws k lt e = let m : suc n - 1 ≡ n = omega arith in rw (e, m) refl

  pub forward_met : (n : ℕ) (bytes rest : List ℕ) (ws : List (List ℕ)) (x : IrKind K) (h : HeadKind) → 0 < n →
      ir_opening_at find bytes ≡ Ok ((ws, x), rest) → x ≡ Builtin h → h ≡ ForwardRef →
      ir_op_at find n bytes ≡ Err ForwardRefOpExistenceErr
  forward_met n bytes rest ws x h some e is inside =
      opening_behind n bytes rest ws x some e ∙
      ap (λ (z : IrKind K). behind_id (ir_op_at find (n - 1)) (n - 1) ws z rest) (is ∙ ap (λ z. Builtin z) inside)

  pub no_opening : (n : ℕ) (stop : Stop) (bytes : List ℕ) → 0 < n → Fails stop (ir_opening_at find bytes) →
      Stops stop (ir_op_at find n bytes)
  unfolding ir_op_at
  no_opening zero stop bytes lt h = absurd (omega arith)
  no_opening (suc n) stop bytes lt h =
      Ends-bind (Unit {0}) stop (ir_opening_at find bytes) (λ s. behind_id (ir_op_at find n) n s.0.0 s.0.1 s.1)
      (stops_of ⊥ stop (ir_opening_at find bytes) h)

  -- an operation begins with a word: a name, or its id
  no_names : (d : Fault) (bytes : List ℕ) → word_at bytes ≡ Err d → names_before bytes ≡ Ok ([], bytes)
  unfolding names_before name_at
  no_names d bytes h = rw h refl

  no_id : (d : Fault) (bytes : List ℕ) → word_at bytes ≡ Err d → ir_kind_at find bytes ≡ Err d
  unfolding ir_kind_at op_id kind_at
  no_id d bytes h = rw h refl

  opening_is_word : (d : Fault) (bytes : List ℕ) → word_at bytes ≡ Err d → ir_opening_at find bytes ≡ Err d
  unfolding ir_opening_at
  opening_is_word d bytes h = rw (no_names d bytes h) (rw (no_id d bytes h) refl)

  opening_word : (stop : Stop) (bytes : List ℕ) → Fails stop (word_at bytes) → Fails stop (ir_opening_at find bytes)
  opening_word OutOfMemory bytes h = tt
  opening_word Crowded bytes h = h
  opening_word (At d left) bytes h = (opening_is_word d bytes h.0, h.1)

  -- where no level begins, the fault of that is one of the operation
  pub no_level : (n : ℕ) (stop : Stop) (bytes : List ℕ) → Fails stop (level_at n bytes) →
      Stops stop (ir_op_at find n bytes)
  unfolding ir_op_at
  no_level zero stop bytes h =
      stops_of ⊥ stop (word_at bytes >>= λ w. Err TooDeep) (level-deep _ stop bytes h)
  no_level (suc n) stop bytes h =
      Ends-bind (Unit {0}) stop (ir_opening_at find bytes) (λ s. behind_id (ir_op_at find n) n s.0.0 s.0.1 s.1)
      (stops_of ⊥ stop (ir_opening_at find bytes)
      (opening_word stop bytes (level-word stop (suc n) bytes (omega arith) h)))

  -- ---- what is read behind an id is read of the operation

  module _ {Z : Type 0} (behind : Z → List ℕ) (result : Result Z Stop) (n : ℕ) (bytes rest : List ℕ)
      (ws : List (List ℕ)) (x : IrKind K) (some : 0 < n) (e : ir_opening_at find bytes ≡ Ok ((ws, x), rest)) where
    pub bodied_met : (h : HeadKind) (k : BodyKind) (names : ℕ) → x ≡ Builtin h → h ≡ Bodied k → length ws ≡ names →
        ReadsUpTo behind result (bodied_at (ir_op_at find (n - 1)) (n - 1) k names rest) →
        ReadsUpTo behind result (ir_op_at find n bytes)
    bodied_met h k names is inside many r =
        let all : ir_op_at find n bytes ≡ bodied_at (ir_op_at find (n - 1)) (n - 1) k names rest =
        opening_behind n bytes rest ws x some e ∙
        ap (λ (z : IrKind K). behind_id (ir_op_at find (n - 1)) (n - 1) ws z rest) (is ∙ ap (λ z. Builtin z) inside) ∙
        ap (λ m. bodied_at (ir_op_at find (n - 1)) (n - 1) k m rest) many in
        subst (ReadsUpTo behind result) (sym all) r

    pub constant_met : (h : HeadKind) (names : ℕ) → x ≡ Builtin h → h ≡ Constant → length ws ≡ names →
        ReadsUpTo behind result (named_constant_at (n - 1) names rest) → ReadsUpTo behind result (ir_op_at find n bytes)
    constant_met h names is inside many r =
        reads_made (λ (c : AttrTerm × TypeTerm). ir_op (constant_front (first_name ws) c.0 c.1) no_regions) behind
        result (named_constant_at (n - 1) names rest) (ir_op_at find n bytes)
        (opening_behind n bytes rest ws x some e ∙
        ap (λ (z : IrKind K). behind_id (ir_op_at find (n - 1)) (n - 1) ws z rest) (is ∙ ap (λ z. Builtin z) inside) ∙
        ap (λ m. read_as (λ (c : AttrTerm × TypeTerm). ir_op (constant_front (first_name ws) c.0 c.1) no_regions)
        (named_constant_at (n - 1) m rest)) many) r

    pub own_met : (k : K) (words : List (List ℕ)) → x ≡ Own k → words ≡ ws →
        ReadsUpTo behind result (own_at (ir_op_at find (n - 1)) (n - 1) words k rest) →
        ReadsUpTo behind result (ir_op_at find n bytes)
    own_met k words is same r =
        let all : ir_op_at find n bytes ≡ own_at (ir_op_at find (n - 1)) (n - 1) words k rest =
        opening_behind n bytes rest ws x some e ∙
        ap (λ (z : IrKind K). behind_id (ir_op_at find (n - 1)) (n - 1) ws z rest) is ∙
        ap (λ z. own_at (ir_op_at find (n - 1)) (n - 1) z k rest) (sym same) in
        subst (ReadsUpTo behind result) (sym all) r

-- ---- whole texts

module _ {X : Type 0} (read : List ℕ → Result (X × List ℕ) Fault) (bytes : List ℕ) where
  pub whole_stops : (stop : Stop) → Stops stop (read bytes) → Stops stop (whole read bytes)
  unfolding whole
  whole_stops stop h = Ends-bind (Unit {0}) stop (read bytes) (λ x. end_at x.1 >>= λ u. done x.0) h

  pub whole_stops_behind : (stop : Stop) (x : X) (rest : List ℕ) → read bytes ≡ Ok (x, rest) →
      Fails stop (end_at rest) → Stops stop (whole read bytes)
  unfolding whole
  whole_stops_behind stop x rest p h =
      let is : (end_at rest >>= λ u. done x) ≡ whole read bytes = rw p refl in
      Ends-from (Unit {0}) stop _ _ is (Ends-bind (Unit {0}) stop (end_at rest) (λ u. done x)
      (stops_of ⊥ stop (end_at rest) h))
