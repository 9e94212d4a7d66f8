-- What reading answers, before what is used by name is known.
use Rattle.std.specs.Prelude.{◌≡◌, ◌≤◌, ◌++◌, ℕ, max, map, List, [], ◌∷◌, length, All, Bool, false, Option, Some, None}
use Rattle.std.specs.Prelude.{◌+◌, Ok, option_map, if◌then◌else◌}
use Rattle.plir_data.specs.AttrView.{AttrView}
use Rattle.plir_data.specs.Types.{TypeView}
use Rattle.plir_names.specs.Meanings.{meaning}
use Rattle.plir_names.specs.Tables.{meanings}
use Rattle.plir_names.specs.declared.names.NameTable.{NameTable}
use Rattle.plir_core.specs.ContextView.{ContextView, children, is_live}
use Rattle.plir_core.specs.SameValue.{same_ptr}
use Rattle.plir_core.specs.declared.ptr.Ptr.{Ptr}
use Rattle.plir_core.specs.declared.ptr.Operation.{Operation as OperationKind}
use Rattle.plir_core.specs.declared.ptr.Region.{Region as RegionKind}
use Rattle.plir_core.specs.declared.ptr.BasicBlock.{BasicBlock as BlockKind}
use Rattle.plir_core.specs.declared.ptr.IRNode.{IRNode}
use Rattle.plir_core.specs.declared.ptr.IRNode.TheVariants.{Operation, Region, BasicBlock}
use Rattle.plir_core.specs.declared.value.Value.{Value}
use Rattle.plir_attr_text.specs.Meaning.{IsDictMeant}
use Rattle.plir_attr_text.specs.Names.{Names, NamesAll}
use Rattle.plir_attr_text.specs.Terms.{EntryTerms}
use Rattle.plir_attr_text.specs.Tokens.{Token, Begins}
use Rattle.plir_attr_text.specs.TypeGrammar.{IsText, enclosed}
use Rattle.plir_read.specs.Heads.{result_names}
use Rattle.plir_read.specs.OpGrammar.{SpellsBlockHead}
use Rattle.plir_read.specs.OpReading.{block_head_at, first_name, header_at, named_constant_at}
use Rattle.plir_read.specs.OpTerms.{BlockHead, block_levels}
use Rattle.plir_read.specs.OpsStanding.{HoldsOp, IsBlockHeadAt, IsConstantAt, IsHeaderAt}
use Rattle.plir_read.specs.declared.heads.HeadKind.TheVariants.{Bodied, Constant, ForwardRef}
use Rattle.plir_read_own.specs.OwnTerms.{Header, Signature, Uses}
use Rattle.plir_read_ir.specs.IrGrammar.{HasRegions, IrWithin, SpellsBlocks, SpellsOp, SpellsOps, SpellsRegions}
use Rattle.plir_read_ir.specs.IrReading.{header_with, parts_at}
use Rattle.plir_read_ir.specs.IrStanding.{AreBlocksAt, AreOpsAt, AreRegionsAt, IsIrAt}
use Rattle.plir_read_ir.specs.IrTerms.{Front, bodied_front, constant_front, own_front, IrOp, ir_op, IrRegions, IrBlocks}
use Rattle.plir_read_ir.specs.IrTerms.{IrOps, op_levels, regions_levels, blocks_levels, ops_levels}
use Rattle.plir_read_ir.specs.Mentions.{Mention, value_bears, block_bears, operand_named, successor_named, Scope}
use Rattle.plir_read_ir.specs.Mentions.{WordIn}
use Rattle.plir_read_ir.specs.Mentions.{blocks_mentions, front_mentions, head_mentions, labels_in, nowhere, op_mentions}
use Rattle.plir_read_ir.specs.Mentions.{ops_mentions, regions_mentions, same_word, uses_in, values_in}
use Rattle.plir_read_ir.specs.Noting.{Bears, LabelInRegion, NameInBody, same_label, same_name}
use Rattle.plir_read_ir.specs.OwnOps.{own_op}
use Rattle.plir_read_ir.specs.declared.notes.Notes.{Notes}
use Rattle.plir_read_ir.specs.declared.notes.PendingUse.{PendingUse}
use Rattle.plir_read_ir.specs.declared.notes.Place.{Place}
use Rattle.plir_read_ir.specs.declared.notes.Wanted.{Wanted}
use Rattle.plir_read_ir.specs.declared.notes.Wanted.TheVariants.{Operand, Successor, Nothing}
use Rattle.plir_read_ir.specs.declared.openings.IrKind.{IrKind}
use Rattle.plir_read_ir.specs.declared.openings.IrKind.TheVariants.{Builtin, Own}

-- ---- uses

-- What is to become of a use: the next operand, of a type by its place in the table; or the successor at a place.
pub data NotedUse : Type 0 where
  noted_operand : WordIn OperationKind → (type : ℕ) → NotedUse
  noted_successor : WordIn RegionKind → (place : ℕ) → NotedUse

abbrev pub noted_as : List ℕ → Wanted → NotedUse
noted_as w (Operand body type left) = noted_operand (body, w) type
noted_as w (Successor region place) = noted_successor (Some region, w) place
noted_as w Nothing = noted_successor (None, w) 0

abbrev pub noted_use : PendingUse → NotedUse
noted_use u = noted_as u.name.word.now u.wanted

-- a use was noted that is mentioned, with the written type by its place in the table
abbrev pub IsMentioned : {T : Type 0} → List (TypeView T) → NotedUse → Mention → Type 0
IsMentioned types (noted_operand w type) (operand_named v t) = (w ≡ v) × Names types type t
IsMentioned types (noted_operand w type) (successor_named l) = ⊥
IsMentioned types (noted_operand w type) (value_bears v x) = ⊥
IsMentioned types (noted_operand w type) (block_bears l b) = ⊥
IsMentioned types (noted_successor l place) (operand_named v t) = ⊥
IsMentioned types (noted_successor l place) (successor_named k) = l ≡ k
IsMentioned types (noted_successor l place) (value_bears v x) = ⊥
IsMentioned types (noted_successor l place) (block_bears k b) = ⊥

abbrev pub AreMentioned : {T : Type 0} → List (TypeView T) → List NotedUse → List Mention → Type 0
AreMentioned types [] [] = Unit {0}
AreMentioned types [] (m ∷ ms) = ⊥
AreMentioned types (u ∷ us) [] = ⊥
AreMentioned types (u ∷ us) (m ∷ ms) = IsMentioned types u m × AreMentioned types us ms

-- what one operation uses
abbrev pub uses_by : Ptr OperationKind → List PendingUse → List NotedUse
uses_by p [] = []
uses_by p (u ∷ us) = if same_ptr u.op p then noted_use u ∷ uses_by p us else uses_by p us

-- what a node uses
abbrev pub uses_at : IRNode → List PendingUse → List NotedUse
uses_at (Operation p) us = uses_by p us
uses_at (Region p) us = []
uses_at (BasicBlock p) us = []

-- operands of these names and types, and successors of these labels
abbrev pub noted_operands : Option (Ptr OperationKind) → List (List ℕ) → List ℕ → List NotedUse
noted_operands body [] types = []
noted_operands body (w ∷ ws) [] = []
noted_operands body (w ∷ ws) (t ∷ ts) = noted_operand (body, w) t ∷ noted_operands body ws ts

-- a place in a region, and as many places; none outside all regions
abbrev pub place_in : Option (Ptr RegionKind) → ℕ → ℕ
place_in None i = 0
place_in (Some r) i = i

abbrev pub noted_successors : Option (Ptr RegionKind) → (i : ℕ) → List (List ℕ) → List NotedUse
noted_successors region i [] = []
noted_successors region i (w ∷ ws) =
    noted_successor (region, w) (place_in region i) ∷ noted_successors region (i + 1) ws

-- where an operation is read, as a scope
abbrev pub scope_of : Place → Scope
scope_of at = record { body = at.body; region = option_map (λ b. b.0) at.block }

-- ---- what is noted

-- a name and a label, each with what bears it, as they stand in the text
abbrev pub plain_name : NameInBody × Value → WordIn OperationKind × Value
plain_name b = ((b.0.0, b.0.1.now), b.1)

abbrev pub plain_label : LabelInRegion × Ptr BlockKind → WordIn RegionKind × Ptr BlockKind
plain_label b = ((Some b.0.0, b.0.1.now), b.1)

-- the tables say of each word what it means among these
abbrev pub SaysValues : NameTable NameInBody Value → List (WordIn OperationKind × Value) → Type 0
SaysValues table listed = (n : NameInBody) → meanings same_name table n ≡ meaning same_word listed (n.0, n.1.now)

abbrev pub SaysLabels : NameTable LabelInRegion (Ptr BlockKind) → List (WordIn RegionKind × Ptr BlockKind) → Type 0
SaysLabels table listed = (l : LabelInRegion) →
    meanings same_label table l ≡ meaning same_word listed (Some l.0, l.1.now)

-- these values, and these blocks, bear names besides those that bore some before
abbrev pub AddsValues : (old new : NameTable NameInBody Value) → List (WordIn OperationKind × Value) → Type 0
AddsValues old new more = (added : List (NameInBody × Value)) × (map plain_name added ≡ more) ×
    Bears same_name old new added

abbrev pub AddsLabels : (old new : NameTable LabelInRegion (Ptr BlockKind)) →
    List (WordIn RegionKind × Ptr BlockKind) → Type 0
AddsLabels old new more = (added : List (LabelInRegion × Ptr BlockKind)) × (map plain_label added ≡ more) ×
    Bears same_label old new added

-- an operation comes to use these
abbrev pub AddsNoted : Ptr OperationKind → List NotedUse → (old new : List PendingUse) → Type 0
AddsNoted p noted old new = (more : List PendingUse) × (new ≡ old ++ more) × All (λ (u : PendingUse). u.op ≡ p) more ×
    (map noted_use more ≡ noted)

module _ {K A T : Type 0} where
  -- From s to t more was read, and this was noted, and no more: who bears names, and what operations use that were not
  -- there in s.
  pub record IsNoted (s t : ContextView K A T) (old new : Notes) (ms : List Mention) : Type 0 where
    pub values : AddsValues old.values new.values (values_in ms)
    pub labels : AddsLabels old.labels new.labels (labels_in ms)
    pub more : List PendingUse
    pub added : new.uses.items ≡ old.uses.items ++ more
    pub fresh : All (λ (u : PendingUse). is_live s (Operation u.op) ≡ false) more
    pub mentioned : AreMentioned t.types (map noted_use more) (uses_in ms)

  module _ (s : ContextView K A T) (us : List PendingUse) where
    -- The operation at n holds what an own header says but for operands and successors: it has no operand, and as many
    -- successors as it has labels in a region. What it uses was noted: operands of the written names and types, and
    -- then successors of the written labels.
    pub record IsOwnNoted (at : Scope) (n : IRNode) (h : Header K) : Type 0 where
      pub entries : List (List ℕ × AttrView A)
      pub result_types : List ℕ
      pub operand_types : List ℕ
      pub successors : List (Ptr BlockKind)
      pub holds : HoldsOp s n (own_op h.kind (result_names h.names) entries result_types successors)
      pub as_many : length successors ≡ place_in at.region (length h.uses.successors)
      pub typed : length h.uses.operands ≡ length operand_types
      pub entries_meant : IsDictMeant s.types h.entries entries
      pub results_typed : NamesAll s.types result_types h.signature.result_types
      pub operands_typed : NamesAll s.types operand_types h.signature.operand_types
      pub uses : uses_at n us ≡ noted_operands at.body h.uses.operands operand_types ++
          noted_successors at.region 0 h.uses.successors

    -- the operation at n is what stands before the regions, but for what it uses, which was noted
    abbrev pub IsFrontNoted : Scope → IRNode → Front K → Type 0
    IsFrontNoted at n (bodied_front h) = IsHeaderAt s n h × (uses_at n us ≡ [])
    IsFrontNoted at n (constant_front w a t) = IsConstantAt s n (result_names (w ∷ [])) (a, t) × (uses_at n us ≡ [])
    IsFrontNoted at n (own_front h) = IsOwnNoted at n h

-- ---- what is read

-- a block as it stands among others
pub record SpellsBlock {K : Type 0} (find : List ℕ → Option K) (b : BlockHead × IrOps K) (ts : List Token) :
    Type 0 where
  pub head : List Token
  pub inside : List Token
  pub head_spelled : SpellsBlockHead b.0 head
  pub spelled : SpellsOps find b.1 inside
  pub tokens : ts ≡ head ++ inside

-- blocks in braces
abbrev pub SpellsBody : {K : Type 0} → (find : List ℕ → Option K) → IrBlocks K → List Token → Type 0
SpellsBody find bs ts = (body : List Token) × SpellsBlocks find bs body × (ts ≡ enclosed 123 body 125)

-- The part x was read, which stands first in the text, with at most n levels in it; the nodes that are made stand for
-- it, and what it says of names was noted.
pub record Reads {K A T X : Type 0} (Spelled : X → List Token → Type 0) (levels : X → ℕ) (Stands : X → Type 0)
    (mentions : X → List Mention) (n : ℕ) (bytes rest : List ℕ) (s t : ContextView K A T) (old new : Notes) :
    Type 0 where
  pub part : X
  pub tokens : List Token
  pub begins : Begins bytes tokens rest
  pub spelled : Spelled part tokens
  pub within : levels part ≤ n
  pub stands : Stands part
  pub noted : IsNoted s t old new (mentions part)

-- From s to t, in which the notes were old and are new, a part of a text was read, and rest stands behind it.
module _ {K A T : Type 0} (find : List ℕ → Option K) (isolated : K → Bool) (n : ℕ) (bytes rest : List ℕ)
    (s t : ContextView K A T) (old new : Notes) where
  -- an operation at a node in a scope
  abbrev pub ReadsIr : Scope → IRNode → Type 0
  ReadsIr at m = Reads (SpellsOp find) op_levels (IsIrAt isolated t (IsFrontNoted t new.uses.items) at m)
      (op_mentions isolated t at m) n bytes rest s t old new

  -- the regions of an operation, whose names are looked up in a body
  abbrev pub ReadsRegions : (body : Option (Ptr OperationKind)) → IRNode → Type 0
  ReadsRegions body m = Reads (SpellsRegions find) regions_levels
      (AreRegionsAt isolated t (IsFrontNoted t new.uses.items) body (children t m))
      (regions_mentions isolated t body (children t m)) n bytes rest s t old new

  -- the blocks of a region
  abbrev pub ReadsBody : Scope → IRNode → Type 0
  ReadsBody at m = Reads (SpellsBody find) blocks_levels
      (AreBlocksAt isolated t (IsFrontNoted t new.uses.items) at (children t m))
      (blocks_mentions isolated t at (children t m)) n bytes rest s t old new

  -- a block
  abbrev pub ReadsBlock : Scope → IRNode → Type 0
  ReadsBlock at m = Reads (SpellsBlock find) (λ b. max (block_levels b.0) (ops_levels b.1))
      (λ b. IsBlockHeadAt t m b.0 × AreOpsAt isolated t (IsFrontNoted t new.uses.items) at (children t m) b.1)
      (λ b. head_mentions isolated at m b.0 ++ ops_mentions isolated t at (children t m) b.1) n bytes rest s t old new

  -- the operations of a block
  abbrev pub ReadsOps : Scope → IRNode → Type 0
  ReadsOps at m = Reads (SpellsOps find) ops_levels
      (AreOpsAt isolated t (IsFrontNoted t new.uses.items) at (children t m))
      (ops_mentions isolated t at (children t m)) n bytes rest s t old new

  -- the head of a block, in a scope
  pub record ReadsHead (at : Scope) (m : IRNode) : Type 0 where
    pub head : BlockHead
    pub read : block_head_at n bytes ≡ Ok (head, rest)
    pub stands : IsBlockHeadAt t m head
    pub noted : IsNoted s t old new (head_mentions isolated at m head)

-- what stands behind an id up to the regions is a part of this front, where these names stand before the id
abbrev pub IsFrontRead : {K : Type 0} → (n : ℕ) → List (List ℕ) → IrKind K → (bytes rest : List ℕ) → Front K → Type 0
IsFrontRead n ws (Builtin (Bodied k)) bytes rest f = (h : _) × (0 ≡ length ws) × (header_at n k bytes ≡ Ok (h, rest)) ×
    (f ≡ bodied_front h)
IsFrontRead n ws (Builtin Constant) bytes rest f = (c : _) × (named_constant_at n (length ws) bytes ≡ Ok (c, rest)) ×
    (f ≡ constant_front (first_name ws) c.0 c.1)
IsFrontRead n ws (Builtin ForwardRef) bytes rest f = ⊥
IsFrontRead n ws (Own k) bytes rest f = (p : Uses × (EntryTerms × Signature)) ×
    (parts_at n (length ws) bytes ≡ Ok (p, rest)) × (f ≡ own_front (header_with ws k p))

module _ {K A T : Type 0} (find : List ℕ → Option K) (isolated : K → Bool) (n : ℕ) (ws : List (List ℕ))
    (bytes rest : List ℕ) (s t : ContextView K A T) (old new : Notes) where
  -- an own operation without its regions, behind its id
  pub record ReadsOwnFront (kind : K) (at : Scope) (m : IRNode) : Type 0 where
    pub parts : Uses × (EntryTerms × Signature)
    pub read : parts_at n (length ws) bytes ≡ Ok (parts, rest)
    pub stands : IsOwnNoted t new.uses.items at m (header_with ws kind parts)
    pub noted : IsNoted s t old new (front_mentions isolated at m (own_front (header_with ws kind parts)))

  -- an operation behind its id
  pub record ReadsBehind (kind : IrKind K) (at : Scope) (m : IRNode) : Type 0 where
    pub front : Front K
    pub behind : List ℕ
    pub read : IsFrontRead n ws kind bytes behind front
    pub regions : IrRegions K
    pub has : HasRegions front regions
    pub tokens : List Token
    pub begins : Begins behind tokens rest
    pub spelled : SpellsRegions find regions tokens
    pub within : regions_levels regions ≤ n
    pub stands : IsIrAt isolated t (IsFrontNoted t new.uses.items) at m (ir_op front regions)
    pub noted : IsNoted s t old new (op_mentions isolated t at m (ir_op front regions))

-- the whole text was read as an operation at a node that stands in nothing
pub record ReadsText {K A T : Type 0} (find : List ℕ → Option K) (isolated : K → Bool) (n : ℕ) (bytes : List ℕ)
    (s t : ContextView K A T) (old new : Notes) (m : IRNode) : Type 0 where
  pub op : IrOp K
  pub text : IsText (IrWithin find n) bytes op
  pub stands : IsIrAt isolated t (IsFrontNoted t new.uses.items) nowhere m op
  pub noted : IsNoted s t old new (op_mentions isolated t nowhere m op)
