-- What the hash of an attribute is made from: a mark of its kind, and then its parts.
use Rattle.std.specs.Prelude.{ℕ, [], ◌++◌}
use Rattle.std.specs.Hash.{HashWrites, u8, u32, u64, usize, bool, str, slice, option}
use Rattle.plir_data.specs.AttrView.{Leaf, identifier, string, bool as boolean, integer, unit, type_of}
use Rattle.plir_data.specs.AttrView.{operand_segment_sizes, given_names, own, AttrView, leaf, dict, vec, Items}
use Rattle.plir_data.specs.AttrView.{no_items, item, Entries, no_entries, entry}

module _ {A : Type 0} where
  -- the mark of a kind
  abbrev pub mark : AttrView A → ℕ
  mark (leaf (identifier w)) = 0
  mark (leaf (string s)) = 1
  mark (leaf (boolean b)) = 2
  mark (leaf (integer t w b)) = 3
  mark (dict es) = 4
  mark (vec xs) = 5
  mark (leaf unit) = 6
  mark (leaf (type_of t)) = 7
  mark (leaf (operand_segment_sizes ns)) = 8
  mark (leaf (given_names ns)) = 9
  mark (leaf (own a)) = 10

  -- the parts of an attribute that holds no other; `own_words` gives those of the user's own
  abbrev pub leaf_words : (own_words : A → HashWrites) → Leaf A → HashWrites
  leaf_words own_words (identifier w) = str w
  leaf_words own_words (string s) = str s
  leaf_words own_words (boolean b) = bool b
  leaf_words own_words (integer t w b) = usize t ++ (u32 w ++ u64 b)
  leaf_words own_words unit = []
  leaf_words own_words (type_of t) = usize t
  leaf_words own_words (operand_segment_sizes ns) = slice u32 ns
  leaf_words own_words (given_names ns) = slice (option str) ns
  leaf_words own_words (own a) = own_words a

  abbrev mutual
    pub attr_words : (own_words : A → HashWrites) → AttrView A → HashWrites
    attr_words own_words (leaf x) = u8 (mark (leaf x)) ++ leaf_words own_words x
    attr_words own_words (dict es) = u8 4 ++ entries_words own_words es
    attr_words own_words (vec xs) = u8 5 ++ items_words own_words xs

    -- items, and then a mark of their end
    pub items_words : (own_words : A → HashWrites) → Items A → HashWrites
    items_words own_words no_items = u8 255
    items_words own_words (item x xs) = attr_words own_words x ++ items_words own_words xs

    -- keys with their attributes, and then a mark of their end
    pub entries_words : (own_words : A → HashWrites) → Entries A → HashWrites
    entries_words own_words no_entries = u8 255
    entries_words own_words (entry k x es) = str k ++ (attr_words own_words x ++ entries_words own_words es)
