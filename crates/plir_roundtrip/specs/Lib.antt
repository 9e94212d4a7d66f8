-- What the laws of the round trip cite, and the test whether the law of builtin operations speaks of one.
--
--   Written        op_term_of: an operation as it is written
--   Readable       IsReadable: what a text tells of an operation is all that it holds, and can be read
--   SameTree       IsSameTree: two trees are the same but for the numbers of their nodes
--   OpAnswer       IsOpRead: what the reader answers; IsReadBack: that it reads back what was printed;
--                  NewModulesReadable
--   ReadableParts  what the test asks of a value, a node, and of all nodes of a tree
--   WrittenLevels  how many levels the parts of an operation have as they are written
--
-- Of operations of any kind:
--
--   IrWritten      ir_term_of: an operation as it is written
--   IrReadable     HasReadableText: what is asked of an operation, so that its text stands for it
--   TextsStanding  IrTextsStand: the text of an operation stands for it; IrTextsArePrintable: it can be printed
--   IrReadBack     IsIrRead: what the reader answers; IsIrReadBack: that it reads back what was printed
--   SameIrTree     IsSameIrTree: two trees are the same, with what their operations use
--   UsesMeant      UsesStand: each name that the text of an operation uses means what it was written for
--   SameReadBack   IsSameReadBack: what was printed is read back as the same tree
--   BuiltinTexts   BuiltinTextsAreRead: texts of builtin operations are texts of operations of any kind
--   UsesWithin     UsesWithin: the operations of a tree use what they can name
--   IrReadableUses IsIrReadable: what the laws of operations of any kind ask; ReadableUsesStand: that it suffices
--   Obstacles      IsObstacle: what stands against it, and what its test tells on the way
pub mod Written
pub mod Readable
pub mod SameTree
pub mod OpAnswer
pub mod ReadableParts
pub mod WrittenLevels
pub mod IrWritten
pub mod IrReadable
pub mod TextsStanding
pub mod IrReadBack
pub mod SameIrTree
pub mod UsesMeant
pub mod SameReadBack
pub mod BuiltinTexts
pub mod UsesWithin
pub mod IrReadableUses
pub mod Obstacles
