-- What the contracts of this crate cite.
--
--   IrTerms      operations of all kinds as they are written
--   IrGrammar    IrWithin: which tokens stand for such an operation
--   Mentions     op_mentions: who bears a name in the tree of an operation, and what is used; value_meant: what a name
--                means
--   IrStanding   StandsForIr: a text stands for an operation, with what it uses by name
--   Readings     ReadsIr: what was read and noted, before what is used is known
--   Spelling     words: names as they stand in a text
--   IrReading    ir_opening_at: the parts of texts with own operations as they are read, with the first fault that is
--                met
--   IrOpReading  ir_op_at: operations of all kinds as they are read; MeetsIr: which fault a text meets
--   IrMeaning    IsIrOpening: what is held of such a part
--   OwnOps       own_op: what an own operation holds as it is made, before what it uses is known
--   Noting       AreReady: what is noted stands in a context; NotesOn: what more is noted
--   Linking      IsLinked: what operations come to use; LinksUses: how, by what names mean
--   UseFaults    HasUseFault: which fault is told of a use
--   Progress     IsReading: what reading leaves of a context as it was; HasRead, HasGrown: what has come
--   IrFaults     HasNoPlace: where nothing is wrong with the text, no place is told
pub mod IrTerms
pub mod IrGrammar
pub mod Mentions
pub mod IrStanding
pub mod Readings
pub mod Spelling
pub mod IrReading
pub mod IrOpReading
pub mod IrMeaning
pub mod OwnOps
pub mod Noting
pub mod Linking
pub mod UseFaults
pub mod Progress
pub mod IrFaults
