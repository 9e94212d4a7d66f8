-- What the contracts of this crate cite.
--
--   Identifier   is_identifier
--   Inline       how an identifier holds its text
--   NameLaws     a law of identifiers, for the proofs of the crates above
--   Keys         the keys of attributes that the builtin dialect holds
--   Types        TypeView T: a type as contracts see it; IsLive, AllLive, type_at, handles_of, IsInstantiated,
--   IsTypeTable
--   Integers     bits_of, signed_of, literal: integers of some bits, as numbers and as digits
--   TypeSeen     type_view: a `TypeObj` as a TypeView
--   TypeNames    the names of the marks of builtin types
--   Hashed       what a list keeps beside its things, so that a thing is found by its hash
--   Verify       IsVerdict: what a verifier answers
--   AttrView     AttrView A: an attribute as contracts see it, with its leaves, items and entries
--   AttrSeen     attr_view: an `AttrObj` as an AttrView
--   Dictionary   dict_get, dict_put, dict_without, IsDictionary: entries in ascending order of their keys
--   DictLaws     laws of look-ups after edits, for the proofs of the crates above
--   DictSeen     a list of attributes under keys as a dictionary's entries
--   Places       IsPlace: where a key stands among entries whose keys ascend
--   AttrDepth    how deep attributes stand in one another
--   DepthLaws    laws of the numbers that fall from an attribute to those in it, for the proofs of the crates above
--   AttrCalls    attr_id, attr_type, type_in_attr, is_outlined: what the getters of an attribute answer
--   AttrEq, AttrHash   attr_eq, attr_words: equality of attributes, and what their hash is made from
--   AttrLive     IsAttrLive: the handles in an attribute name types of a table; HandlesLive: those in a dictionary
--   LiveLaws     laws of live handles in lists and dictionaries, for the proofs of the crates above
--   AttrVerify   attr_is_valid, IsRefusal: which attributes are valid, and how others are refused
--   TextParts    Puts: a text has come behind what there was; parted: things with something between them
--   TextLaws     laws of pieces that are put one behind another, for the proofs of the crates above
--   OwnParts     Part, behind_id: the text of an own type or attribute, in parts
--   PartSeen     part_view: an `OwnPart` as a Part
--   Unrolled     unrolled: what is made of a type with all that its handles name
--   TypeTree, TypeText   tree_of, type_text: a type as a whole, and its text
--   CallSites   inlined_at: the location of a copy that stands in place of a call
--   NamesLent, EntryLent   LendsNames, LendsEntry: what becomes of given names, and of a dictionary's entry, that are
--   lent
--   Laws         IsReordered, OrderIsNotSeen, IsDictOfItself: laws of dictionaries; IsMadeOfTrees: a law of types
--   AttrCode, AttrFalls, AttrLaws   what the prover needs of attributes that hold attributes
pub mod Identifier
pub mod Inline
pub mod NameLaws
pub mod Keys
pub mod Types
pub mod Hashed
pub mod Integers
pub mod TypeSeen
pub mod TypeNames
pub mod Verify
pub mod AttrView
pub mod AttrCode
pub mod AttrDepth
pub mod AttrSeen
pub mod DictSeen
pub mod AttrFalls
pub mod DepthLaws
pub mod Dictionary
pub mod DictLaws
pub mod Places
pub mod AttrCalls
pub mod AttrEq
pub mod AttrHash
pub mod AttrLaws
pub mod AttrLive
pub mod LiveLaws
pub mod AttrVerify
pub mod Laws
pub mod CallSites
pub mod NamesLent
pub mod EntryLent
pub mod TextParts
pub mod TextLaws
pub mod OwnParts
pub mod PartSeen
pub mod Unrolled
pub mod TypeTree
pub mod TypeText
