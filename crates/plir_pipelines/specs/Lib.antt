-- What the contracts of this crate cite.
--
--   Settings     AreSettings: words are options with their numbers; AreRefused: one of them is not
--   Pipelines    AreSteps: words are passes with what their options are given; AreStepsRefused: one of them is not
--   Options      AreSet: what a pass is once its options are given numbers
--   Passes       IsPipeline: which passes a text names; IsPipelineRefused: it names none
--   OneOfPasses  what is said of passes of one of two kinds
--   Flags        AreConfigured: passes with their options as a command line gives them
--   Offers       CanBeOffered: passes whose names a command line can have; IsOfferRefusal: one has not
--   FlagOffers   CanBeFlags: options of passes whose names a command line can have
--   Times        times_table: how long passes took
pub mod Settings
pub mod Pipelines
pub mod Options
pub mod Passes
pub mod OneOfPasses
pub mod Flags
pub mod Offers
pub mod FlagOffers
pub mod Times
