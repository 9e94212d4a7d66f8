-- Lemmas by subject.
mod Blanking
mod Cutting
mod Digits
mod Ending
mod Feeding
mod Fronts
mod Matching
mod Reading
mod Seeking
mod Squeezing
mod Taking
mod Telling
