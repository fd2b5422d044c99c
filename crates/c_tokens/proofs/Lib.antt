mod Classes
mod Comments
mod ConstantLaws
mod ExactSights
mod Flags
mod Letters
mod Lexemes
mod ListedSpans
mod Markers
mod Marks
mod Numbers
mod Quotes
mod Sights
mod SoundSights
mod SpanLemmas
mod Suffixes
pub mod Whole
