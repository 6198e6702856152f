-- Replies, the layout of words, rows, links and sequences, and what is refused of each. What a reader must believe; the proofs stand in proofs/.
pub mod Refusal
pub mod Layout
pub mod Words
pub mod StepSets
pub mod Links
pub mod Sequences
pub mod Endings
pub mod LinkEndings
pub mod StretchEndings
pub mod Message
