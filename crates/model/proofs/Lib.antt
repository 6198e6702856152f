-- The theorems of the model: what is before what, the closure, the lister, all sequences of an order, soundness of links,
-- the checks as tests, the relaxer, renumbering.
pub mod Before
pub mod Closure
pub mod Rising
pub mod Lister
pub mod Free
pub mod Sorted
pub mod Sequences
pub mod Walk
pub mod Soundness
pub mod Check
pub mod Relaxing
pub mod Relaxed
pub mod Renumbering
