-- The papers' model: plans and running, the order and its links, sequences. What a reader must believe; its theorems stand in proofs/.
pub mod Plan
pub mod Run
pub mod Order
pub mod Link
pub mod Sequence
pub mod Lister
pub mod Relax
pub mod Check
pub mod Closure
pub mod Walk
pub mod Renumber
