-- The laws behind the functions of this crate, and what its refusals mean.
pub mod Layouts
pub mod Refusals
pub mod Faults
pub mod Sequences
pub mod Needs
pub mod NeedSteps
pub mod Outside
pub mod WordEndings
pub mod RowEndings
pub mod LinkEndings
pub mod Stretches
pub mod StretchEndings
pub mod Papers
