-- The laws of sets, words and lists that every crate above cites.
pub mod Bools
pub mod Sets
pub mod Least
pub mod Sums
pub mod Digits
pub mod Words
pub mod Members
pub mod Fronts
