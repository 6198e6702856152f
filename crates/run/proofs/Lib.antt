-- The laws behind the functions of this crate, and what its replies mean.
pub mod Steps
pub mod RunEndings
