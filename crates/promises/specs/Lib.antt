-- The table of examples that are proved. What a reader must believe.
pub mod Examples
