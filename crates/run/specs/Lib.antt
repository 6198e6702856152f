-- Running a sequence: what the call replies. What a reader must believe; what the reply means stands in Endings.
pub mod Call
pub mod Endings
