-- Sets of numbers as tests, 64-bit words as sets of 0 to 63, rows of words. What a reader must believe; the laws stand in proofs/.
pub mod Test
pub mod Word
pub mod Row
