-- The range of each word of a board.
pub mod Ranges
pub mod Parts
