-- The laws of the useful blocks of a trace, from its marks, and of the points that are counted.
pub mod Positions
pub mod Counting
pub mod Raising
pub mod Marked
