-- A cache, seen from the blocks that were loaded.
pub mod Recency
pub mod Direct
pub mod Parts
pub mod Positions
