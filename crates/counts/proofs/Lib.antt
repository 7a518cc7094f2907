-- The laws of numbers kept bit by bit: their sums, and the carry of a mark.
pub mod Planes
pub mod Carries
