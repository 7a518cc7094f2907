-- The laws of a board that passed its checks.
pub mod Extents
pub mod Ways
