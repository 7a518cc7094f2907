-- The laws of the ranges.
pub mod Rows
