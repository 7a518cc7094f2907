-- The laws of the refusal table.
pub mod Verdicts
pub mod Searches
pub mod Strides
pub mod Sound
pub mod Passes
