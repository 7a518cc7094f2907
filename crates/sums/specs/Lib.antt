-- A task's sum.
pub mod Sums
pub mod SixParts
pub mod Plain
pub mod Punctual
pub mod Limits
pub mod Links
pub mod Inputs
pub mod Cases
