-- Which boards are refused.
pub mod Refusals
pub mod Found
