-- Laws of the calls' refusals.
pub mod Checks
pub mod Seen
pub mod Accepted
