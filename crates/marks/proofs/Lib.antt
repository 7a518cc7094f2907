-- The laws of a load, of an access, and of the scan that marks a trace.
pub mod Steps
pub mod Single
pub mod Touched
pub mod Evicting
pub mod Turns
