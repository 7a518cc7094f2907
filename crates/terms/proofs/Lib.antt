-- The laws that the code of the terms needs.
pub mod Windows
pub mod Releases
pub mod Refreshes
