-- The laws of the walk over all tasks and their traces.
pub mod Sets
pub mod Evicted
pub mod Rows
pub mod Gathered
pub mod Surveyed
