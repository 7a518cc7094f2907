-- The laws of the figures of a task, and of the overhead.
pub mod Overhead
pub mod Rows
pub mod Listed
pub mod Fillable
pub mod Bounds
pub mod Document01
