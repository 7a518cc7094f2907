-- The laws of the sums over the tasks and the cores off a core.
pub mod OverCores
pub mod ByTask
pub mod ByCore
pub mod Bounds
pub mod Along
pub mod Inputs
