-- The parts of a sum.
pub mod Parts
