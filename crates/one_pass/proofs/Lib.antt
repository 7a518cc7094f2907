-- Laws of one pass.
pub mod Sums
pub mod FullJitter
pub mod Halves
pub mod DueTasks
pub mod Visiting
pub mod Turned
pub mod Punctual
