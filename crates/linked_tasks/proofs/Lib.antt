-- Tasks by their numbers from 1, and sums along the links.
pub mod Numbered
pub mod Along
