-- Numbers kept bit by bit, what a mark does to them, and their sum over the sets of an ECB.
pub mod Planes
pub mod Turns
pub mod Carries
pub mod Counted
