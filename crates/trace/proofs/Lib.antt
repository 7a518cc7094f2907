-- The laws that join the code's scans to the definitions.
pub mod Places
pub mod Starts
pub mod Loads
pub mod Positions
pub mod Caches
pub mod Sets
pub mod Counts
pub mod Bounds
pub mod Touched
pub mod Reciprocal
pub mod OneWay
pub mod Document01
pub mod TwoCaches
pub mod Useful
