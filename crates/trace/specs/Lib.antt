-- One trace: what its instructions load, how often the bus is used, and which cache sets are useful where.
pub mod Cache
pub mod Traces
pub mod Places
pub mod Starts
pub mod Positions
pub mod Reciprocal
pub mod Caches
