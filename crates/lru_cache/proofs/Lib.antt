-- The laws of a cache.
pub mod Lists
pub mod Recent
pub mod Useful
pub mod Nowhere
pub mod Parts
pub mod Blocks
pub mod OneWay
pub mod Positions
pub mod OneWay01
