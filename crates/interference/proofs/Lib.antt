-- The laws of the interference by the bus, and of a sum by its parts.
pub mod Buses
pub mod Parts
