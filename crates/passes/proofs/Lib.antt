-- The laws of the passes, over any ascending step; a pass over all times together is one.
pub mod Steps
pub mod Ascending
pub mod Settling
pub mod Choices
pub mod Lighter
pub mod Alike
pub mod Looping
pub mod Orders
pub mod Visits
pub mod InOrder
pub mod Cases
