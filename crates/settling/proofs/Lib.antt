-- Laws of a board's passes, and of what is delivered.
pub mod Ends
pub mod Counting
pub mod Turning
pub mod Moved
pub mod Differing
pub mod Delivered
