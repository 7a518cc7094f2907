-- The numbers of useful blocks from position to position, and what the scan of a trace finds.
pub mod Levels
pub mod Found
