-- The page of how a time is made up, and what it takes to print one.
pub mod PartsPage
pub mod Printable
