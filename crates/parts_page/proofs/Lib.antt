-- The laws of the page of how a time is made up.
pub mod Names
