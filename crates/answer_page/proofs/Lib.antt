-- The laws of the page of an answer.
pub mod Lines
