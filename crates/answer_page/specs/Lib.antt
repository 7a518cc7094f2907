-- The page of an answer, and what it takes to print one.
pub mod AnswerPage
pub mod Printable
