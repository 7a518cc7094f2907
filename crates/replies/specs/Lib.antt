-- What the calls for C and Rust hand back as words: a code and two words, and the figures table.
pub mod Replies
pub mod Records
