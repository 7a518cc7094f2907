-- The laws of the input, of the number in an argument, and of the bytes that a reader gives.
pub mod Words
pub mod Digits
pub mod Taken
