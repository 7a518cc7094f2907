-- A program's input as words, and its argument as a number.
pub mod Input
pub mod Argument
