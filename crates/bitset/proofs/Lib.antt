-- The laws of words as bits, of four words as a set, and of sets as records of a buffer.
pub mod Words
pub mod Sets
pub mod Buffers
