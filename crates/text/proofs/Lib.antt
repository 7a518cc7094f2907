-- The laws of a buffer that is filled, of digits, and of lines put field by field.
pub mod Buffer
pub mod Digits
pub mod Fields
