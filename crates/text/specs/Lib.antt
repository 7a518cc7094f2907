-- Numbers and lines as bytes, in a lent buffer.
pub mod Text
pub mod Buffer
