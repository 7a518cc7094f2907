-- The passes of a board, and what is delivered once they have ended.
pub mod Settling
pub mod Delivered
