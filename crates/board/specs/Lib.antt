-- The board: where its words stand, and what a board that passed its checks is known to have.
pub mod Layout
pub mod Sound
pub mod Kinds
