-- The word scratch.
pub mod Scratch
