-- Laws of the word scratch.
pub mod Added
pub mod Prepared
