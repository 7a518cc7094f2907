-- Tasks by their numbers from 1.
pub mod Numbered
