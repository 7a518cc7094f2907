-- One pass over the times of a board.
pub mod System
pub mod Punctual
pub mod Startable
pub mod DueTasks
pub mod Visiting
