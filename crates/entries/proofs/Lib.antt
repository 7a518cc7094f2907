-- The laws of entries and of marks.
pub mod Entries
pub mod Lines
pub mod Kept
pub mod Marking
pub mod Counting
