-- The blocks held in the sets of a cache, as the scan of a trace keeps them, and the marks that it makes.
pub mod Entries
pub mod Marks
