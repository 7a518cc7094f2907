-- The laws of the definitions in specs/, stated once over any function.
pub mod Numbers
pub mod Folds
pub mod Searches
pub mod Largest
pub mod Lists
pub mod Joined
pub mod Loops
pub mod Last
pub mod Reaches
pub mod Named
pub mod Filled
pub mod Stored
