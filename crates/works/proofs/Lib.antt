-- What each call promises follows from what it has once it is settled.
pub mod MadeUp
pub mod Promised
