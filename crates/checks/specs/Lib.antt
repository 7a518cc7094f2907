-- What each call refuses, and what it knows where it does not.
pub mod CallRefusals
pub mod Accepted
