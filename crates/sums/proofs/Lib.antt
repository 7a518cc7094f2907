-- The laws of a task's sum.
pub mod Jitter
pub mod Rising
pub mod TimesRead
pub mod SixParts
pub mod PutOff
pub mod ZeroTimes
pub mod Punctual
pub mod Document01
pub mod Numbers
pub mod Links
pub mod Bounds
pub mod Inputs
pub mod Cases
