-- What each call answers, leaves and promises.
pub mod Answers
pub mod Demand
pub mod InOrder
pub mod MakeUp
pub mod PartNumbers
pub mod Records
pub mod Concluded
