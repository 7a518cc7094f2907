-- The laws of the answers: demand 3 of the definitions, passes in order beside Analyse's, the six numbers of a task, and boards with no jitter.
pub mod PartNumbers
pub mod Outcomes
pub mod Concluded
pub mod Demand
pub mod InOrder
pub mod MakeUp
pub mod Punctual
pub mod Passes01
pub mod Document01
