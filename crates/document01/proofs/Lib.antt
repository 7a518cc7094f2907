-- What a board of document 01 is among today's, that demand 3 leaves no choice of an answer, and K1 to K11.
pub mod Boards
pub mod Demand
pub mod Cases
