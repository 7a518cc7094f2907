-- The data access of an instruction.
pub mod Accesses
