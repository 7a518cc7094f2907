-- Laws of the records, and the sets of a record.
pub mod Records
pub mod Sets
