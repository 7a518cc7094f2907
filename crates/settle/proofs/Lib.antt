-- Laws of what a call has of its board once it is settled.
pub mod Settled
