-- What a call that needs settled times has of its board, by the verdict of its checks.
pub mod Begun
pub mod Settled
