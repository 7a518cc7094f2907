-- What the sums over the tasks and the cores off a core add up.
pub mod Terms
