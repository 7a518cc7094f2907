-- What the sums take from a task's traces: PD, MD, ECB and the pre-emption overhead.
pub mod Ready
pub mod Figures
pub mod Overhead
pub mod Rows
pub mod Higher
pub mod Survey
