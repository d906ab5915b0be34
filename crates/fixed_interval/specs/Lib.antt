pub mod Interval
pub mod Extremes
pub mod Rules
pub mod Powers
pub mod Sums
