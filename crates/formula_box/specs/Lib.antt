pub mod Values
pub mod Slopes
pub mod Costs
pub mod Exact
pub mod Parts
