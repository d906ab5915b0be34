pub mod Sizes
pub mod Accepted
pub mod Refusals
pub mod SumSteps
pub mod Exact
pub mod InRange
