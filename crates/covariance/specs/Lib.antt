pub mod Gradients
pub mod Groups
pub mod Renaming
pub mod Variances
pub mod Models
pub mod Costs
pub mod Partial
pub mod Worked
