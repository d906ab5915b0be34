pub mod Shapes
pub mod Variances
