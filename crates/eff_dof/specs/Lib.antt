pub mod Parts
pub mod Degrees
pub mod GroupParts
pub mod Worked
