mod WholePart
mod Rows
pub mod Enclosed
mod Worked
pub mod SaidRanges
