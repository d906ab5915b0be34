-- The definitions, in the order in which to read them.
pub mod Parts
pub mod Givens
pub mod Readings
pub mod Correlations
pub mod Tolerances
pub mod Reading
pub mod Tables
pub mod Printing
