-- The definitions, in the order in which to read them.
pub mod Model
pub mod Law
pub mod Degrees
pub mod Rounding
pub mod WrittenRule
pub mod Renaming
pub mod WorkedRows
