-- The definitions, in the order in which to read them.
pub mod Tables
pub mod Statistics
pub mod Sums
pub mod SumsOfTwo
pub mod WorkedTables
