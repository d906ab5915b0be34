pub mod Statements
pub mod Distances
pub mod WorkedRules
