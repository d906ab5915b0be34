-- The definitions, in the order in which to read them.
pub mod Quantities
pub mod Groups
pub mod WorkedGroups
pub mod Walks
pub mod Numbering
pub mod Statements
pub mod Grouping
pub mod Budgets
