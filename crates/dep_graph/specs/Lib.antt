-- The definitions, in the order in which to read them.
pub mod Nodes
pub mod Reaching
pub mod Worked
pub mod Views
