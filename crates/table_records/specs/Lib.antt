-- The definitions, in the order in which to read them.
pub mod Records
pub mod Header
pub mod Tables
pub mod Worked
