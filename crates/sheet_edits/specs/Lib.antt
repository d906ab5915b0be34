-- The definitions, in the order in which to read them.
pub mod Verdicts
pub mod Places
pub mod States
