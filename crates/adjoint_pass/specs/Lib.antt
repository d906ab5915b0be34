-- The definitions, in the order in which to read them.
pub mod Sweep
pub mod Sensitivities
pub mod Worked
pub mod Costs
pub mod Gathering
