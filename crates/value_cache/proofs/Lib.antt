pub mod Names
pub mod Faults
pub mod Evaluable
pub mod Sound
pub mod Rules
pub mod Numbers
pub mod Orders
pub mod Graphs
mod Filling
