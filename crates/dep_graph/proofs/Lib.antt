mod Entries
pub mod Searches
mod Chains
pub mod Orders
mod Inserting
mod Diamond
