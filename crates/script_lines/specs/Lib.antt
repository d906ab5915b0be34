pub mod Blocks
pub mod Items
pub mod Yields
pub mod Parts
pub mod Queries
pub mod Commands
pub mod Texts
