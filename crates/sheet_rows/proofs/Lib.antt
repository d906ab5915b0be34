pub mod Columns
pub mod Parts
pub mod Tests
pub mod Named
pub mod RegularRows
pub mod Quantities
pub mod Rules
