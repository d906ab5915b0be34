pub mod Lists
pub mod Turns
pub mod Order
pub mod Equations
pub mod Enclosing
pub mod Partials
pub mod Cones
pub mod Enclosed
pub mod Zips
pub mod Formulas
pub mod RenamedValues
pub mod Renamed
pub mod Gradients
mod Numbers
mod Rows
mod Effort
mod Nodes
mod Terms
mod Sweeping
