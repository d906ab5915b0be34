pub mod Enclosed
pub mod Quotients
mod Signs
