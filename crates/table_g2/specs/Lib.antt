pub mod Known
pub mod Factors
pub mod Said
