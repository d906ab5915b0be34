pub mod Script
pub mod Run
pub mod Exit
