pub mod Found
pub mod Forms
pub mod Answered
pub mod Ranges
