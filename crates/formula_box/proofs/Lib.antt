pub mod Ticks
pub mod Parting
pub mod Enclosing
pub mod Slopes
pub mod Absent
pub mod Shortcuts
