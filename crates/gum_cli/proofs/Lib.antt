pub mod Sound
pub mod Rooms
