pub mod Characters
pub mod Memory
pub mod Blanks
pub mod Pieces
pub mod Words
