pub mod PieceSteps
pub mod Searches
pub mod WordSteps
pub mod WrittenTexts
