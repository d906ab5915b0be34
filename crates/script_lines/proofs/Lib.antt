pub mod LineParts
pub mod ItemSteps
pub mod LineAnswers
pub mod BlockAnswers
pub mod RegularLines
pub mod NoMemory
pub mod OpeningLines
