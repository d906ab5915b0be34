pub mod Quantities
pub mod Evaluations
pub mod Evaluable
pub mod Renaming
pub mod Model
pub mod WorkedQuantities
pub mod Rules
pub mod Slots
