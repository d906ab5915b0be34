pub mod AllRecords
pub mod RowSteps
pub mod TablesRead
