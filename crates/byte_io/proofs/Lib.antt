pub mod ToldLemmas
pub mod FaultLemmas
pub mod SourceLemmas
pub mod SinkLemmas
