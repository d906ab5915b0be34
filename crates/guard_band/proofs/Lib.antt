pub mod Joined
pub mod Decisions
pub mod Exact
pub mod OneAnswer
