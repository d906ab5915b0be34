mod Quotient
mod Powers
mod Floor
mod Jets
mod Sizes
mod Expansions
mod Values
mod Totals
pub mod PlaceLemmas
pub mod RuleLemmas
pub mod CorrelationLemmas
