-- The definitions, in the order in which to read them.
pub mod Numbers
pub mod Models
pub mod Groups
pub mod DegreeViews
pub mod DigitViews
pub mod RuleViews
