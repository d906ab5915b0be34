pub mod Settled
pub mod Scales
pub mod Printed
pub mod Correlations
pub mod WithinOne
pub mod Searches
pub mod Reports
