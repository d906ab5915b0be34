pub mod Counting
pub mod Enclosed
pub mod Exact
pub mod Models
pub mod NotNegative
pub mod Renamed
pub mod Sums
pub mod Triangles
