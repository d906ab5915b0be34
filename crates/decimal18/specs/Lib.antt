pub mod Bound
pub mod Down
pub mod Digits
pub mod Text
pub mod Literal
pub mod Significand
pub mod Order
pub mod OrderLaws
