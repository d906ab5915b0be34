-- Read Fraction, Number, Powers, Sums and Ratio, which have the definitions. The other files have lemmas, by which
-- those of Number are definitions, and on which the crates above rest theirs.
pub mod Fraction
pub mod Number
pub mod Powers
pub mod Sums
pub mod Ratio
pub mod NumberLaws
pub mod FractionLaws
pub mod Floor
pub mod Inverse
pub mod Whole
