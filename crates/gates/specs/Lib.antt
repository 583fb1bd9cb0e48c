-- What a gate counts in one number, and what questions and counts in one pass come to.
pub mod Weight
pub mod Code
