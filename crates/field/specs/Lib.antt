-- The field of the prime that the code works with, and the names by which the crates above know it.
pub mod Prime
pub mod Words
