-- What follows from the laws for every field.
pub mod Ring
pub mod Solver
pub mod Sums
pub mod Inverse
