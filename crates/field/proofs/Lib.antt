-- The prime field as an instance of the laws; products, their bounds and their sums; that the size is prime, and the inverse.
pub mod Laws
pub mod Bounds
pub mod Folding
pub mod Products
pub mod Primality
pub mod Euclid
pub mod Turns
