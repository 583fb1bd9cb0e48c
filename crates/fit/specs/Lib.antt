-- What the code's types stand for, and what its functions promise.
pub mod Code
