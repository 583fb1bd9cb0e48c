-- What the code's types stand for, and what its functions ask.
pub mod Code
pub mod Parts
