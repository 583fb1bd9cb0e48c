-- What the code's types stand for, and what its questions ask.
pub mod Code
