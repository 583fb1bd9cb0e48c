-- What the reader's leaves promise, as reading on.
pub mod Code
