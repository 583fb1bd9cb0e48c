-- What the readers of forms and rows promise, as reading on.
pub mod Code
