-- What a reader of the text crate's contracts must believe.
pub mod Text
pub mod Code
