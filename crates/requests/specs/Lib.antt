-- What a reader of the requests crate's contracts must believe.
pub mod Words
pub mod Names
pub mod Order
pub mod Calls
pub mod Lines
pub mod Texts
