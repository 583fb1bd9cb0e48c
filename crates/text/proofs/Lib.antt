-- What is proved of reading text.
pub mod Steps
