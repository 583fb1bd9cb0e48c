-- What is proved of scaling a list.
pub mod Scaling
