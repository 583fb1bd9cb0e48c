-- What is proved of the steps' definitions.
pub mod Numbers
pub mod Marking
pub mod Committing
pub mod Concluding
pub mod Weighing
