-- What is proved of the range tool's code.
pub mod Ends
pub mod Holding
pub mod Walks
pub mod Questions
pub mod Told
