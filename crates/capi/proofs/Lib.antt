-- What is proved of the numbers that callers in C give and get.
pub mod Calling
pub mod Naming
pub mod Stages
pub mod SheetCalls
pub mod FitCalls
