-- What is proved of one party's definitions.
pub mod Lending
pub mod Accepted
pub mod Halves
pub mod Answers
pub mod Slots
pub mod Loops
pub mod Elements
