-- The circuit of document 01, in the order of its section "The circuit", and what follows from a circuit alone.
pub mod Question
pub mod Verdict
pub mod Gate
pub mod Kind
pub mod Count
pub mod Round
pub mod Accept
pub mod Valid
pub mod Code
