-- What is proved of the range tool's definitions: lists that grow by a gate, one gate by its kind, all gates, and what the tool promises.
pub mod Growing
pub mod Reaching
pub mod ByKind
pub mod Asked
pub mod Values
pub mod Listed
pub mod Moves
pub mod Promised
pub mod Computing
pub mod Examples
