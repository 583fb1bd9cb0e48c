-- What is proved of the circuit's definitions.
pub mod Computing
pub mod Tests
pub mod Verdicts
pub mod KindLaws
pub mod Counts
pub mod RoundLaws
pub mod Tallies
pub mod Gates
pub mod Asking
pub mod Valid
pub mod Loops
