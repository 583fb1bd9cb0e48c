-- What is proved of the pass over the gates, of the scan, and of what is counted.
pub mod Well
pub mod Scan
pub mod Weights
