-- Document 02's range tool: each gate's interval, each score's move, the questions and the entry; then what they promise of whole numbers.
pub mod Interval
pub mod Move
pub mod Entry
pub mod Whole
pub mod Example
