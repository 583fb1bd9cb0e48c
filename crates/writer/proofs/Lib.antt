-- What is proved of the writer: bytes over a text; digits; the parts of a row; all rows, and the writer's answer.
pub mod Putting
pub mod Digits
pub mod Pieces
pub mod Sheets
