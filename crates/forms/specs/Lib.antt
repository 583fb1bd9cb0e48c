-- Circuits on a sheet: the words; forms, how they are printed, which rows make a sheet and which circuit a sheet is; when a text is refused.
-- Then how a text is read byte by byte, and the two entries, with examples. Last what the code's answer stands for.
pub mod Words
pub mod Form
pub mod Refusals
pub mod Machine
pub mod Entry
pub mod Example
pub mod Code
