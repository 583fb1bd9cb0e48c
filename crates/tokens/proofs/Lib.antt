-- What is proved of the leaves of reading.
-- one byte on, parts of a text
pub mod Onward
pub mod Parts
-- the table of words, the table of rows
pub mod Tables
-- numbers and names
pub mod Naming
pub mod Numerals
pub mod Written
-- words
pub mod Wording
pub mod Lettering
-- digits behind words
pub mod Behind
