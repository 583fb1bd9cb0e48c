-- What is proved of sheets.
-- tests and choices taken apart; decimals; the table of words; how long all is that is printed
pub mod Choices
pub mod Decimal
pub mod Table
pub mod Lengths
-- several steps, and the text that a state has read
pub mod Stepping
pub mod Spelt
-- a word is read letter by letter, a number digit by digit, a form and a sheet by its print
pub mod Spelling
pub mod Numerals
pub mod Print
-- what is read can be finished; so a text lives exactly if it is read
pub mod Good
pub mod Finish
pub mod Living
-- the steps one by one, what they count and how deep they go
pub mod Moves
pub mod Counting
pub mod Depths
-- the reading as steps; which refusals fall where; so the reading is just what the definitions say
pub mod Reaching
pub mod Falling
pub mod Exactly
-- the rows that are written are a sheet, and read back as the same circuit
pub mod Rows
pub mod Written
pub mod RoundTrip
-- what the reader's entry answers
pub mod AtEntry
-- examples
pub mod Computing
pub mod Examples
