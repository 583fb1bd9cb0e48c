-- The standard's vectors; the choice; loops that write a list, the schedule and the rounds; comparing; words and bytes; one block.
pub mod Vectors
pub mod Choice
pub mod Written
pub mod Turns
pub mod Filling
pub mod Ahead
pub mod Alike
pub mod Bytes
pub mod OneBlock
