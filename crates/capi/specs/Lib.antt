-- What callers in C give and get: numbers for positions and answers, and the verdict of each call.
pub mod Stages
pub mod Numbers
pub mod Calls
pub mod Sheets
pub mod Fits
