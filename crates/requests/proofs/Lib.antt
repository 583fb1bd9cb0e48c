-- What is proved of the names, the order and the lines of requests.
pub mod Names
pub mod Order
pub mod Lines
