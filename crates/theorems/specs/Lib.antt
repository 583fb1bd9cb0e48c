-- What is claimed of the joint run: accuracy, rounds, aborts, secrecy, and that over undoes times; of parties apart, that they are the joint run; and of marks, what they bind to.
pub mod Premises
pub mod Accuracy
pub mod Abort
pub mod Matching
pub mod Secrecy
pub mod Undone
pub mod Example
pub mod Squares
pub mod Gives
pub mod Overs
pub mod Apart
pub mod ApartDemands
pub mod Fitted
pub mod Binding
pub mod Cancelled
pub mod Transit
