-- The online phase of document 01 over any field. One party: what it holds, its positions, what it sends and what it works out of the words
-- received, its questions and its entries. All parties: the joint run, its questions and its entry, the circuit's value on plain inputs and
-- good preprocessing. Then what the code's types stand for and what its steps ask.
pub mod Part
pub mod Scratch
pub mod Position
pub mod Party
pub mod Send
pub mod Receive
pub mod Ask
pub mod Entry
pub mod Joint
pub mod Run
pub mod JointAsk
pub mod JointEntry
pub mod Plain
pub mod Good
pub mod Square
pub mod Give
pub mod Over
pub mod Formula
pub mod Docket
pub mod Holding
pub mod Code
pub mod Ready
