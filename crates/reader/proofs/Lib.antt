-- What is proved of the readers of forms and rows.
-- a gate behind the gates before it
pub mod Pushing
-- the states at which a form is read
pub mod Places
-- brackets that close forms, and leaves
pub mod Closings
-- forms with operands, and operands
pub mod Operands
pub mod AtOnce
-- rows, one after another
pub mod Growing
-- what a callee promised, at its answer
pub mod Told
-- a list copied
-- the entry
pub mod Entering
