-- What the parts of the code stand for: a share and its MAC share, as words.
pub mod Code
