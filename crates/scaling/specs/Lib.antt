-- What a reader of the scaling crate's contract must believe.
pub mod Scale
