-- Arithmetic for any field: its operations, its laws, sums of its elements, and what a function ensures of an element.
pub mod Ops
pub mod Field
pub mod Sum
pub mod Element
