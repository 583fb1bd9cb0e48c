-- What the writer's functions promise.
pub mod Code
