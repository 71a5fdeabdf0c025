-- What the answers exclude.
pub mod Lazy
pub mod WholeInput
