-- What the functions' proofs share, that the promise decides the answer, and that wrong versions break it.
pub mod Checks
pub mod RowParts
pub mod Parts
pub mod Judging
pub mod Unique
pub mod Lazy
pub mod LazyRuns
pub mod LazyConstraints
