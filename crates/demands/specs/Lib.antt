-- What further theorems of the calls say that the crates below do not name: what words of version 1 keep, what has passed before a run or a step is
-- refused, and how lent buffers are left.
pub mod VersionOne
pub mod RunRefused
pub mod BeforeSteps
pub mod Buffers
