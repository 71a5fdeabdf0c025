-- The plain mathematics of the crate's proofs, that the promise decides the answer, and that wrong versions break it.
pub mod Preparing
pub mod ProblemRefutation
pub mod RefutedUnique
pub mod LazyProblem
