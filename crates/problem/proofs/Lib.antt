-- What follows from the promises, and what the proofs of the functions share.
pub mod Unique
pub mod Outlines
pub mod Answered
pub mod FormsByOp
pub mod CountingOneMore
pub mod Formed
pub mod Lazy
pub mod LazyOrder
pub mod LazyConstraints
pub mod LazyCounts
pub mod GoodWords
