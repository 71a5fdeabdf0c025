-- What the theorems of this crate say that the crates below do not name: the laws of the node variables, models, bytes, bounds, what is excluded,
-- document 000's witnesses, refutations that are accepted.
pub mod NodeLaws
pub mod ModelLaws
pub mod Layout
pub mod Bytes
pub mod Bounds
pub mod Pairs
pub mod Excluded
pub mod WithoutLoop
pub mod Refutable
