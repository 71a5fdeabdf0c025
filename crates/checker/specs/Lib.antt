-- What preparing and judging a refutation of a problem's CNF promise.
pub mod Preparing
pub mod Refutation
