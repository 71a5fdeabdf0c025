-- What the check of a problem and the readers of its words promise.
pub mod Promise
pub mod CheckParts
pub mod Good
pub mod Forms
