-- What counting promises.
pub mod Promise
pub mod Few
