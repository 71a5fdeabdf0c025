-- What the judge of a refutation promises, and how its work areas stand while it works.
pub mod Promise
pub mod Work
pub mod Named
