-- What document 01, and Q-4 of document 02, say of answers, clauses, CNF words and refutations. Nothing here knows of circuits.
pub mod Clauses
pub mod CnfWords
pub mod Refutations
pub mod StepsRefused
pub mod RightSteps
pub mod Refutable
pub mod Cases
