-- Document 01 by its sections: the problem, its runs and meaning, witnesses, the CNF, the calls, the job file. Proper and LassoValue are laws of
-- these, for contracts and for the judge.
pub mod Problem
pub mod Check
pub mod Proper
pub mod Runs
pub mod Formulas
pub mod Bounded
pub mod LassoValue
pub mod Witnesses
pub mod Cnf
pub mod Calls
pub mod VersionOne
pub mod Cases
