-- The tables of values, and what anyone may ask for of them.
pub mod Tables
pub mod Nodes
pub mod Values
