-- The definitions of queries, rules and engines.
pub mod Book
pub mod Class
pub mod Rules
pub mod QueryTag
pub mod Flow
pub mod FlowViolation
pub mod Cleared
pub mod Engines
pub mod FaithfulEngines
