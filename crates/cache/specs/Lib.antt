-- The definitions of the rule cache.
pub mod Lines
pub mod Line
pub mod RuleCache
pub mod FaithfulCache
