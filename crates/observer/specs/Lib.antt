-- The crate's definitions.
pub mod Observer
pub mod Visible
pub mod View
pub mod ObserverMachine
pub mod ObserverLaws
