-- The crate's lemmas.
pub mod Unseen
pub mod FlowGrants
pub mod Views
pub mod RuleEffects
pub mod UnseenSteps
pub mod SeenSteps
pub mod ObservedSteps
pub mod ObservedRuns
pub mod RunsByFlow
pub mod ReachedViews
pub mod Starts
pub mod EqualViews
pub mod ObserverLaws
mod SeenLists
