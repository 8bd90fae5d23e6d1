-- One transaction in the joint run: what it sees of each event.
pub mod View
pub mod Turn
pub mod Acts
pub mod Carries
pub mod Settles
pub mod Once
pub mod Restarts
pub mod Rows
pub mod Events
pub mod Cohorts
