-- Clean runs (Job 7 of 02): how far one has come, what each of its events pays, and what every other event leaves.
pub mod Others
pub mod Stages
pub mod Members
pub mod Participants
pub mod Coordinators
pub mod OwnBytes
pub mod Steps
pub mod Own
pub mod Events
pub mod Runs
pub mod Opens
pub mod Price
pub mod Before
pub mod Quiet
pub mod Rounds
pub mod Serves
