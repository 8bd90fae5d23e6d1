-- What happens at the coordinator keeps the invariant.
pub mod Passes
pub mod Logs
pub mod Steps
pub mod Ways
pub mod Crashes
pub mod Shifts
pub mod Runs
pub mod Commits
pub mod Ends
pub mod Coordinators
pub mod Discards
pub mod Resumes
pub mod Opens
