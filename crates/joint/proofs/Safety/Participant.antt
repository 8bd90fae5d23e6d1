-- What happens at a participant keeps the invariant.
pub mod Rows
pub mod Local
pub mod Places
pub mod Participants
