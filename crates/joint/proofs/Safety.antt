-- Demand 3: the invariant of one transaction, that each turn of its view keeps it, and that it holds along every list of events.
pub mod Tables
pub mod Finite
pub mod Outcomes
pub mod Sets
pub mod Invariant
pub mod Holds
pub mod Participant
pub mod Coordinator
pub mod Kept
pub mod Singles
pub mod Tracked
