-- What all other proofs stand on: Booleans, lists, updates, the moments of a run's history, and plans.
pub mod Booleans
pub mod Lists
pub mod Survivors
pub mod Updates
pub mod Ranges
pub mod Bytes
pub mod Sums
pub mod Sends
pub mod Placed
pub mod History
pub mod Moments
pub mod Plans
pub mod EventMoments
pub mod Recorded
pub mod Looked
pub mod Forces
