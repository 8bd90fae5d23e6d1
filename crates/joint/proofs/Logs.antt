-- What the invariant says of the logs, images and waiting sets of a run.
pub mod Counts
pub mod Orders
pub mod Kinds
pub mod Facts
pub mod Taken
pub mod OneOfEight
