-- Theorems about sets, records and images, and closed tests, for codec's proofs and for those of the layers above. Nothing here has to be believed.
pub mod Tests
pub mod Masks
pub mod Members
pub mod Remaining
pub mod Listed
pub mod Fields
pub mod Refusals
pub mod Readings
pub mod Tables
pub mod Pairs
pub mod RoundTrip
pub mod Stored
