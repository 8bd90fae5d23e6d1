-- Lists of events and their answers, and effects in parts, for the proofs here and for those of the layer above. Nothing here has to be believed.
pub mod Events
pub mod Numbered
pub mod Effects
