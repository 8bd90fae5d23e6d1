-- Theorems about lists, a cohort's sets, the order of sends and a row's parts, for site's proofs and for those of the layer above. Nothing here has to be believed.
pub mod Lists
pub mod Sets
pub mod Remaining
pub mod Order
pub mod Parts
