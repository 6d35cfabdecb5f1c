-- Laws about lines of the two texts, for the proofs of this crate.
pub mod Laws
