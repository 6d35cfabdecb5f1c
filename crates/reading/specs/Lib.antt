-- What serves the contracts of this crate's inner functions. Nothing of it need be believed.
pub mod Inner
