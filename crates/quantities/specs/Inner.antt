-- What serves the contracts of inner functions, bottom first.
pub mod Reach
-- For proofs: linear arithmetic over whole numbers.
pub mod Linear
