-- What a reviewer believes of positions, lengths and times, bottom first. Definitions alone.
pub mod MinMax
pub mod Floor
pub mod Distance
pub mod Delay
pub mod Median
pub mod Ranges
pub mod Box
-- What serves the contracts of inner functions, and proofs. Nothing of it need be believed.
pub mod Inner
