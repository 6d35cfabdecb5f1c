-- What a reviewer believes of the tree by switching weights, bottom first.
pub mod Joining
pub mod WeightedDelay
pub mod ThirdPlan
pub mod Marked
-- What serves the contracts of inner functions. Nothing of it need be believed.
pub mod Inner
