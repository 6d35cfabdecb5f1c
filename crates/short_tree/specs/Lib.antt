-- What a reviewer believes of the short tree and the second plan, bottom first.
pub mod Choosing
pub mod ShortTree
pub mod Theorem2
pub mod SecondPlan
pub mod Marked
-- What serves the contracts of inner functions. Nothing of it need be believed.
pub mod Inner
