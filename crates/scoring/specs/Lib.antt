-- What a reviewer believes of the router's score, bottom first.
pub mod Limits
pub mod Binary64
pub mod Exact
pub mod Scores
pub mod RoutersScore
pub mod Marked
-- What serves the contracts of inner functions. Nothing of it need be believed.
pub mod Inner
