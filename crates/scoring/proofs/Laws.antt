-- Laws of the router's score, bottom first.
pub mod Parts
pub mod Sums
pub mod Exact
pub mod Weighing
pub mod Scores
pub mod RoutersScore
pub mod Marked
