-- The order, the choice of the edge, the insertions, and Theorem 1.
pub mod KeepsBest
pub mod Earlier
pub mod OneOrder
pub mod Ties
pub mod BeforeSettling
pub mod SinkEdge
pub mod WorstAfter
pub mod Scores
pub mod Steps
pub mod TreeAfter
pub mod AnyTieRule
pub mod Theorem1
pub mod Marked
