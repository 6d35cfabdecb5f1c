-- What a reviewer believes of nets, trees and planning, bottom first. Definitions and statements alone.
pub mod Lists
pub mod Net
pub mod Tree
pub mod Weights
pub mod Measures
pub mod Kraft
pub mod Planning
pub mod Settling
pub mod Theorem1
pub mod SpanningTrees
pub mod SmallestSlack
pub mod Defects
pub mod Limits
pub mod Marked
-- What serves the contracts of inner functions. Nothing of it need be believed.
pub mod Inner
