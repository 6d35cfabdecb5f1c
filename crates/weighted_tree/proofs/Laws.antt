-- Laws of the tree by switching weights, bottom first.
pub mod Exchange
pub mod Forests
pub mod Costs
pub mod Picking
pub mod Joins
pub mod Fits
pub mod LeastWeighted
pub mod Ranges
pub mod FirstTwo
pub mod Queues
pub mod JoinArrays
pub mod Numbering
pub mod ThirdPlan
pub mod Marked
