-- What the planner's arrays hold, from the sorting of the sinks to the planned tree.
pub mod NetAndTree
pub mod ReadyNet
pub mod ParentStores
pub mod InsertionSort
pub mod Merging
pub mod PlanArrays
