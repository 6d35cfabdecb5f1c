-- The least slack under each vertex, and how it is kept from insertion to insertion.
pub mod LeastAfter
pub mod GatheredNumbers
pub mod SmallestSlack
pub mod Lowering
pub mod HandingUp
pub mod Regathering
