-- What the arrays hold from insertion to insertion, and which edge is chosen from them.
pub mod Comparing
pub mod Choosing
pub mod InsertionLoop
