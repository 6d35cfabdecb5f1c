-- Delays, lengths and slacks: what they come to, how far they go, and how arrays give them.
pub mod VertexDelays
pub mod InReach
pub mod MeasuredArrays
pub mod Spending
pub mod FiguresInRange
