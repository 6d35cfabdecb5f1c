-- Settling changes no slack, and the loop that settles from the leaves up.
pub mod SlackKept
pub mod Medians
pub mod Children
pub mod SettleLoop
