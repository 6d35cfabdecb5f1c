-- What a reviewer believes of how the plan follows the net, bottom first.
pub mod Times
pub mod NothingLost
pub mod Marked
