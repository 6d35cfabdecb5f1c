-- A pin is deleted and the tree is kept: 02, request 9, bottom first. What it takes to believe it: these, and the definitions below that they use. Definitions alone.
pub mod Deletions
pub mod PinDeletion
pub mod Marked
pub mod Inner
