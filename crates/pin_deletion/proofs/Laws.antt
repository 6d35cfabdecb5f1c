-- Laws of a deletion, bottom first.
pub mod Deletions
pub mod ShorterTexts
pub mod AcceptedTree
pub mod PinDeletion
pub mod Marked
