-- Walks up a tree, splits of an edge, legal trees and the search for what makes one illegal.
pub mod Walks
pub mod Growing
pub mod AnySplit
pub mod Under
pub mod SplitUnder
pub mod StepsToRoot
pub mod LegalTrees
pub mod Upward
pub mod Defects
pub mod NamedDefects
pub mod Counting
pub mod Linking
pub mod Descent
