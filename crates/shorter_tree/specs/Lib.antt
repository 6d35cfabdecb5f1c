-- A net and a tree without one of the sinks: 02, request 9, as far as it needs no text. Definitions alone.
pub mod Deletion
pub mod Kept
pub mod Inner
