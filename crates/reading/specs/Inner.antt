-- What serves the contracts of inner functions: of the net reader, and of the listing reader.
pub mod Sinks
pub mod Vertices
