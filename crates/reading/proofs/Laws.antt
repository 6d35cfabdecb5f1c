-- The lines of a net and of a listing, as a reader comes to them.
pub mod Numbers
pub mod Steps
pub mod HeadLines
pub mod SinkLines
pub mod StatedLines
pub mod VertexLines
pub mod ListingLines
