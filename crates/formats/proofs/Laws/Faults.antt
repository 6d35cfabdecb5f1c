-- The faults of the two texts: of a line, of lines one after another, of a net, of a listing.
pub mod LineFaults
pub mod Steps
pub mod TextFaults
pub mod NetFaults
pub mod ListingFaults
