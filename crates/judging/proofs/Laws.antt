-- The Kraft maximum, found sink by sink.
pub mod Largest
pub mod SinkSplits
pub mod SinkArrays
pub mod Measuring
