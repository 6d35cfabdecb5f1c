-- The net text: its head, its sinks, the whole.
pub mod Weighing
pub mod SinkLines
pub mod SinkTexts
pub mod NetTexts
