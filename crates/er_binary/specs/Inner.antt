-- What stands inside the decoder.
pub mod Decoders
pub mod Forms
pub mod Spans
pub mod Taking
pub mod Words
