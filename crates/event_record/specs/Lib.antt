-- What an event stream must answer (Record), laws of it, computed examples, and which Begins no End closes (Unclosed).
pub mod Record
pub mod Unclosed
pub mod Examples
