-- What the window must answer (Record), and computed examples of it.
pub mod Record
pub mod Examples
