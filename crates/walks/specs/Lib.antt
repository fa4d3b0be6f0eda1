-- Steps that any walk of code can take (Steps), and from a walk to a contract (Contracts).
pub mod Contracts
pub mod Steps
