-- Theorems about what stands in specs/, in modules of the same names.
pub mod Sorting
pub mod Standing
pub mod Fetching
pub mod Lowest
pub mod Answering
pub mod Simulation
pub mod Refused
pub mod Slots
pub mod Demand3
