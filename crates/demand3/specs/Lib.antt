-- Demand 3: the window answers as the record that never drops a token (Demand3); and a refused call changes nothing (Refused).
pub mod Sorting
pub mod Standing
pub mod Fetching
pub mod Lowest
pub mod Refused
pub mod Demand3
