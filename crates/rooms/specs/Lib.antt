-- Laws of numbers that are stored in lent room (Stores), and of what stands in its slots (Slots).
pub mod Slots
