-- Laws of runs: a chain over a slice stops where the definitions do.
pub mod Runs
