-- Scripts of calls and their answers as numbers (Scripts), calls run one after the other (Running), and calls by number (Tables).
pub mod Scripts
pub mod Running
pub mod Tables
