-- Numbers: what their parts are, and the laws by which they are scanned.
pub mod Parts
pub mod Onward
pub mod Laws
