-- What the contracts of the crate cite, and the laws by which its loops are proved.
pub mod Comments
