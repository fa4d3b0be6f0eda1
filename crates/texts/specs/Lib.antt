-- What the contracts of the crate cite (Items, Quoted, Regexps), and the laws by which its loops are proved.
pub mod Items
pub mod Quoted
pub mod Regexps
