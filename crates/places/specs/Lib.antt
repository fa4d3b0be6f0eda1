-- What stands at a place: what contracts cite of it, and its laws.
pub mod Places
pub mod Signs
