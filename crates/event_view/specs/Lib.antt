-- The event stream without its rings: it answers as the plain list does (Viewing, Viewed), a refused call changes nothing (Still), and the
-- open nodes are the Begins that no End closes (Nesting).
pub mod CallLaws
pub mod Nesting
pub mod Still
pub mod Viewing
pub mod Viewed
