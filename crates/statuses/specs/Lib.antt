-- A call's status, and how a C function tells a reply by it (Statuses); the same of the window's answers (OfWindow) and of the event
-- stream's (OfEvents); and laws.
pub mod Statuses
pub mod OfWindow
pub mod OfEvents
