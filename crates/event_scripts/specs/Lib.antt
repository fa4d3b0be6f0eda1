-- Scripts of calls on an event stream: the calls as numbers, and what a script answers and leaves.
pub mod Script
pub mod ReplayLaws
pub mod Asking
pub mod AskingLaws
