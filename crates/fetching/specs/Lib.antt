-- What fetching answers and leaves in the room (Fetching), and its laws.
pub mod Fetching
pub mod FetchingLaws
