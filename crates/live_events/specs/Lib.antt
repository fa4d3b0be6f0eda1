-- What a call on an event stream that stands as numbers answers and leaves (Live).
pub mod Live
