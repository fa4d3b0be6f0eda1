-- What the room holds (Room), and its laws.
pub mod Room
pub mod RoomLaws
pub mod ReadBack
