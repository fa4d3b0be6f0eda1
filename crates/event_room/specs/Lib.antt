-- The room of the events (Room), and the laws of its slots and of the ring.
pub mod Room
pub mod RoomLaws
pub mod RingLaws
