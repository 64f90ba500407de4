pub mod PassTrack
pub mod AllTracks
pub mod Promises
pub mod TwoCalls
pub mod OneByOne
pub mod OfRecord
pub mod Sharing
pub mod Starred
