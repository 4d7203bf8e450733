pub mod PlaceLemmas
mod RoomLemmas
mod ThreadLemmas
mod StandLemmas
mod WaitLemmas
mod HopLemmas
mod SeenLemmas
