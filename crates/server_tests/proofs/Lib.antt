mod DrivingLemmas
mod RunLemmas
