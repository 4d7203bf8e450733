pub mod ChosenRuns
pub mod ChosenEndRuns
