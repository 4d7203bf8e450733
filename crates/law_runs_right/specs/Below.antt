-- What this law stands on, passed on to what stands above it, which need not list that then.
pub use Rattle.law_length_runs.specs as law_length_runs
pub use Rattle.drive_model.specs as drive_model
pub use Rattle.law_plain_table.specs.Below.fr_plain as fr_plain
pub use Rattle.law_plain_table.specs.Below.fr_terms as fr_terms
pub use Rattle.law_entries_events.specs.Below.law_runs_whole as law_runs_whole
pub use Rattle.law_entries_events.specs.Below.law_runs_whole.Below.coherent_memory as coherent_memory
pub use Rattle.law_entries_events.specs.Below.law_runs_whole.Below.journal as journal
pub use Rattle.law_length_runs.specs.Below.law_counts_things as law_counts_things
pub use Rattle.law_length_runs.specs.Below.law_runs_rounds as law_runs_rounds
pub use Rattle.law_entries_events.specs.Below.law_runs_whole.Below.server_model as server_model
pub use Rattle.law_plain_table.specs as law_plain_table
