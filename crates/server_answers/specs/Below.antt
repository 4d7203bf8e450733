-- What answers stand on, passed on to the program above them, which need not list that then.
pub use Rattle.drust_run.specs as drust_run
pub use Rattle.law_length_programs.specs as law_length_programs
