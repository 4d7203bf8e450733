-- Generated programs as sources (this project's rule).
use Rattle.std.specs.Prelude.{ℕ, ◌≤◌, [], length}
use Rattle.fr_terms.specs.Terms.{Term}
use Rattle.fr_typing.specs.Kinds.{Kind, own, unit}
use Rattle.fr_typing.specs.Places.{Env}
use Rattle.fr_typing.specs.Typing.{Types}
use Rattle.fr_grammar.specs.Source.{IsSource}
use Rattle.fr_parse.specs.Canonical.{IsSame}
use Rattle.gen_load.specs.Programs.{program_text}

-- terms that differ in where their parts stand alone have the same type
abbrev pub TypingIgnoresPlaces : Type 0
TypingIgnoresPlaces = (t u : Term) (e e1 : Env) (k : Kind) → IsSame t u → Types e t k e1 → Types e u k e1

-- the text of a generated program is the source of a typed program, and not too long for an input
pub record IsSourceOfTyped (number size : ℕ) : Type 0 where
  pub term : Term
  pub source : IsSource (program_text number size) term
  pub typed : Types [] term (own unit) []
  pub short : length (program_text number size) ≤ 1048576

abbrev pub ProgramsAreSources : Type 0
ProgramsAreSources = (number size : ℕ) → 1 ≤ size → size ≤ 4000 → IsSourceOfTyped number size
