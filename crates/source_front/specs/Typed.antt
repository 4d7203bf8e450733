-- The sources that have a run: those of typed programs.
use Rattle.std.specs.Prelude.{ℕ, List, []}
use Rattle.fr_terms.specs.Terms.{Term}
use Rattle.fr_typing.specs.Kinds.{Kind}
use Rattle.fr_typing.specs.Places.{Env}
use Rattle.fr_typing.specs.Typing.{Types}
use Rattle.fr_grammar.specs.Source.{IsSource}

-- the most bytes that an input may have
abbrev pub limit : ℕ
limit = 1048576

-- the bytes are the source of this program, and typing types it
pub record IsTyped (bytes : List ℕ) (t : Term) : Type 0 where
  pub source : IsSource bytes t
  pub kind : Kind
  pub after : Env
  pub types : Types [] t kind after
