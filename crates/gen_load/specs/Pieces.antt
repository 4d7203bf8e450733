-- Pieces of a program's text.
use Rattle.std.specs.Prelude.{ℕ, List}
use Rattle.fr_terms.specs.Terms.{Term}
use Rattle.fr_parse.specs.Canonical.{words, item_words, more_words}
use Rattle.fr_parse.specs.Written.{spaced}
use Rattle.gen_load.specs.Programs.{items}

-- terms as a block's items behind a first one, each token with a space behind it
abbrev pub more_text : List Term → List ℕ
more_text ts = spaced (more_words (items ts))

-- and with the first one
abbrev pub items_text : List Term → List ℕ
items_text ts = spaced (item_words (items ts))

abbrev pub term_text : Term → List ℕ
term_text t = spaced (words t)
