use Rattle.std.proofs.Common.{◌≡◌, drop}
use Rattle.fr_base.specs.Lists.{is_in}
use Rattle.server_parts.proofs.uses.is_in.Given as goal

abbrev pub invariant-words : goal.invariant-words
invariant-words l = record { rest : is_in l.word (drop l.used-index l.words) ≡ is_in l.word l.words }
