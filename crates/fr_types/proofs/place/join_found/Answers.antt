use Rattle.std.proofs.Common.{sym, ap, ◌∙◌}
use Rattle.fr_typing.specs.Places.{found_or_none}
use Rattle.fr_types.specs.Answers.{piece_in}
use Rattle.fr_types.proofs.place.join_found.Goals as goal

pub returns-in-Some : goal.returns-in-Some
returns-in-Some c = λ names. ap found_or_none (sym (c.in_ok-part.ensures names) ∙ ap piece_in c.in-Some.is)

pub returns-in-None : goal.returns-in-None
returns-in-None c = λ names. ap found_or_none (sym (c.in_ok-part.ensures names) ∙ ap piece_in c.in-None.is)
