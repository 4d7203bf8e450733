use Rattle.std.proofs.Common.{◌∙◌, ap, nat_eq}
use Rattle.std.specs.Prelude.{◌++◌, ◌∷◌, []}
use Rattle.indexmap.specs.IndexSet.{insert_key}
use Rattle.fr_shared.specs.Places.{place_of, Numbers}
use Rattle.fr_shared.proofs.PlaceLemmas.{new_last}
use Rattle.fr_shared.proofs.places.Places.add.Goals as goal

pub returns-clause-numbers : goal.returns-clause-numbers
returns-clause-numbers c =
    let view = ap (λ (n : Numbers). n.numbers) c.self.view_is in
    let none = ap (λ ns. place_of ns c.args.thread) view ∙ c.requires.new in
    c.in-Ok.ensures.keys ∙ ap (insert_key nat_eq c.self.inside.numbers.keys) c.number.ensures.number ∙ new_last c.self.inside.numbers.keys c.args.thread none
    ∙ ap (λ ns. ns ++ c.args.thread ∷ []) view
