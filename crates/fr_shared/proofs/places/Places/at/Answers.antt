use Rattle.std.proofs.Common.{◌∙◌, ap, nat_eq}
use Rattle.std.specs.List.{position}
use Rattle.fr_shared.specs.Places.{place_of, Numbers}
use Rattle.fr_shared.proofs.PlaceLemmas.{position_place}
use Rattle.fr_shared.proofs.places.Places.at.Goals as goal

pub returns-clause-place : goal.returns-clause-place
returns-clause-place c =
    let view = ap (λ (n : Numbers). n.numbers) c.self.view_is in
    c.get_index_of.ensures.index ∙ ap (λ n. position (nat_eq n) c.self.inside.numbers.keys) c.number-number.ensures.number ∙ position_place c.self.inside.numbers.keys c.args.thread
    ∙ ap (λ ns. place_of ns c.args.thread) view
