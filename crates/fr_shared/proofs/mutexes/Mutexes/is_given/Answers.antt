use Rattle.std.proofs.Common.{ℕ, Option, is_some, ap, ◌∙◌}
use Rattle.fr_plain.specs.MachineThreads.{mutex_at}
use Rattle.fr_shared.specs.MutexRoom.{MutexRoom}
use Rattle.fr_shared.specs.Places.{place_of}
use Rattle.fr_shared.specs.MutexInside.{living_at}
use Rattle.fr_shared.proofs.MutexParts.{given_as}
use Rattle.fr_shared.proofs.mutexes.Mutexes.is_given.Goals as goal

pub returns : goal.returns
returns c =
    let m = c.self.inside in
    let n = c.args.mutex in
    c.is_some.ensures ∙ ap (λ (o : Option ℕ). is_some o) (c.at.ensures.place ∙ ap (place_of m.places.numbers) c.key.ensures.number) ∙ given_as (living_at m) m.places.numbers n c.key.ensures.small
    ∙ ap (λ (v : MutexRoom). is_some (mutex_at v.mutexes n)) c.self.view_is
