use Rattle.std.proofs.Common.{length, sym, ap, ◌∙◌}
use Rattle.fr_shared.specs.MutexRoom.{MutexRoom}
use Rattle.fr_shared.specs.MutexInside.{living_at}
use Rattle.fr_shared.proofs.MutexParts.{length_mutexes}
use Rattle.fr_shared.proofs.mutexes.Mutexes.len.Goals as goal

pub returns-clause-names : goal.returns-clause-names
returns-clause-names c = c.len.ensures.numbers ∙ sym (length_mutexes (living_at c.self.inside) c.self.inside.places.numbers) ∙ ap (λ (v : MutexRoom). length v.mutexes) c.self.view_is
