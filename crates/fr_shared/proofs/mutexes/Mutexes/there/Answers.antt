use Rattle.std.proofs.Common.{sym, ap, ◌∙◌, nat_eq}
use Rattle.indexmap.specs.IndexMap.{get}
use Rattle.fr_plain.specs.MachineThreads.{mutex_there}
use Rattle.fr_shared.specs.MutexRoom.{MutexRoom}
use Rattle.fr_shared.specs.MutexInside.{there_of, living_at}
use Rattle.fr_shared.proofs.MutexParts.{there_is}
use Rattle.fr_shared.proofs.mutexes.Mutexes.there.Goals as goal

pub returns-in-Some : goal.returns-in-Some
returns-in-Some c =
    let m = c.self.inside in
    let n = c.args.mutex in
    ap there_of (c.in-Some.ensures.value ∙ ap (get nat_eq m.living) (c.number.ensures.number ∙ c.key.ensures.number)) ∙ sym (there_is (living_at m) m.places.numbers n c.key.ensures.small c.self.invariant.named)
    ∙ ap (λ (v : MutexRoom). mutex_there v.mutexes n) c.self.view_is

pub returns-in-None : goal.returns-in-None
returns-in-None c =
    let m = c.self.inside in
    let n = c.args.mutex in
    ap there_of (c.in-None.ensures.value ∙ ap (get nat_eq m.living) (c.number.ensures.number ∙ c.key.ensures.number)) ∙ sym (there_is (living_at m) m.places.numbers n c.key.ensures.small c.self.invariant.named)
    ∙ ap (λ (v : MutexRoom). mutex_there v.mutexes n) c.self.view_is
