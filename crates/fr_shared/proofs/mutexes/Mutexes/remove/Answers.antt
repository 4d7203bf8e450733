use Rattle.std.proofs.Common.{ℕ, ◌≡◌, false, None, sym, ap, ◌∙◌, subst, nat_eq}
use Rattle.indexmap.specs.IndexMap.{get}
use Rattle.fr_plain.specs.MachineThreads.{with_mutex}
use Rattle.fr_shared.specs.MutexRoom.{MutexRoom}
use Rattle.fr_shared.specs.MutexInside.{living_at}
use Rattle.fr_shared.proofs.MutexParts.{set_there}
use Rattle.fr_shared.proofs.mutexes.Mutexes.remove.Goals as goal

pub returns-clause-mutexes : goal.returns-clause-mutexes
returns-clause-mutexes c =
    let m = c.self.inside in
    let n = c.args.mutex in
    let updates = c.swap_remove.ensures.updates in
    let key = c.number.ensures.number ∙ c.key.ensures.number in
    set_there (living_at m) (λ k. get nat_eq c.swap_remove.new.self k) m.places.numbers n None c.key.ensures.small c.self.invariant.apart (ap (get nat_eq c.swap_remove.new.self) (sym key) ∙ updates.1)
    (subst (λ k. (q : ℕ) → nat_eq k q ≡ false → get nat_eq c.swap_remove.new.self q ≡ get nat_eq m.living q) key updates.2) ∙ ap (λ (v : MutexRoom). with_mutex v.mutexes n None) c.self.view_is
