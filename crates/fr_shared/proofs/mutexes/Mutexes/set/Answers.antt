use Rattle.std.proofs.Common.{ℕ, ◌≡◌, false, is_some, Option, Some, sym, ap, ◌∙◌, subst, nat_eq}
use Rattle.std.specs.Prelude.{IsSome}
use Rattle.indexmap.specs.IndexMap.{get}
use Rattle.fr_plain.specs.MachineThreads.{with_mutex, mutex_there}
use Rattle.fr_shared.specs.declared.mutexes.Shared.{Shared}
use Rattle.fr_shared.specs.MutexRoom.{MutexRoom}
use Rattle.fr_shared.specs.MutexInside.{there_of, living_at}
use Rattle.fr_shared.proofs.MutexParts.{set_there, lives_of}
use Rattle.fr_shared.proofs.mutexes.Mutexes.set.Goals as goal

pub unreachable-requires : goal.unreachable-requires
unreachable-requires c =
    let m = c.self.inside in
    let n = c.args.mutex in
    let lives = subst (λ (v : MutexRoom). IsSome (mutex_there v.mutexes n)) (sym c.self.view_is) c.requires.lives in
    let there = lives_of (living_at m) m.places.numbers n c.key.ensures.small c.self.invariant.named lives in
    let none = c.in-None.ensures.value ∙ ap (get nat_eq m.living) (c.number.ensures.number ∙ c.key.ensures.number) in
    let no = subst (λ (o : Option Shared). IsSome o) (sym none) there in
    cc

pub returns-clause-mutexes : goal.returns-clause-mutexes
returns-clause-mutexes c =
    let m = c.self.inside in
    let n = c.args.mutex in
    let new = c.get_mut.follows.lender c.args.there in
    let updates = (c.get_mut.follows.holds c.args.there).3 (ap is_some (sym c.in-Some.ensures.value)) in
    let key = c.number.ensures.number ∙ c.key.ensures.number in
    set_there (living_at m) (λ k. get nat_eq new k) m.places.numbers n (Some c.args.there) c.key.ensures.small c.self.invariant.apart (ap (get nat_eq new) (sym key) ∙ updates.1)
    (subst (λ k. (q : ℕ) → nat_eq k q ≡ false → get nat_eq new q ≡ get nat_eq m.living q) key updates.2) ∙ ap (λ (v : MutexRoom). with_mutex v.mutexes n (there_of (Some c.args.there))) c.self.view_is
