use Rattle.std.proofs.Common.{ℕ, ◌≡◌, ◌<◌, ◌++◌, ◌∷◌, [], false, Some, sym, ap, ◌∙◌, subst, arith, nat_eq}
use Rattle.indexmap.specs.IndexMap.{get}
use Rattle.fr_plain.specs.MachineThreads.{Mutex, mutex_at}
use Rattle.fr_shared.specs.MutexRoom.{MutexRoom}
use Rattle.fr_shared.specs.Places.{place_of}
use Rattle.fr_shared.specs.MutexInside.{living_at, mutexes_of, AreApart}
use Rattle.fr_shared.proofs.MutexParts.{new_name, mutexes_push, apart_push, push_named}
use Rattle.fr_shared.proofs.mutexes.Mutexes.add.Goals as goal

pub add-requires-clause-new : goal.add-requires-clause-new
add-requires-clause-new c =
    let m = c.self.inside in
    let n = c.args.mutex in
    let none = ap (λ (v : MutexRoom). mutex_at v.mutexes n) c.self.view_is ∙ c.requires.new in
    ap (place_of m.places.numbers) c.key-name.ensures.number ∙ new_name (living_at m) m.places.numbers n c.key-name.ensures.small none

pub invariant_of-self : goal.invariant_of-self
invariant_of-self c =
    let m = c.self.inside in
    let n = c.args.mutex in
    let ns = m.places.numbers in
    let k = c.key-name.result in
    let none = ap (λ (v : MutexRoom). mutex_at v.mutexes n) c.self.view_is ∙ c.requires.new in
    let new = ap (place_of ns) c.key-name.ensures.number ∙ new_name (living_at m) ns n c.key-name.ensures.small none in
    let others = subst (λ k. (q : ℕ) → nat_eq k q ≡ false → get nat_eq c.insert.new.self q ≡ get nat_eq m.living q) c.number.ensures.number c.in-Ok.ensures.updates.2 in
    let room : 0 < m.spare = subst (λ (v : MutexRoom). 0 < v.spare) (sym c.self.view_is) c.requires.room in
    record {
      apart = subst AreApart (sym c.add.ensures.numbers) (apart_push ns k c.self.invariant.apart new);
      named = λ q h. push_named (living_at m) (λ k. get nat_eq c.insert.new.self k) ns k others c.self.invariant.named q (ap (λ l. place_of l q) (sym c.add.ensures.numbers) ∙ h);
      place_room = omega (arith, c.add.ensures.spare, c.self.invariant.place_room, room);
      living_room = omega (arith, c.insert.ensures.spare, c.self.invariant.living_room, room);
    }

pub returns : goal.returns
returns c =
    let m = c.self.inside in
    let n = c.args.mutex in
    let ns = m.places.numbers in
    let new = c.insert.new.self in
    let none = ap (λ (v : MutexRoom). mutex_at v.mutexes n) c.self.view_is ∙ c.requires.new in
    let key = c.number.ensures.number ∙ c.key-name.ensures.number in
    let updates = c.in-Ok.ensures.updates in
    let others = subst (λ k. (q : ℕ) → nat_eq k q ≡ false → get nat_eq new q ≡ get nat_eq m.living q) key updates.2 in
    let x : Mutex = record { number = n; there = Some (record { content = Some c.args.content; shares = 1 }) } in
    record {
      mutexes =
          ap (mutexes_of (λ k. get nat_eq new k)) (c.add.ensures.numbers ∙ ap (λ k. ns ++ k ∷ []) c.key-name.ensures.number)
          ∙ mutexes_push (living_at m) (λ k. get nat_eq new k) ns n _ c.key-name.ensures.small (new_name (living_at m) ns n c.key-name.ensures.small none) (ap (get nat_eq new) (sym key) ∙ updates.1) others
          ∙ ap (λ (v : MutexRoom). v.mutexes ++ x ∷ []) c.self.view_is;
    }
