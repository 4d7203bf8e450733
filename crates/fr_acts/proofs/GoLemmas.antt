-- What the plain machine's acts on mutexes need.
use Rattle.std.proofs.Common.{◌≡◌, List, [], ◌∷◌, Option, Some, None, refl}
use Rattle.std.specs.Prelude.{IsSome, is_some, if◌then◌else◌}
use Rattle.fr_base.specs.declared.label.Plain.{Plain}
use Rattle.fr_base.specs.declared.label.Label.{Label}
use Rattle.fr_base.specs.declared.name.MutexNo.{MutexNo}
use Rattle.fr_base.specs.declared.step.Fresh.TheVariants as fresh
use Rattle.fr_plain.specs.declared.value.Value.{Value}
use Rattle.fr_plain.specs.declared.value.Value.TheVariants.{Own, ToSlot, ToObject, Held}
use Rattle.fr_plain.specs.State.{cell_of}
use Rattle.fr_plain.specs.MachineThreads.{Mutex, Shared, mutex_at, mutex_there}
use Rattle.fr_plain.specs.Machine.{mutex_behind, at_mutex, where_there, locked, locked_with, shared, unlocked, made}
use Rattle.fr_plain.specs.Run.{Move, Life, terms}
use Rattle.fr_plain.specs.Threads.{Thread, Whole, state_of}
use Rattle.fr_plain.specs.Whole.{Stepped}
use Rattle.fr_shared.specs.Shares.{content_in}
use Rattle.fr_acts.specs.Behind.{there_behind, content_behind}
use Rattle.fr_acts.specs.MutexActs.{IsLocked, ActsGo}

module _ (s : Whole) (t : Thread) (m : Move Life) where
  there_by : (o : Option (MutexNo × List Label)) → IsSome (at_mutex terms s o (shared terms s t m)) → IsSome (there_behind s.mutexes o)
  there_by None h = h
  there_by (Some p) h = by (mutex_there s.mutexes p.0) h
    where
      by : (x : Option Shared) → IsSome (where_there terms x (shared terms s t m p.0 p.1)) → IsSome x
      by None g = g
      by (Some x) g = refl

  content_by : (o : Option (MutexNo × List Label)) → IsSome (at_mutex terms s o (locked terms s t m)) → IsSome (content_behind s.mutexes o)
  content_by None h = h
  content_by (Some p) h = by (mutex_there s.mutexes p.0) h
    where
      in_it : (x : Shared) (c : Option Plain) → IsSome (locked_with terms s t m p.0 p.1 x c) → IsSome c
      in_it x None g = g
      in_it x (Some v) g = refl

      by : (x : Option Shared) → IsSome (where_there terms x (locked terms s t m p.0 p.1)) → IsSome (content_in x)
      by None g = g
      by (Some x) g = in_it x x.content g

  locked_by : (vs : List Value) → IsSome (unlocked terms s t m vs) → IsLocked vs
  locked_by [] h = absurd cc
  locked_by (v ∷ []) h = by v h
    where
      by : (v : Value) → IsSome (unlocked terms s t m (v ∷ [])) → IsLocked (v ∷ [])
      by (Own p) g = absurd cc
      by (ToSlot i) g = absurd cc
      by (ToObject o) g = absurd cc
      by (Held n) g = absurd cc
  locked_by (v ∷ w ∷ vs) h = by v w h
    where
      by : (v w : Value) → IsSome (unlocked terms s t m (v ∷ w ∷ vs)) → IsLocked (v ∷ w ∷ vs)
      by (Own p) (Held n) g = tt
      by (Own p) (Own q) g = absurd cc
      by (Own p) (ToSlot i) g = absurd cc
      by (Own p) (ToObject o) g = absurd cc
      by (ToSlot i) w g = absurd cc
      by (ToObject o) w g = absurd cc
      by (Held n) w g = absurd cc

  made_by : (n : MutexNo) (v : Value) → IsSome (made terms s t m (fresh.Mutex n) v) → IsSome (cell_of v) × (mutex_at s.mutexes n ≡ None)
  made_by n (Own v) h = (refl, new (mutex_at s.mutexes n) _ h)
    where
      new : (o : Option Mutex) (x : Stepped) → IsSome (if is_some o then None else Some x) → o ≡ None
      new None x g = refl
      new (Some y) x g = absurd cc
  made_by n (ToSlot i) h = absurd cc
  made_by n (ToObject o) h = absurd cc
  made_by n (Held k) h = absurd cc

pub acts_go : ActsGo
acts_go = record {
  made = λ s t m n v h. made_by s t m n v h;
  dup = λ s t m w h. there_by s t m (mutex_behind (state_of s t) w) h;
  lock = λ s t m w h. content_by s t m (mutex_behind (state_of s t) w) h;
  unlock = λ s t m h. locked_by s t m t.slots h;
}
