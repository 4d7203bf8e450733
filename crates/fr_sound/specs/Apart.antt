-- Threads of a typed state share no object (this project's rule). From this it follows that none writes what another one reads.
use Rattle.std.specs.Prelude.{◌≡◌, ◌≢◌, Some}
use Rattle.fr_plain.specs.Below.fr_base.declared.name.ObjNo.{ObjNo}
use Rattle.fr_plain.specs.Below.fr_base.declared.place.Lval.{Lval}
use Rattle.fr_plain.specs.State.{in_cell, Reached, locate}
use Rattle.fr_plain.specs.Threads.{Thread, Whole, thread_at}
use Rattle.fr_plain.specs.Whole.{state_of}
use Rattle.fr_sound.specs.Together.{AreTyped}

-- no place of one thread leads to an object to which a place of another one leads
abbrev pub ThreadsApart : Type 0
ThreadsApart = (s : Whole) → AreTyped s → (x y : Thread) → thread_at s.threads x.number ≡ Some x → thread_at s.threads y.number ≡ Some y → x.number ≢ y.number → (w v : Lval) (p q : Reached) (o : ObjNo) → locate (state_of s x) w ≡ Some p → p.spot ≡ in_cell o → locate (state_of s y) v ≡ Some q → q.spot ≡ in_cell o → ⊥
