-- Acts that a thread does alone: they take no names, and never wait.
use Rattle.std.proofs.Common.{◌≡◌, Option, Some, None, refl}
use Rattle.std.specs.Prelude.{⊤, IsSome, if◌then◌else◌}
use Rattle.fr_base.specs.declared.step.Fresh.{Fresh}
use Rattle.fr_base.specs.declared.step.Fresh.TheVariants as fresh
use Rattle.fr_plain.specs.Acts.{Act, do_let, do_read, do_borrow, do_assign, do_box, do_arith, do_print, do_discard, do_drop, do_end, do_spawn, do_join, do_finish, do_leave, do_mutex, do_dup, do_lock, do_unlock, do_par, do_par_end}
use Rattle.fr_plain.specs.Run.{Move, next, Life}
use Rattle.fr_plain.specs.Threads.{act_waits, move_waits}
use Rattle.fr_plain.specs.Whole.{Thread, Whole, Stepped, alone_stepped, done_act, is_nameless, no_name, takes_of, takes_name}

abbrev pub IsOwn : Act → Type 0
IsOwn (do_spawn cs r) = ⊥
IsOwn (do_join v) = ⊥
IsOwn (do_mutex v) = ⊥
IsOwn (do_dup w) = ⊥
IsOwn (do_lock w) = ⊥
IsOwn do_unlock = ⊥
IsOwn (do_par cs r ds q) = ⊥
IsOwn do_par_end = ⊥
IsOwn _ = ⊤

module _ {P : Type 0} where
  -- a move has such an act
  abbrev pub Owns : Option (Move P) → Type 0
  Owns None = ⊤
  Owns (Some m) = IsOwn m.act

-- a move inside a move
pub next_owns : {P Q : Type 0} (f : P → Q) (o : Option (Move P)) → Owns o → Owns (next f o)
next_owns f None h = tt
next_owns f (Some m) h = h

-- such an act is done so
pub own_named : (s : Whole) (t : Thread) (names : Fresh) (m : Move Life) (a : Act) → IsOwn a → done_act s t names m a ≡ (if is_nameless names then alone_stepped s t m a else None)
own_named s t names m (do_let v) h = refl
own_named s t names m (do_read w take) h = refl
own_named s t names m (do_borrow w is_mut) h = refl
own_named s t names m (do_assign w v) h = refl
own_named s t names m (do_box v) h = refl
own_named s t names m (do_arith f a b) h = refl
own_named s t names m (do_print v) h = refl
own_named s t names m (do_discard v) h = refl
own_named s t names m do_drop h = refl
own_named s t names m (do_end v) h = refl
own_named s t names m (do_finish v) h = refl
own_named s t names m (do_leave v) h = refl
own_named s t names m (do_spawn cs r) h = absurd h
own_named s t names m (do_join v) h = absurd h
own_named s t names m (do_mutex v) h = absurd h
own_named s t names m (do_dup w) h = absurd h
own_named s t names m (do_lock w) h = absurd h
own_named s t names m do_unlock h = absurd h
own_named s t names m (do_par cs r ds q) h = absurd h
own_named s t names m do_par_end h = absurd h

pub own_done : (s : Whole) (t : Thread) (m : Move Life) (a : Act) → IsOwn a → done_act s t fresh.None m a ≡ alone_stepped s t m a
own_done s t m a h = own_named s t fresh.None m a h

-- what is done without names alone
pub nameless : (names : Fresh) (o : Option Stepped) → IsSome (if is_nameless names then o else None) → (names ≡ fresh.None) × IsSome o
nameless fresh.None o h = (refl, h)
nameless (fresh.Thread u) o h = absurd cc
nameless (fresh.Threads u w) o h = absurd cc
nameless (fresh.Mutex m) o h = absurd cc

-- such an act neither waits nor takes a name
act_free : (s : Whole) (t : Thread) (a : Act) → IsOwn a → (act_waits s t a ≡ None) × (takes_of a ≡ no_name)
act_free s t (do_let v) h = (refl, refl)
act_free s t (do_read w take) h = (refl, refl)
act_free s t (do_borrow w is_mut) h = (refl, refl)
act_free s t (do_assign w v) h = (refl, refl)
act_free s t (do_box v) h = (refl, refl)
act_free s t (do_arith f a b) h = (refl, refl)
act_free s t (do_print v) h = (refl, refl)
act_free s t (do_discard v) h = (refl, refl)
act_free s t do_drop h = (refl, refl)
act_free s t (do_end v) h = (refl, refl)
act_free s t (do_finish v) h = (refl, refl)
act_free s t (do_leave v) h = (refl, refl)
act_free s t (do_spawn cs r) h = absurd h
act_free s t (do_join v) h = absurd h
act_free s t (do_mutex v) h = absurd h
act_free s t (do_dup w) h = absurd h
act_free s t (do_lock w) h = absurd h
act_free s t do_unlock h = absurd h
act_free s t (do_par cs r ds q) h = absurd h
act_free s t do_par_end h = absurd h

-- such a move neither
pub move_free : (s : Whole) (t : Thread) (o : Option (Move Life)) → Owns o → (move_waits s t o ≡ None) × (takes_name o ≡ no_name)
move_free s t None h = (refl, refl)
move_free s t (Some m) h = act_free s t m.act h
