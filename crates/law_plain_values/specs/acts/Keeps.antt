-- A PLAIN STEP KEEPS A STATE TYPED (Featherweight Rust's preservation and progress, with this project's threads, mutexes and views), act by act.
use Rattle.std.specs.Prelude.{◌≡◌, ◌≢◌, ◌⊎◌, ℕ, true, false, length, Option, Some, None}
use Rattle.fr_base.specs.declared.name.MutexNo.{MutexNo}
use Rattle.fr_base.specs.declared.place.Op.{Op}
use Rattle.fr_base.specs.declared.place.Lval.{Lval}
use Rattle.fr_base.specs.declared.step.Fresh.{Fresh}
use Rattle.fr_base.specs.declared.step.Fresh.TheVariants as fresh
use Rattle.fr_plain.specs.declared.value.Value.{Value}
use Rattle.fr_plain.specs.MachineActs.{Act, do_let, do_borrow, do_print, do_arith, do_read, do_assign}
use Rattle.fr_store.specs.Keys.{Key, slot_k, temp_k}
use Rattle.fr_store.specs.Store.{Place}
use Rattle.fr_store.specs.Typed.{refers, KeyTypes}
use Rattle.fr_store.specs.Thread.{place_of}
use Rattle.fr_plain.specs.MachineThreads.{Now, Move, Moves, Life, alive, owing, loose, Thread, Whole, thread_at}
use Rattle.fr_plain.specs.Machine.{Stepped, act_waits, takes_of, refused_names, done_act}
use Rattle.fr_plain.specs.PlainState.{Running, PlainState, plain_state}
use Rattle.fr_sound.specs.Entries.{Entry}
use Rattle.fr_sound.specs.Seen.{Gives}
use Rattle.fr_sound.specs.States.{Typing}
use Rattle.law_plain_values.specs.acts.Positions.{Position, PositionTypes, moves_by, StartsAs}
use Rattle.law_plain_values.specs.acts.ActRows.{Leaves, left_after, ActRow}

-- a thread that goes on at this position: main, one whose task somebody has, or one that was let go
pub data GoesOn : (Position → Life Position) → Type 0 where
  is_main : GoesOn alive
  is_owed : GoesOn owing
  is_loose : GoesOn loose

-- in a typed state the thread goes on at the position, where a row of the typing grants the act; it comes to the position that the row gives
pub record Ready (y : Typing) (s : Whole Position) (t : Thread Position) (p : Position) (wrap : Position → Life Position) (act : Act Position) (plug : Value → Position) : Type 0 where
  pub state : PositionTypes y (plain_state s)
  pub found : thread_at s.threads t.number ≡ Some t
  pub goes_on : GoesOn wrap
  pub at : t.life ≡ wrap p
  pub leaves : Leaves
  pub after : Entry
  pub row : ActRow StartsAs p.entry p.temps act leaves after
  pub comes : (v : Value) → plug v ≡ record { entry = after; temps = left_after leaves v }

-- each mutex whose name was given has the type that it had, and so has the result of each thread that was started
pub record KeepsNames {P : Type 0} (a : PlainState P) (before after : Gives) : Type 0 where
  pub mutexes : (m : MutexNo) → a.is_given m ≡ true → after.mutex m ≡ before.mutex m
  pub results : (t : ℕ) (l : Life (Running P)) → a.thread t ≡ Some l → after.result t ≡ before.result t

-- what an act does with mutable references: a value goes to a new slot, a variable's goes to hand, a place is lent, a value goes to a place; and the others
-- leave them where they are
pub data OnReferences : Type 0 where
  rests : OnReferences
  binds : OnReferences
  takes : Lval → OnReferences
  lends : Lval → OnReferences
  puts : Lval → OnReferences

abbrev pub on_references : {P : Type 0} → Act P → OnReferences
on_references (do_let v) = binds
on_references (do_read w true) = takes w
on_references (do_borrow w true) = lends w
on_references (do_assign w v) = puts w
on_references act = rests

-- a mutable reference that has this exact type at the key had it there before, where the act puts no other value; or it came from where the act took it; or it is
-- the place that the act lends. The thread has so many slots before
abbrev pub CameFrom : OnReferences → ℕ → ℕ → KeyTypes → Key → Place → Type 0
CameFrom rests t slots E k u = E k ≡ refers true u
CameFrom binds t slots E k u = (E k ≡ refers true u) ⊎ ((k ≡ slot_k t slots) × ((h : ℕ) × (E (temp_k t h) ≡ refers true u)))
CameFrom (takes w) t slots E k u = (E k ≡ refers true u) ⊎ ((i : ℕ) × (k ≡ temp_k t i) × (E (slot_k t w.slot) ≡ refers true u))
CameFrom (lends w) t slots E k u = (E k ≡ refers true u) ⊎ ((i : ℕ) × (k ≡ temp_k t i) × (u ≡ place_of (slot_k t) w))
CameFrom (puts w) t slots E k u = ((E k ≡ refers true u) × (w.depth ≡ 0 → k ≢ slot_k t w.slot)) ⊎ ((k ≡ slot_k t w.slot) × ((h : ℕ) × (E (temp_k t h) ≡ refers true u)))

-- so it is with each mutable reference
abbrev pub KeepsReferences : OnReferences → ℕ → ℕ → KeyTypes → KeyTypes → Type 0
KeepsReferences on t slots before after = (k : Key) (u : Place) → after k ≡ refers true u → CameFrom on t slots before k u

-- the act can be done under these names, and the state is typed again; names that were given keep the types that they had, and mutable references their exact types
pub record StepsTyped (before : Typing) (ms : Moves Position) (s : Whole Position) (t : Thread Position) (names : Fresh) (m : Move Position (Life Position)) : Type 0 where
  pub next : Stepped Position
  pub is : done_act ms s t names m m.act ≡ Some next
  pub typing : Typing
  pub typed : PositionTypes typing (plain_state next.state)
  pub kept : KeepsNames (plain_state s) before.gives typing.gives
  pub refs : KeepsReferences (on_references m.act) t.number (length t.slots) before.exact typing.exact

-- an act of this form, granted in a typed state, can be done without a new name and leaves a typed state
abbrev pub Keeps : (Act Position → Type 0) → Type 0
Keeps Is = (now : Position → Now) (move : Position → Option (Move Position Position)) (y : Typing) (s : Whole Position) (t : Thread Position) (p : Position) (wrap : Position → Life Position) (act : Act Position) (plug : Value → Position)
    → Is act → Ready y s t p wrap act plug → StepsTyped y (moves_by now move) s t fresh.None (record { act = act; plug = λ v. wrap (plug v) })

-- an act of this form, granted in a typed state, can be done without a new name and leaves a typed state, unless it waits
abbrev pub KeepsUnlessWaiting : (Act Position → Type 0) → Type 0
KeepsUnlessWaiting Is = (now : Position → Now) (move : Position → Option (Move Position Position)) (y : Typing) (s : Whole Position) (t : Thread Position) (p : Position) (wrap : Position → Life Position) (act : Act Position) (plug : Value → Position)
    → Is act → act_waits s t act ≡ None → Ready y s t p wrap act plug → StepsTyped y (moves_by now move) s t fresh.None (record { act = act; plug = λ v. wrap (plug v) })

-- an act of this form, granted in a typed state, can be done under each name of the kind that it takes that isn't in use, and leaves a typed state
abbrev pub KeepsNamed : (Act Position → Type 0) → Type 0
KeepsNamed Is = (now : Position → Now) (move : Position → Option (Move Position Position)) (y : Typing) (s : Whole Position) (t : Thread Position) (p : Position) (wrap : Position → Life Position) (act : Act Position) (plug : Value → Position) (names : Fresh)
    → Is act → refused_names s (takes_of act) names ≡ None → Ready y s t p wrap act plug → StepsTyped y (moves_by now move) s t names (record { act = act; plug = λ v. wrap (plug v) })

abbrev pub IsPrint : Act Position → Type 0
IsPrint a = (v : Value) × (a ≡ do_print v)

abbrev pub IsArith : Act Position → Type 0
IsArith a = (f : Op) × (v : Value) × (w : Value) × (a ≡ do_arith f v w)

-- shared and mutable borrows
abbrev pub IsBorrow : Act Position → Type 0
IsBorrow a = (w : Lval) × (a ≡ do_borrow w false)

abbrev pub IsBorrowMut : Act Position → Type 0
IsBorrowMut a = (w : Lval) × (a ≡ do_borrow w true)

-- a read that copies
abbrev pub IsCopy : Act Position → Type 0
IsCopy a = (w : Lval) × (a ≡ do_read w false)

-- `let`
abbrev pub IsLet : Act Position → Type 0
IsLet a = (v : Value) × (a ≡ do_let v)
