-- THE ONE LAW OF ALL ACTS (Featherweight Rust's preservation and progress, with this project's threads, mutexes and views), for every machine whose
-- places are known: of code and of running terms alike.
use Rattle.std.specs.Prelude.{◌≡◌, ℕ, List, [], length, Option, Some, None}
use Rattle.fr_base.specs.declared.step.Fresh.{Fresh}
use Rattle.fr_plain.specs.declared.value.Value.{Value}
use Rattle.fr_plain.specs.Alike.{value_of}
use Rattle.fr_plain.specs.MachineThreads.{going, Move, Moves, Life, Thread, Whole, life_move, thread_at}
use Rattle.fr_plain.specs.Machine.{Stepped, refused, step}
use Rattle.fr_plain.specs.PlainState.{PlainState, plain_state}
use Rattle.fr_plain.specs.Run.{Run, terms}
use Rattle.fr_sound.specs.Entries.{Entry}
use Rattle.fr_store.specs.Typed.{KeyTypes}
use Rattle.fr_sound.specs.States.{Typing, StateTypes}
use Rattle.fr_code.specs.Joins.{JoinsTo}
use Rattle.law_plain_values.specs.acts.ActRows.{Leaves, left_after, ActRow, EndsAs}
use Rattle.law_plain_values.specs.acts.Keeps.{KeepsNames, on_references, KeepsReferences}

-- mutable references have the exact types that they had, as the act of the thread's move takes them
pub record ReferencesKept {P : Type 0} (ms : Moves P) (s : Whole P) (t : ℕ) (before after : KeyTypes) : Type 0 where
  pub thread : Thread P
  pub found : thread_at s.threads t ≡ Some thread
  pub move : Move P (Life P)
  pub makes : life_move ms thread.life ≡ Some move
  pub refs : KeepsReferences (on_references move.act) t (length thread.slots) before after

-- what is known at each place, if anything is, and its temporary values, the last one first
module _ {P : Type 0} (entry_of : P → Option Entry) (temps : P → List Value) where
  abbrev pub KnownBy : P → Entry → Type 0
  KnownBy p x = entry_of p ≡ Some x

  abbrev pub MachineTypes : Typing → PlainState P → Type 0
  MachineTypes y a = StateTypes KnownBy temps y a

  -- these temporary values are left there, and what a row gives joins to what is known there
  pub record Comes (p : P) (after : Entry) (vs : List Value) : Type 0 where
    pub left : temps p ≡ vs
    pub entry : Entry
    pub known : entry_of p ≡ Some entry
    pub joins : JoinsTo after entry

  module _ (ms : Moves P) where
    -- a new thread starts there, where this is known, without a temporary value
    abbrev pub StartsBy : P → Entry → Type 0
    StartsBy p x = (entry_of (ms.settle p) ≡ Some x) × (temps (ms.settle p) ≡ [])

    -- from a place where this is known a row of the typing grants the next act, and the thread comes to what the row gives; or it is at its end
    pub data GoesBy (p : P) (x : Entry) : Type 0 where
      moves_by_row : (m : Move P P) (leaves : Leaves) (after : Entry) → ms.now p ≡ going → ms.move p ≡ Some m → ActRow StartsBy x (temps p) m.act leaves after → ((v : Value) → Comes (ms.settle (m.plug v)) after (left_after leaves v)) → GoesBy p x
      ends_typed : (v : Value) → value_of (ms.now p) ≡ Some v → EndsAs x (temps p) v → GoesBy p x

    -- so it is at each place where something is known
    abbrev pub PlacesGo : Type 0
    PlacesGo = (p : P) (x : Entry) → entry_of p ≡ Some x → length (temps p) ≡ length x.temps → GoesBy p x

    -- the step can be done, and leaves a typed state, in which names that were given have the types that they had, and mutable references their exact types
    pub record StepsOn (before : Typing) (s : Whole P) (t : ℕ) (names : Fresh) : Type 0 where
      pub next : Stepped P
      pub is : step ms s t names ≡ Some next
      pub typing : Typing
      pub typed : MachineTypes typing (plain_state next.state)
      pub kept : KeepsNames (plain_state s) before.gives typing.gives
      pub refs : ReferencesKept ms s t before.exact typing.exact

    -- THE LAW: in a typed state each step that isn't refused can be done, and leaves a typed state
    abbrev pub KeepsAllTyped : Type 0
    KeepsAllTyped = PlacesGo → (y : Typing) (s : Whole P) → MachineTypes y (plain_state s) → (t : ℕ) (names : Fresh) → refused ms s t names ≡ None → StepsOn y s t names

-- of running terms, whatever is known of them
abbrev pub TermsKeepTypes : Type 0
TermsKeepTypes = (entry_of : Run → Option Entry) (temps : Run → List Value) → KeepsAllTyped entry_of temps terms
