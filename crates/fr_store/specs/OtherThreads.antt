-- Several threads over one store (this project's rules): new ones, what they capture and see, and that a step of one
-- leaves the others as they were.
use Rattle.std.specs.Prelude.{◌≡◌, ◌≢◌, ◌⊎◌, ℕ, ◌<◌, Bool, true, false, List, [], ◌∷◌, length, Option, None}
use Rattle.fr_terms.specs.Terms.{Text}
use Rattle.fr_typing.specs.Kinds.{Owned, Kind, whole, gone, own, view}
use Rattle.fr_typing.specs.Places.{Slot, type_at, found, write_blocked, put_at}
use Rattle.fr_store.specs.Keys.{Key}
use Rattle.fr_store.specs.Store.{at_key, Store, Place, put_value, swap}
use Rattle.fr_store.specs.Typed.{hole, owns, refers, KeyTypes, Resolves, Typed, Unnamed, Unlent}
use Rattle.fr_store.specs.Below.{tree_of, ExactOf}
use Rattle.fr_store.specs.Rows.{with_type}
use Rattle.fr_store.specs.Thread.{ThreadKeys, OwnOrForeign, ThreadTyped, Asleep, After}

-- a new thread, whose keys are free and named by nobody
abbrev pub NewThreadRow : Type 0
NewThreadRow = (key : ℕ → Key) (rank : Key → ℕ) (hand : Key) (E : KeyTypes) (s : Store)
    → Typed rank E s
    → ((i : ℕ) → E (key i) ≡ owns hole)
    → ((i : ℕ) → Unnamed E (key i))
    → E hand ≡ owns hole
    → Unnamed E hand
    → ThreadTyped key rank hand [] E s None

-- spawn's capture of an owned variable x into the next slot of the new thread
abbrev pub CaptureRow : Type 0
CaptureRow = (key key2 : ℕ → Key) (rank : Key → ℕ) (hand hand2 : Key) (slots slots2 : List Slot) (E : KeyTypes) (s : Store) (x : ℕ) (name : Option Text) (o : Owned)
    → ThreadKeys key rank hand
    → ThreadKeys key2 rank hand2
    → ThreadTyped key rank hand slots E s None
    → ThreadTyped key2 rank hand2 slots2 E s None
    → ((i j : ℕ) → key i ≢ key2 j)
    → ((i : ℕ) → key i ≢ hand2)
    → ((i : ℕ) → key2 i ≢ hand)
    → rank (key2 (length slots2)) < rank hand2
    → x < length slots
    → type_at slots (record { slot = x; depth = 0 }) ≡ found (whole (own o))
    → write_blocked slots x ≡ false
    → (E2 : KeyTypes)
    × ThreadTyped key rank hand (put_at slots (record { slot = x; depth = 0 }) (gone (own o))) E2 (swap s (key2 (length slots2)) (at_key (key x))) None
    × ThreadTyped key2 rank hand2 (record { name = name; part = whole (own o) } ∷ slots2) E2 (swap s (key2 (length slots2)) (at_key (key x))) None

-- par's capture of a view: key c of the new thread refers to what the parent's shared reference or view in key k refers to
abbrev pub ViewRow : Type 0
ViewRow = (key2 : ℕ → Key) (rank : Key → ℕ) (E : KeyTypes) (s : Store) (k c : Key) (u : Place) (b : Key) (n : ℕ) (o : Owned)
    → Typed rank E s
    → Unnamed E c
    → E k ≡ refers false u
    → Resolves E false u.key u.depth b n (owns (tree_of o))
    → Unlent E k
    → k ≢ c
    → rank k < rank c
    → ((x : ℕ) → k ≢ key2 x)
    → (q : Place) × Typed rank (with_type E c (refers false q)) (put_value s (at_key c) (s.at k)) × ExactOf key2 (with_type E c (refers false q)) (whole (view o)) (refers false q)

-- another thread changes its own keys alone (`theirs`), and gives them no reference to this thread's keys
abbrev pub OtherRow : Type 0
OtherRow = (key : ℕ → Key) (rank : Key → ℕ) (hand : Key) (slots : List Slot) (E E2 : KeyTypes) (s s2 : Store) (temp : Option Kind) (theirs : Key → Bool)
    → ThreadTyped key rank hand slots E s temp
    → Typed rank E2 s2
    → ((j : Key) → theirs j ≡ false → E2 j ≡ E j)
    → ((i : ℕ) → theirs (key i) ≡ false)
    → theirs hand ≡ false
    → ((j : Key) (m : Bool) (u : Place) → theirs j ≡ true → E2 j ≡ refers m u → ((x : ℕ) → u.key ≢ key x) × (u.key ≢ hand))
    → ((j : Key) (m : Bool) (u : Place) → theirs j ≡ false → E j ≡ refers m u → theirs u.key ≡ false)
    → ThreadTyped key rank hand slots E2 s2 temp

-- the same where this thread waits for its branches
abbrev pub SleepRow : Type 0
SleepRow = (key : ℕ → Key) (rank : Key → ℕ) (hand : Key) (slots : List Slot) (E E2 : KeyTypes) (temp : Option Kind) (theirs : Key → Bool)
    → Asleep key rank hand slots E temp
    → ((j : Key) → theirs j ≡ false → E2 j ≡ E j)
    → ((i : ℕ) → theirs (key i) ≡ false)
    → theirs hand ≡ false
    → ((j : Key) (m : Bool) (u : Place) → theirs j ≡ true → E2 j ≡ refers m u → u.key ≢ hand)
    → ((j : Key) (m : Bool) (u : Place) → theirs j ≡ false → E j ≡ refers m u → theirs u.key ≡ false)
    → Asleep key rank hand slots E2 temp

-- a thread begins to wait for its branches; it goes on once they have ended and nobody else names its keys
abbrev pub WakeRow : Type 0
WakeRow = (key : ℕ → Key) (rank : Key → ℕ) (hand : Key) (slots : List Slot) (E : KeyTypes) (s : Store) (temp : Option Kind)
    → Typed rank E s
    → ((j : Key) (m : Bool) (u : Place) → E j ≡ refers m u → j ≢ hand → OwnOrForeign key slots j u)
    → (ThreadTyped key rank hand slots E s temp → Asleep key rank hand slots E temp) × (Asleep key rank hand slots E temp → ThreadTyped key rank hand slots E s temp)

-- `theirs` tells the keys of a thread
pub record IsKeys (theirs : Key → Bool) (key : ℕ → Key) (hand : Key) : Type 0 where
  pub yes : (j : Key) → theirs j ≡ true → (j ≡ hand) ⊎ ((i : ℕ) × (j ≡ key i))
  pub not : (j : Key) → theirs j ≡ false → (j ≢ hand) × ((i : ℕ) → j ≢ key i)

-- whatever step one thread took, another one stays as it was
abbrev pub StepRow : Type 0
StepRow = (key key2 : ℕ → Key) (rank : Key → ℕ) (hand hand2 : Key) (slots after slots2 : List Slot) (E : KeyTypes) (s s2 : Store) (temp temp1 temp2 : Option Kind) (theirs : Key → Bool)
    → IsKeys theirs key hand
    → ((i : ℕ) → theirs (key2 i) ≡ false)
    → theirs hand2 ≡ false
    → ThreadTyped key rank hand slots E s temp
    → (f : After key rank hand E after s2 temp1)
    → ThreadTyped key2 rank hand2 slots2 E s temp2
    → ThreadTyped key2 rank hand2 slots2 f.env s2 temp2

-- and so does one that waits for its branches
abbrev pub StepSleepRow : Type 0
StepSleepRow = (key key2 : ℕ → Key) (rank : Key → ℕ) (hand hand2 : Key) (slots after slots2 : List Slot) (E : KeyTypes) (s s2 : Store) (temp temp1 temp2 : Option Kind) (theirs : Key → Bool)
    → IsKeys theirs key hand
    → ((i : ℕ) → theirs (key2 i) ≡ false)
    → theirs hand2 ≡ false
    → ThreadTyped key rank hand slots E s temp
    → (f : After key rank hand E after s2 temp1)
    → Asleep key2 rank hand2 slots2 E temp2
    → Asleep key2 rank hand2 slots2 f.env temp2
