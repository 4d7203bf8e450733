-- What typing comes to, and finding a written place: as a relation and as a function (Featherweight Rust).
use Rattle.std.specs.Prelude.{◌≡◌, ℕ, Bool, true, false, not, [], Option, Some, None}
use Rattle.fr_base.specs.declared.place.Lval.{Lval}
use Rattle.fr_terms.specs.Terms.{Spot}
use Rattle.fr_typing.specs.declared.reason.Reason.{Reason}
use Rattle.fr_typing.specs.declared.reason.Reason.TheVariants.{UnknownName, NotDefined, NoTarget, ReadBlocked}
use Rattle.fr_typing.specs.Kinds.{Kind, Piece, whole, gone, boxed, copies}
use Rattle.fr_typing.specs.Places.{Env, Found, found, undefined, no_target, type_at, read_blocked, write_blocked, is_writable, slot_of}
use Rattle.fr_typing.specs.Checks.{place_of}

-- AS A RELATION

-- the written place names this slot, and this is the type of the place there
pub record Has (e : Env) (w : Spot) (s : ℕ) (f : Found) : Type 0 where
  pub named : slot_of e w.name ≡ Some s
  pub is : type_at e (place_of w s) ≡ f

-- the written place isn't found
pub data Misses : Env → Spot → Reason → Type 0 where
  misses_name : {e : Env} {w : Spot} → slot_of e w.name ≡ None → Misses e w UnknownName
  misses_value : {e : Env} {w : Spot} {s : ℕ} → Has e w s undefined → Misses e w NotDefined
  misses_target : {e : Env} {w : Spot} {s : ℕ} → Has e w s no_target → Misses e w NoTarget

-- the written place isn't found, or isn't whole
pub data Lacks : Env → Spot → Reason → Type 0 where
  lacks_place : {e : Env} {w : Spot} {r : Reason} → Misses e w r → Lacks e w r
  lacks_all : {e : Env} {w : Spot} {s : ℕ} {k : Kind} → Has e w s (found (gone k)) → Lacks e w NotDefined
  lacks_part : {e : Env} {w : Spot} {s : ℕ} {p : Piece} → Has e w s (found (boxed p)) → Lacks e w NotDefined

-- the slot may be written to at this place
pub record IsOpen (e : Env) (x : Lval) : Type 0 where
  pub free : write_blocked e x.slot ≡ false
  pub path : is_writable e x ≡ true

-- the written place is found whole, of this type, and may be read
pub record Shows (e : Env) (w : Spot) (s : ℕ) (k : Kind) : Type 0 where
  pub is : Has e w s (found (whole k))
  pub free : read_blocked e s ≡ false

-- it isn't found, isn't whole, or may not be read
pub data Withholds : Env → Spot → Reason → Type 0 where
  withholds_place : {e : Env} {w : Spot} {r : Reason} → Lacks e w r → Withholds e w r
  withholds_blocked : {e : Env} {w : Spot} {s : ℕ} {k : Kind} → Has e w s (found (whole k)) → read_blocked e s ≡ true → Withholds e w ReadBlocked

-- AS A FUNCTION

-- a type and the environment after, or the first fault
pub data Outcome : Type 0 where
  typed : Kind → Env → Outcome
  fault : (at : ℕ) → Reason → Outcome

-- the environment that a typed term leaves; after a fault nobody asks
abbrev pub env_after : Outcome → Env
env_after (typed k e) = e
env_after (fault at r) = []

abbrev pub then_typed : Outcome → (Kind → Env → Outcome) → Outcome
then_typed (typed k e) go = go k e
then_typed (fault at r) go = fault at r

-- a check: a fault where the test holds
abbrev pub unless : Bool → ℕ → Reason → Outcome → Outcome
unless true at r rest = fault at r
unless false at r rest = rest

-- what has to be there, and a fault where it isn't
abbrev pub given : {A : Type 0} → ℕ → Reason → Option A → (A → Outcome) → Outcome
given at r None go = fault at r
given at r (Some x) go = go x

-- what is found is whole and of a type that moves
abbrev pub is_moved : Found → Bool
is_moved (found (whole k)) = not (copies k)
is_moved f = false

abbrev pub with_slot : ℕ → Option ℕ → (ℕ → Outcome) → Outcome
with_slot at None go = fault at UnknownName
with_slot at (Some s) go = go s

abbrev pub with_part : ℕ → Found → (Piece → Outcome) → Outcome
with_part at (found p) go = go p
with_part at undefined go = fault at NotDefined
with_part at no_target go = fault at NoTarget

abbrev pub with_whole : ℕ → Piece → (Kind → Outcome) → Outcome
with_whole at (whole k) go = go k
with_whole at (gone k) go = fault at NotDefined
with_whole at (boxed p) go = fault at NotDefined

-- the place that is written, and what stands there
abbrev pub find : Env → Spot → (Lval → Piece → Outcome) → Outcome
find e w go = with_slot w.at (slot_of e w.name) (λ s. with_part w.at (type_at e (place_of w s)) (go (place_of w s)))

-- the same for a place that has to be whole
abbrev pub find_whole : Env → Spot → (Lval → Kind → Outcome) → Outcome
find_whole e w go = find e w (λ x p. with_whole w.at p (go x))

-- the same for a place that has to be whole and may be read
abbrev pub find_shown : Env → Spot → (Lval → Kind → Outcome) → Outcome
find_shown e w go = find_whole e w (λ x k. unless (read_blocked e x.slot) w.at ReadBlocked (go x k))
