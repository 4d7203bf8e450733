-- What the checker's answers say of typing (this project's rules).
use Rattle.std.specs.Prelude.{◌≡◌, ℕ, ◌<◌, ⊤, not, List, length, Some, Result, Ok, Err}
use Rattle.fr_base.specs.declared.place.Lval.{Lval}
use Rattle.fr_terms.specs.Terms.{Text, Spot, Items}
use Rattle.fr_typing.specs.declared.reason.Reason.TheVariants.{WriteBlocked, NotWritable, NotOwned, WrongType, Outlives}
use Rattle.fr_typing.specs.Kinds.{Owned, Kind, own, unit, Piece, whole, gone, boxed}
use Rattle.fr_typing.specs.Places.{Env, found, write_blocked, is_writable, slot_of}
use Rattle.fr_typing.specs.Checks.{place_of, is_kept_out, has_shape_of, names_from}
use Rattle.fr_typing.specs.Finding.{Has, Misses, Lacks, Outcome, typed, fault, unless, find_shown}
use Rattle.fr_typing.specs.Typing.{typing_items}
use Rattle.fr_syntax.specs.Arena.{text_of}
use Rattle.fr_types.specs.declared.types.O.{O}
use Rattle.fr_types.specs.declared.types.Ty.{Ty}
use Rattle.fr_types.specs.declared.types.Part.{Part}
use Rattle.fr_types.specs.OwnedTypes.{owned_of}
use Rattle.fr_types.specs.Types.{kind_of, piece_of}
use Rattle.fr_types.specs.States.{Held, slot_in}
use Rattle.borrow_check.specs.declared.check_error.CheckError.{CheckError}
use Rattle.borrow_check.specs.declared.check_error.CheckError.TheVariants.{Fault, NoMemory}
use Rattle.borrow_check.specs.declared.written.Written.{Written}

-- no two names have the same text
abbrev pub AreDifferentTexts : List Text → Type 0
AreDifferentTexts names = (i j : ℕ) → i < length names → j < length names → text_of names i ≡ text_of names j → i ≡ j

-- the slots have names of the tree
pub record IsInScope (names : List Text) (vs : List Held) : Type 0 where
  pub different : AreDifferentTexts names
  pub named : (name slot : ℕ) → slot_in vs name ≡ Some slot → name < length names

-- the place that a node writes
abbrev pub spot_of : List Text → Written → Spot
spot_of names w = record { at = w.place; name = text_of names w.name; stars = w.stars }

-- not whole: gone, or a box around a part
abbrev pub IsLacking : Piece → Type 0
IsLacking (whole k) = ⊥
IsLacking (gone k) = ⊤
IsLacking (boxed p) = ⊤

-- the checks that a place may be written to, and then the rest; a fault stands at this place
abbrev pub when_open : Env → ℕ → Lval → Outcome → Outcome
when_open e at x rest = unless (write_blocked e x.slot) at WriteBlocked (unless (not (is_writable e x)) at NotWritable rest)

-- the checks that a type may be written where this part stands, and then the rest
abbrev pub when_fitting : Env → ℕ → Lval → Piece → Kind → Outcome → Outcome
when_fitting e at x p k rest =
    unless (is_kept_out k x.depth) at NotOwned
    (unless (not (has_shape_of e p k)) at WrongType
    (unless (names_from x.slot k) at Outlives rest))

-- the place that a written place names is found, and what stands there, or why not; or memory ran out
abbrev pub Finds : Result (Lval × Part) CheckError → Env → Spot → Type 0
Finds (Ok f) e w = (f.0 ≡ place_of w f.0.slot) × Has e w f.0.slot (found (piece_of f.1))
Finds (Err (Fault p r)) e w = (p ≡ w.at) × Misses e w r
Finds (Err NoMemory) e w = ⊤

-- the same of a place that has to be whole
abbrev pub FindsWhole : Result (Lval × Ty) CheckError → Env → Spot → Type 0
FindsWhole (Ok f) e w = (f.0 ≡ place_of w f.0.slot) × Has e w f.0.slot (found (whole (kind_of f.1)))
FindsWhole (Err (Fault p r)) e w = (p ≡ w.at) × Lacks e w r
FindsWhole (Err NoMemory) e w = ⊤

-- the same of a place that may be read too: whatever follows goes on with the place and its type, or the outcome is the fault
abbrev pub FindsShown : Result (Lval × Ty) CheckError → Env → Spot → Type 0
FindsShown (Ok f) e w = (slot_of e w.name ≡ Some f.0.slot) × ((go : Lval → Kind → Outcome) → find_shown e w go ≡ go f.0 (kind_of f.1))
FindsShown (Err (Fault p r)) e w = (go : Lval → Kind → Outcome) → find_shown e w go ≡ fault p r
FindsShown (Err NoMemory) e w = ⊤

-- whatever follows goes on from this environment, or the outcome is the fault; or memory ran out
abbrev pub GoesTo : {A : Type 0} → Result A CheckError → ((Env → Outcome) → Outcome) → Env → Type 0
GoesTo (Ok x) before e = (go : Env → Outcome) → before go ≡ go e
GoesTo (Err (Fault p r)) before e = (go : Env → Outcome) → before go ≡ fault p r
GoesTo (Err NoMemory) before e = ⊤

-- the answer is the outcome's type, from whatever environment after; or memory ran out
abbrev pub GivesType : Result Ty CheckError → Outcome → Type 0
GivesType (Ok t) o = (e : Env) × (o ≡ typed (kind_of t) e)
GivesType (Err (Fault p r)) o = o ≡ fault p r
GivesType (Err NoMemory) o = ⊤

-- the mutex's content has this type, or the outcome is the fault; or memory ran out
abbrev pub IsContent : Result O CheckError → Outcome → (Owned → Outcome) → Type 0
IsContent (Ok o) out rest = out ≡ rest (owned_of o)
IsContent (Err (Fault p r)) out rest = out ≡ fault p r
IsContent (Err NoMemory) out rest = ⊤

-- the answer is the outcome, and the environment is the one after; or memory ran out
abbrev pub Gives : Result Ty CheckError → Outcome → Env → Type 0
Gives (Ok t) o e = o ≡ typed (kind_of t) e
Gives (Err (Fault p r)) o e = o ≡ fault p r
Gives (Err NoMemory) o e = ⊤

-- the answer is what a rule gives that changes no environment; or memory ran out
abbrev pub Follows : Result Ty CheckError → (Env → Outcome) → Type 0
Follows (Ok t) rule = (e : Env) → rule e ≡ typed (kind_of t) e
Follows (Err (Fault p r)) rule = (e : Env) → rule e ≡ fault p r
Follows (Err NoMemory) rule = ⊤

-- the type may be held, and becomes this owned type, or the outcome is the fault; or memory ran out
abbrev pub IsHeld : Result O CheckError → Outcome → (Owned → Owned) → Env → Type 0
IsHeld (Ok o) out hold e = out ≡ typed (own (hold (owned_of o))) e
IsHeld (Err (Fault p r)) out hold e = out ≡ fault p r
IsHeld (Err NoMemory) out hold e = ⊤

-- the checks pass, so that the outcome is the rest, or it is the fault; or memory ran out
abbrev pub Passes : {A : Type 0} → Result A CheckError → Outcome → Outcome → Type 0
Passes (Ok x) o rest = o ≡ rest
Passes (Err (Fault p r)) o rest = o ≡ fault p r
Passes (Err NoMemory) o rest = ⊤

-- whatever follows the items goes on from here, or the items end in the fault
abbrev pub GivesItems : Result (Ty × ℕ) CheckError → Items → ℕ → Env → Env → Type 0
GivesItems (Ok p) ts at e e1 = (go : Kind → ℕ → Env → Outcome) → typing_items ts (own unit) at e go ≡ go (kind_of p.0) p.1 e1
GivesItems (Err (Fault p r)) ts at e e1 = (go : Kind → ℕ → Env → Outcome) → typing_items ts (own unit) at e go ≡ fault p r
GivesItems (Err NoMemory) ts at e e1 = ⊤
