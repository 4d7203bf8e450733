-- What the checker's answers say of captured names (this project's rules).
use Rattle.std.specs.Prelude.{◌≡◌, ℕ, ⊤, List, length, Option, Some, Result, Ok, Err, if◌then◌else◌}
use Rattle.fr_base.specs.declared.place.Lval.{Lval}
use Rattle.fr_terms.specs.Terms.{Text, Captured}
use Rattle.fr_typing.specs.declared.reason.Reason.TheVariants.{ReadBlocked, WriteBlocked, NotOwned}
use Rattle.fr_typing.specs.Kinds.{Kind, Piece, whole, gone, copies}
use Rattle.fr_typing.specs.Places.{Env, read_blocked, write_blocked, put_at}
use Rattle.fr_typing.specs.Finding.{Outcome, fault, unless, given}
use Rattle.fr_typing.specs.Captures.{Capturer, by_spawn, by_par, with_full}
use Rattle.fr_syntax.specs.Arena.{Arena, text_of}
use Rattle.fr_syntax.specs.Meanings.{Meaning, meanings, meaning_at, as_capture, capture_s, all_need, AreBelow}
use Rattle.fr_types.specs.declared.types.Ty.{Ty}
use Rattle.fr_types.specs.Types.{kind_of}
use Rattle.fr_types.specs.States.{Held, env_of}
use Rattle.borrow_check.specs.declared.check_error.CheckError.{CheckError}
use Rattle.borrow_check.specs.declared.check_error.CheckError.TheVariants.{Fault, NoMemory}
use Rattle.borrow_check.specs.declared.written.Name.{Name}
use Rattle.borrow_check.specs.declared.written.Starter.{Starter}
use Rattle.borrow_check.specs.declared.written.Starter.TheVariants.{Spawn, Par}

-- the captured name that a node writes
abbrev pub captured_of : List Text → Name → Captured
captured_of names c = record { at = c.place; name = text_of names c.name }

abbrev pub capture_at : List Meaning → ℕ → Captured
capture_at ms n = as_capture (meaning_at ms n).what

-- the nodes are captured names of the tree
pub record AreNames (a : Arena) (ids : List ℕ) : Type 0 where
  pub parts : AreBelow (meanings a) (length (meanings a)) (all_need capture_s ids)

-- the term that captures
abbrev pub capturer_of : Starter → Capturer
capturer_of Spawn = by_spawn
capturer_of Par = by_par

-- the part is whole, or why not
abbrev pub IsFull : Result Ty CheckError → ℕ → Piece → Type 0
IsFull (Ok t) at p = p ≡ whole (kind_of t)
IsFull (Err (Fault q r)) at p = (go : Kind → Outcome) → with_full at p go ≡ fault q r
IsFull (Err NoMemory) at p = ⊤

-- the type that a captured variable has in the new thread, or that it may not be there; or memory ran out
abbrev pub IsSent : Result Ty CheckError → ℕ → Option Kind → Type 0
IsSent (Ok t) at o = o ≡ Some (kind_of t)
IsSent (Err (Fault q r)) at o = (go : Kind → Outcome) → given at NotOwned o go ≡ fault q r
IsSent (Err NoMemory) at o = ⊤

-- the checks that a variable of this type may be copied or taken, and then the rest from what is left; a fault stands at this place
abbrev pub when_free : Env → ℕ → Lval → Kind → (Env → Outcome) → Outcome
when_free e at x k rest =
    if copies k then unless (read_blocked e x.slot) at ReadBlocked (rest e)
    else unless (write_blocked e x.slot) at WriteBlocked (rest (put_at e x (gone k)))

-- whatever follows goes on from both environments, or the outcome is the fault; or memory ran out
abbrev pub GoesOn : {A : Type 0} → Result A CheckError → ((Env → Env → Outcome) → Outcome) → Env → Env → Type 0
GoesOn (Ok x) before e n = (go : Env → Env → Outcome) → before go ≡ go e n
GoesOn (Err (Fault p r)) before e n = (go : Env → Env → Outcome) → before go ≡ fault p r
GoesOn (Err NoMemory) before e n = ⊤

-- the same for the two lists of a par and their two new environments
abbrev pub GoesOnBoth : Result (List Held × List Held) CheckError → List Text → ((Env → Env → Env → Outcome) → Outcome) → Env → Type 0
GoesOnBoth (Ok p) names before e = (go : Env → Env → Env → Outcome) → before go ≡ go (env_of names p.0) (env_of names p.1) e
GoesOnBoth (Err (Fault q r)) names before e = (go : Env → Env → Env → Outcome) → before go ≡ fault q r
GoesOnBoth (Err NoMemory) names before e = ⊤
