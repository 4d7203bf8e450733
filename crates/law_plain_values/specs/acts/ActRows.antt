-- THE TYPING OF ACTS: from what is known before an act, with the temporary values at hand, to what is known after it (this project's rule). An
-- instruction's act and a running term's act are both granted by a row of this table; its checks are those that typing makes of terms.
use Rattle.std.specs.Prelude.{◌≡◌, ℕ, ℤ, true, false, Bool, is_some, List, [], ◌∷◌, length, Some, None}
use Rattle.std.specs.List.{list_all}
use Rattle.fr_base.specs.declared.label.Plain.TheVariants as plain
use Rattle.fr_base.specs.declared.place.Lval.{Lval}
use Rattle.fr_base.specs.declared.place.Op.{Op}
use Rattle.fr_terms.specs.Terms.{Text}
use Rattle.fr_typing.specs.Kinds.{Owned, unit, int, box, mutex, task, Kind, own, shared, mutable, Piece, whole, gone, copies}
use Rattle.fr_typing.specs.Places.{Slot, Env, found, read_blocked, write_blocked, is_own_path, put_at, slot_of}
use Rattle.fr_typing.specs.Checks.{is_owned, is_kept_out, has_shape_of, names_from, set_through, with_lock}
use Rattle.fr_typing.specs.Finding.{IsOpen}
use Rattle.fr_typing.specs.Captures.{by_spawn, by_par}
use Rattle.fr_plain.specs.declared.value.Value.{Value}
use Rattle.fr_plain.specs.declared.value.Value.TheVariants.{Own}
use Rattle.fr_plain.specs.MachineActs.{Act, do_let, do_read, do_borrow, do_assign, do_box, do_arith, do_print, do_discard, do_drop, do_spawn, do_join, do_mutex, do_dup, do_lock, do_unlock, do_par, do_par_end, unit as unit_value}
use Rattle.fr_sound.specs.Entries.{Entry, going, forked_at}
use Rattle.fr_code.specs.CodeTypes.{HasType, wait, SlotsPass, is_locked, outlive}
use Rattle.fr_code.specs.Steps.{captured}

-- an operand: a constant, or the temporary value on top. With its type, and with what is left, which waits
pub data Pops : List Kind → List Value → Value → Kind → List Kind → List Value → Type 0 where
  pops_unit : {ts : List Kind} {vs : List Value} → wait ts ≡ true → Pops ts vs unit_value (own unit) ts vs
  pops_int : {ts : List Kind} {vs : List Value} (n : ℤ) → wait ts ≡ true → Pops ts vs (Own (plain.Int n)) (own int) ts vs
  pops_temp : {k : Kind} {v : Value} {ts : List Kind} {vs : List Value} → wait ts ≡ true → Pops (k ∷ ts) (v ∷ vs) v k ts vs

-- the temporary values after an act: these, or the act's value above them
pub data Leaves : Type 0 where
  quiet : List Value → Leaves
  loud : List Value → Leaves

abbrev pub left_after : Leaves → Value → List Value
left_after (quiet vs) v = vs
left_after (loud vs) v = v ∷ vs

-- B is where a new thread starts; `starts` is what is known there
module _ {B : Type 0} (starts : B → Entry → Type 0) where
  pub data ActRow : Entry → List Value → Act B → Leaves → Entry → Type 0 where
    -- `let`: a new slot, under a name that isn't in scope
    r_let : {e : Env} {ts us : List Kind} {vs ws : List Value} {g : Owned} {v : Value} {k : Kind} (x : Text) → Pops ts vs v k us ws → slot_of e x ≡ None
        → ActRow (going e ts g) vs (do_let v) (quiet ws) (going (record { name = Some x; part = whole k } ∷ e) us g)
    -- an assignment to an open place: a reference or view under no star, of the same shape as before, and naming lower slots alone
    r_assign : {e : Env} {ts us : List Kind} {vs ws : List Value} {g : Owned} {v : Value} {w : Lval} {k : Kind} {p : Piece} → Pops ts vs v k us ws → HasType e w (found p) → IsOpen e w → is_kept_out k w.depth ≡ false → has_shape_of e p k ≡ true → names_from w.slot k ≡ false
        → ActRow (going e ts g) vs (do_assign w v) (quiet ws) (going (set_through e w k) us g)
    -- a read copies what is whole and not lent mutably
    r_copy : {e : Env} {ts : List Kind} {vs : List Value} {g : Owned} {w : Lval} {k : Kind} → wait ts ≡ true → HasType e w (found (whole k)) → copies k ≡ true → read_blocked e w.slot ≡ false
        → ActRow (going e ts g) vs (do_read w false) (loud vs) (going e (k ∷ ts) g)
    -- or moves what is whole and not lent at all, over boxes alone
    r_move : {e : Env} {ts : List Kind} {vs : List Value} {g : Owned} {w : Lval} {k : Kind} → wait ts ≡ true → HasType e w (found (whole k)) → copies k ≡ false → write_blocked e w.slot ≡ false → is_own_path e w ≡ true
        → ActRow (going e ts g) vs (do_read w true) (loud vs) (going (put_at e w (gone k)) (k ∷ ts) g)
    r_borrow : {e : Env} {ts : List Kind} {vs : List Value} {g : Owned} {w : Lval} {k : Kind} → wait ts ≡ true → HasType e w (found (whole k)) → read_blocked e w.slot ≡ false
        → ActRow (going e ts g) vs (do_borrow w false) (loud vs) (going e (shared (w ∷ []) ∷ ts) g)
    r_borrow_mut : {e : Env} {ts : List Kind} {vs : List Value} {g : Owned} {w : Lval} {k : Kind} → wait ts ≡ true → HasType e w (found (whole k)) → IsOpen e w
        → ActRow (going e ts g) vs (do_borrow w true) (loud vs) (going e (mutable (w ∷ []) ∷ ts) g)
    r_box : {e : Env} {ts us : List Kind} {vs ws : List Value} {g x : Owned} {v : Value} → Pops ts vs v (own x) us ws
        → ActRow (going e ts g) vs (do_box v) (loud ws) (going e (own (box x) ∷ us) g)
    -- of two operands that are temporary values the right one is on top
    r_arith : {e : Env} {ts us rs : List Kind} {vs ws xs : List Value} {g : Owned} {f : Op} {a b : Value} → Pops ts vs b (own int) us ws → Pops us ws a (own int) rs xs
        → ActRow (going e ts g) vs (do_arith f a b) (loud xs) (going e (own int ∷ rs) g)
    r_print : {e : Env} {ts us : List Kind} {vs ws : List Value} {g : Owned} {v : Value} → Pops ts vs v (own int) us ws
        → ActRow (going e ts g) vs (do_print v) (quiet ws) (going e us g)
    r_discard : {e : Env} {ts us : List Kind} {vs ws : List Value} {g : Owned} {v : Value} {k : Kind} → Pops ts vs v k us ws
        → ActRow (going e ts g) vs (do_discard v) (quiet ws) (going e us g)
    -- the newest slot goes: no temporary value names it, and it is none of the two of a lock
    r_drop : {e : Env} {ts : List Kind} {vs : List Value} {g : Owned} {s : Slot} → is_some s.name ≡ true → is_locked e ≡ false → outlive (length e) ts ≡ true
        → ActRow (going (s ∷ e) ts g) vs do_drop (quiet vs) (going e ts g)
    -- the new thread starts with the captures as slots, and ends with the type that the task has
    r_spawn : {e e1 n : Env} {ts : List Kind} {vs : List Value} {g x : Owned} {body : B} (cs : List (ℕ × Bool)) → wait ts ≡ true → SlotsPass by_spawn e [] cs e1 n → starts body (going n [] x)
        → ActRow (going e ts g) vs (do_spawn (captured cs) body) (loud vs) (going e1 (own (task x) ∷ ts) g)
    r_join : {e : Env} {ts us : List Kind} {vs ws : List Value} {g x : Owned} {v : Value} → Pops ts vs v (own (task x)) us ws
        → ActRow (going e ts g) vs (do_join v) (loud ws) (going e (own x ∷ us) g)
    r_mutex : {e : Env} {ts us : List Kind} {vs ws : List Value} {g x : Owned} {v : Value} → Pops ts vs v (own x) us ws
        → ActRow (going e ts g) vs (do_mutex v) (loud ws) (going e (own (mutex x) ∷ us) g)
    r_dup : {e : Env} {ts : List Kind} {vs : List Value} {g x : Owned} {w : Lval} → wait ts ≡ true → HasType e w (found (whole (own (mutex x)))) → read_blocked e w.slot ≡ false
        → ActRow (going e ts g) vs (do_dup w) (loud vs) (going e (own (mutex x) ∷ ts) g)
    -- a lock adds its hidden slot and the slot of the content
    r_lock : {e : Env} {ts : List Kind} {vs : List Value} {g x : Owned} {w : Lval} (name : Text) → wait ts ≡ true → HasType e w (found (whole (own (mutex x)))) → read_blocked e w.slot ≡ false → slot_of e name ≡ None
        → ActRow (going e ts g) vs (do_lock w) (quiet vs) (going (with_lock e w name x) ts g)
    -- both slots go, the content whole; a temporary value that stays is owned
    r_unlock : {e : Env} {ts : List Kind} {vs : List Value} {g x : Owned} {w : Lval} {name : Text} → list_all is_owned ts ≡ true
        → ActRow (going (with_lock e w name x) ts g) vs do_unlock (quiet vs) (going e ts g)
    -- the second list captures what the first leaves; both branches end with unit
    r_par : {e e1 e2 n m : Env} {ts : List Kind} {vs : List Value} {g : Owned} {body other : B} (cs ds : List (ℕ × Bool)) → wait ts ≡ true → SlotsPass by_par e [] cs e1 n → SlotsPass by_par e1 [] ds e2 m → starts body (going n [] unit) → starts other (going m [] unit)
        → ActRow (going e ts g) vs (do_par (captured cs) body (captured ds) other) (quiet vs) (forked_at e2 ts g)
    r_par_end : {e : Env} {ts : List Kind} {vs : List Value} {g : Owned} → ActRow (forked_at e ts g) vs do_par_end (quiet vs) (going e ts g)

-- the end of a thread, whoever has its task: with no slot left, with the operand alone, of the type of the thread's result
pub data EndsAs : Entry → List Value → Value → Type 0 where
  ends_as : {ts : List Kind} {vs : List Value} {g : Owned} {v : Value} → Pops ts vs v (own g) [] [] → EndsAs (going [] ts g) vs v
