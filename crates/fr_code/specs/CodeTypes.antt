-- The typing of instructions: the table of typing terms (Featherweight Rust with this project's rules) as compiled code meets it. Code has
-- no names; an environment's names are any that typing would take. All checks are those that typing makes of terms.
use Rattle.std.specs.Prelude.{◌≡◌, ◌≤◌, ℕ, ℤ, Bool, true, false, not, ◌==◌, is_some, List, [], ◌∷◌, length, Option, Some, None, if◌then◌else◌, slice_get}
use Rattle.std.specs.List.{list_all}
use Rattle.fr_sound.specs.Below.fr_base.declared.place.Lval.{Lval}
use Rattle.fr_sound.specs.Below.fr_base.declared.place.Op.{Op}
use Rattle.fr_sound.specs.Below.fr_base.declared.instruction.Operand.{Operand}
use Rattle.fr_sound.specs.Below.fr_base.declared.instruction.Operand.TheVariants as operand
use Rattle.fr_sound.specs.Below.fr_base.declared.instruction.Instr.{Instr}
use Rattle.fr_sound.specs.Below.fr_base.declared.instruction.Instr.TheVariants as instr
use Rattle.fr_sound.specs.Below.fr_base.Rooms.{WithRoom}
use Rattle.fr_sound.specs.Below.fr_terms.Terms.{Text, Captured}
use Rattle.fr_sound.specs.Below.fr_typing.Kinds.{Owned, unit, int, box, mutex, task, Kind, own, shared, mutable, Piece, whole, gone, copies}
use Rattle.fr_sound.specs.Below.fr_typing.Places.{Slot, Env, Found, found, type_at, read_blocked, write_blocked, is_own_path, put_at, slot_of}
use Rattle.fr_sound.specs.Below.fr_typing.Checks.{is_int, is_owned, is_full, is_kept_out, has_shape_of, names_from, set_through, with_lock}
use Rattle.fr_sound.specs.Below.fr_typing.Finding.{IsOpen}
use Rattle.fr_sound.specs.Below.fr_typing.Captures.{Capturer, by_spawn, by_par, Captures}
pub use Rattle.fr_sound.specs.Entries.{Entry, going, forked_at}

-- ENTRIES

-- what typing knows before each instruction to which it knows a way; nothing at other places
abbrev pub Table : Type 0
Table = ℕ → Option Entry

-- the table with these entries, from the first instruction on
abbrev pub table_of : List Entry → Table
table_of xs pc = slice_get xs pc

-- PLACES AND OPERANDS

-- the slot is a variable: it has a name. (The hidden slot of a lock has none, so no place of a term starts there)
abbrev pub is_variable : Env → ℕ → Bool
is_variable [] n = false
is_variable (s ∷ below) n = if n == length below then is_some s.name else is_variable below n

-- the place starts at a variable and has at most eight stars, and this is its type
pub record HasType (e : Env) (w : Lval) (f : Found) : Type 0 where
  pub named : is_variable e w.slot ≡ true
  pub short : w.depth ≤ 8
  pub is : type_at e w ≡ f

-- the temporary values that wait while a term is evaluated are left operands: integers
abbrev pub wait : List Kind → Bool
wait ts = list_all is_int ts

-- an operand has this type, and leaves these temporary values, which wait
pub data Takes : Operand → List Kind → Kind → List Kind → Type 0 where
  takes_const : {n : ℤ} {ts : List Kind} → wait ts ≡ true → Takes (operand.Const n) ts (own int) ts
  takes_unit : {ts : List Kind} → wait ts ≡ true → Takes operand.Unit ts (own unit) ts
  takes_pop : {k : Kind} {ts : List Kind} → wait ts ≡ true → Takes operand.Pop (k ∷ ts) k ts

-- CAPTURES

-- from an environment and a new one, a captured slot leaves these two: it is a variable whose name may be captured, and it is taken where its
-- type is moved
pub data SlotPasses (by : Capturer) : Env → Env → ℕ × Bool → Env → Env → Type 0 where
  passes : {e n e1 n1 : Env} {s : Slot} {i : ℕ} {take : Bool} {k : Kind} (c : Captured) → slot_of e c.name ≡ Some i → Captures by e n c e1 (s ∷ n1) → s.part ≡ whole k → take ≡ not (copies k) → SlotPasses by e n (i, take) e1 (s ∷ n1)

-- the same for slots in order
pub data SlotsPass (by : Capturer) : Env → Env → List (ℕ × Bool) → Env → Env → Type 0 where
  pass_none : {e n : Env} → SlotsPass by e n [] e n
  pass_next : {e n e1 n1 e2 n2 : Env} {x : ℕ × Bool} {xs : List (ℕ × Bool)} → SlotPasses by e n x e1 n1 → SlotsPass by e1 n1 xs e2 n2 → SlotsPass by e n (x ∷ xs) e2 n2

-- ENDS OF BLOCKS

-- the newest slot is the hidden one of a lock
abbrev pub is_locked : Env → Bool
is_locked [] = false
is_locked (s ∷ below) = not (is_some s.name)

-- no temporary value's type names this slot or a later one
abbrev pub outlive : ℕ → List Kind → Bool
outlive n ts = list_all (λ k. not (names_from n k)) ts

-- INSTRUCTIONS

-- from one entry an instruction leads to the other; the first instruction of a body has its entry in the table
pub data InstrTypes (table : Table) : Entry → Instr → Entry → Type 0 where
  -- `let`: a new slot, under a name that isn't in scope
  i_let : {e : Env} {ts us : List Kind} {g : Owned} {o : Operand} {k : Kind} (x : Text) → Takes o ts k us → slot_of e x ≡ None
      → InstrTypes table (going e ts g) (instr.Let o) (going (record { name = Some x; part = whole k } ∷ e) us g)
  -- an assignment to an open place: a reference or view under no star, of the same shape as before, and naming lower slots alone
  i_assign : {e : Env} {ts us : List Kind} {g : Owned} {o : Operand} {w : Lval} {k : Kind} {p : Piece} → Takes o ts k us → HasType e w (found p) → IsOpen e w → is_kept_out k w.depth ≡ false → has_shape_of e p k ≡ true → names_from w.slot k ≡ false
      → InstrTypes table (going e ts g) (instr.Assign w o) (going (set_through e w k) us g)
  -- a read copies what is whole and not lent mutably
  i_copy : {e : Env} {ts : List Kind} {g : Owned} {w : Lval} {k : Kind} → wait ts ≡ true → HasType e w (found (whole k)) → copies k ≡ true → read_blocked e w.slot ≡ false
      → InstrTypes table (going e ts g) (instr.Read w false) (going e (k ∷ ts) g)
  -- or moves what is whole and not lent at all, over boxes alone
  i_move : {e : Env} {ts : List Kind} {g : Owned} {w : Lval} {k : Kind} → wait ts ≡ true → HasType e w (found (whole k)) → copies k ≡ false → write_blocked e w.slot ≡ false → is_own_path e w ≡ true
      → InstrTypes table (going e ts g) (instr.Read w true) (going (put_at e w (gone k)) (k ∷ ts) g)
  i_borrow : {e : Env} {ts : List Kind} {g : Owned} {w : Lval} {k : Kind} → wait ts ≡ true → HasType e w (found (whole k)) → read_blocked e w.slot ≡ false
      → InstrTypes table (going e ts g) (instr.Borrow w) (going e (shared (w ∷ []) ∷ ts) g)
  i_borrow_mut : {e : Env} {ts : List Kind} {g : Owned} {w : Lval} {k : Kind} → wait ts ≡ true → HasType e w (found (whole k)) → IsOpen e w
      → InstrTypes table (going e ts g) (instr.BorrowMut w) (going e (mutable (w ∷ []) ∷ ts) g)
  i_box : {e : Env} {ts us : List Kind} {g x : Owned} {o : Operand} → Takes o ts (own x) us → is_full x ≡ false
      → InstrTypes table (going e ts g) (instr.Box o) (going e (own (box x) ∷ us) g)
  -- of two operands that are popped the right one is on top
  i_arith : {e : Env} {ts us vs : List Kind} {g : Owned} {f : Op} {a b : Operand} → Takes b ts (own int) us → Takes a us (own int) vs
      → InstrTypes table (going e ts g) (instr.Arith f a b) (going e (own int ∷ vs) g)
  i_print : {e : Env} {ts us : List Kind} {g : Owned} {o : Operand} → Takes o ts (own int) us
      → InstrTypes table (going e ts g) (instr.Print o) (going e us g)
  i_discard : {e : Env} {ts us : List Kind} {g : Owned} {k : Kind} → Takes operand.Pop ts k us
      → InstrTypes table (going e ts g) instr.Discard (going e us g)
  -- a block's slot goes: no temporary value names it, and it is none of the two of a lock
  i_drop : {e : Env} {ts : List Kind} {g : Owned} {s : Slot} → is_some s.name ≡ true → is_locked e ≡ false → outlive (length e) ts ≡ true
      → InstrTypes table (going (s ∷ e) ts g) instr.DropSlot (going e ts g)
  -- the new thread's code starts with the captures as slots, and ends with the type that the task has
  i_spawn : {e e1 n : Env} {ts : List Kind} {g x : Owned} {cs : WithRoom (ℕ × Bool)} {body : ℕ} → wait ts ≡ true → SlotsPass by_spawn e [] cs.items e1 n → table body ≡ Some (going n [] x) → is_full x ≡ false
      → InstrTypes table (going e ts g) (instr.Spawn cs body) (going e1 (own (task x) ∷ ts) g)
  i_join : {e : Env} {ts us : List Kind} {g x : Owned} {o : Operand} → Takes o ts (own (task x)) us
      → InstrTypes table (going e ts g) (instr.Join o) (going e (own x ∷ us) g)
  i_mutex : {e : Env} {ts us : List Kind} {g x : Owned} {o : Operand} → Takes o ts (own x) us → is_full x ≡ false
      → InstrTypes table (going e ts g) (instr.Mutex o) (going e (own (mutex x) ∷ us) g)
  i_dup : {e : Env} {ts : List Kind} {g x : Owned} {w : Lval} → wait ts ≡ true → HasType e w (found (whole (own (mutex x)))) → read_blocked e w.slot ≡ false
      → InstrTypes table (going e ts g) (instr.Dup w) (going e (own (mutex x) ∷ ts) g)
  -- a lock adds its hidden slot and the slot of the content
  i_lock : {e : Env} {ts : List Kind} {g x : Owned} {w : Lval} (name : Text) → wait ts ≡ true → HasType e w (found (whole (own (mutex x)))) → read_blocked e w.slot ≡ false → slot_of e name ≡ None
      → InstrTypes table (going e ts g) (instr.Lock w) (going (with_lock e w name x) ts g)
  -- both slots go, the content whole; the value of the lock's block, if it has one, is owned
  i_unlock : {e : Env} {ts : List Kind} {g x : Owned} {w : Lval} {name : Text} → list_all is_owned ts ≡ true
      → InstrTypes table (going (with_lock e w name x) ts g) instr.Unlock (going e ts g)
  -- the second list captures what the first leaves; both branches end with unit
  i_par : {e e1 e2 n m : Env} {ts : List Kind} {g : Owned} {cs ds : WithRoom (ℕ × Bool)} {body other : ℕ} → wait ts ≡ true → SlotsPass by_par e [] cs.items e1 n → SlotsPass by_par e1 [] ds.items e2 m → table body ≡ Some (going n [] unit) → table other ≡ Some (going m [] unit)
      → InstrTypes table (going e ts g) (instr.Par cs body ds other) (forked_at e2 ts g)
  i_par_end : {e : Env} {ts : List Kind} {g : Owned} → InstrTypes table (forked_at e ts g) instr.ParEnd (going e ts g)
