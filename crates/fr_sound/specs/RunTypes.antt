-- Types of running terms and of acts: the typing table on terms with slots and values in them (this project's rule).
use Rattle.std.specs.Prelude.{◌≡◌, ℕ, ℤ, zero, suc, ◌<◌, true, false, List, [], ◌∷◌, length, Option, Some, None}
use Rattle.fr_plain.specs.Below.fr_base.declared.label.Plain.TheVariants as plain
use Rattle.fr_plain.specs.Below.fr_base.declared.place.Lval.{Lval}
use Rattle.fr_plain.specs.Below.fr_base.declared.place.Op.{Op}
use Rattle.fr_plain.specs.Below.fr_terms.Terms.{Text}
use Rattle.fr_plain.specs.Below.fr_typing.Kinds.{Owned, unit, int, box, task, Kind, own, shared, mutable, Piece, whole, gone, copies}
use Rattle.fr_plain.specs.Below.fr_typing.Places.{Slot, Env, found, type_at, read_blocked, write_blocked, is_writable, is_own_path, put_at, owned_shape, piece_shape, shape_at, AreBelow, kind_places}
use Rattle.fr_plain.specs.Below.fr_typing.Checks.{is_owned}
use Rattle.fr_store.specs.Thread.{temp_places}
use Rattle.fr_plain.specs.declared.value.Value.{Value}
use Rattle.fr_plain.specs.declared.value.Value.TheVariants.{Own}
use Rattle.fr_plain.specs.Acts.{Act, do_let, do_read, do_borrow, do_assign, do_box, do_arith, do_print, do_discard, do_drop, do_end, do_leave, do_spawn, do_join, unit as unit_value}
use Rattle.fr_plain.specs.Run.{Capture, Run, temp, unit_c, number, read, borrow, box_r, arith, bind, print, assign, block, spawn, join_r, mutex_r, dup, lock, locked, par, par_end, Parts, last, more, Now, going, constant, temporary, by_now, now}

-- PLACES

-- a value of type k may be copied from the place
pub record Copies (e : Env) (w : Lval) (k : Kind) : Type 0 where
  pub there : w.slot < length e
  pub is : type_at e w ≡ found (whole k)
  pub copied : copies k ≡ true

-- a value of type k may be moved out of the place, which leaves the second environment
pub record Moves (e : Env) (w : Lval) (k : Kind) (e2 : Env) : Type 0 where
  pub there : w.slot < length e
  pub is : type_at e w ≡ found (whole k)
  pub moved : copies k ≡ false
  pub free : write_blocked e w.slot ≡ false
  pub own_path : is_own_path e w ≡ true
  pub after : e2 ≡ put_at e w (gone k)

-- the place may be lent to a shared reference
pub record Lends (e : Env) (w : Lval) : Type 0 where
  pub kind : Kind
  pub there : w.slot < length e
  pub is : type_at e w ≡ found (whole kind)
  pub free : read_blocked e w.slot ≡ false

-- the place may be lent to a mutable reference
pub record LendsMut (e : Env) (w : Lval) : Type 0 where
  pub kind : Kind
  pub there : w.slot < length e
  pub is : type_at e w ≡ found (whole kind)
  pub free : write_blocked e w.slot ≡ false
  pub writable : is_writable e w ≡ true

-- an owned value of type x may be written at the place, along boxes alone, and leaves the second environment
pub record Puts (e : Env) (w : Lval) (x : Owned) (e2 : Env) : Type 0 where
  pub piece : Piece
  pub there : w.slot < length e
  pub is : type_at e w ≡ found piece
  pub shape : piece_shape (shape_at e) piece ≡ Some (owned_shape x)
  pub free : write_blocked e w.slot ≡ false
  pub own_path : is_own_path e w ≡ true
  pub after : e2 ≡ put_at e w (whole (own x))

-- an owned value of type x may be written at the place, through mutable references
pub record Writes (e : Env) (w : Lval) (x : Owned) : Type 0 where
  pub piece : Piece
  pub there : w.slot < length e
  pub is : type_at e w ≡ found piece
  pub shape : piece_shape (shape_at e) piece ≡ Some (owned_shape x)
  pub free : write_blocked e w.slot ≡ false
  pub writable : is_writable e w ≡ true
  pub through : is_own_path e w ≡ false

-- a reference of type k may be written to the variable, and leaves the second environment
pub record Turns (e : Env) (w : Lval) (k : Kind) (e2 : Env) : Type 0 where
  pub piece : Piece
  pub there : w.slot < length e
  pub variable : w.depth ≡ 0
  pub is : type_at e w ≡ found piece
  pub reference : is_owned k ≡ false
  pub free : write_blocked e w.slot ≡ false
  pub below : AreBelow w.slot (kind_places k)
  pub after : e2 ≡ put_at e w (whole k)

-- a value of type k may be assigned to the place, and leaves the second environment
pub data Assigns : Env → Lval → Kind → Env → Type 0 where
  to_own : {e e2 : Env} {w : Lval} {x : Owned} → Puts e w x e2 → Assigns e w (own x) e2
  to_lent : {e : Env} {w : Lval} {x : Owned} → Writes e w x → Assigns e w (own x) e
  to_variable : {e e2 : Env} {w : Lval} {k : Kind} → Turns e w k e2 → Assigns e w k e2

-- TERMS

-- so many of the newest slots go
pub data Falls : ℕ → Env → Env → Type 0 where
  f_none : {e : Env} → Falls zero e e
  f_one : {n : ℕ} {s : Slot} {e e2 : Env} → Falls n e e2 → Falls (suc n) (s ∷ e) e2

-- the value is an integer
abbrev pub IsInt : Value → Type 0
IsInt v = (n : ℤ) × (v ≡ Own (plain.Int n))

-- a term that is done has an integer
abbrev pub IsNumber : Now → Type 0
IsNumber going = ⊥
IsNumber (constant v) = IsInt v
IsNumber (temporary v) = IsInt v

-- the forms of one thread, or those of several threads too
pub data Forms : Type 0 where
  one_thread : Forms
  threads : Forms

abbrev pub variable : ℕ → Lval
variable i = record { slot = i; depth = 0 }

-- from an environment and a new thread's, captures leave these two
pub data RunCaptures : Env → Env → List Capture → Env → Env → Type 0 where
  c_none : {e n : Env} → RunCaptures e n [] e n
  c_copy : {e n e2 n2 : Env} {i : ℕ} {x : Owned} {cs : List Capture} (name : Option Text) → Copies e (variable i) (own x) → RunCaptures e (record { name = name; part = whole (own x) } ∷ n) cs e2 n2 → RunCaptures e n (record { slot = i; take = false } ∷ cs) e2 n2
  c_move : {e n e1 e2 n2 : Env} {i : ℕ} {x : Owned} {cs : List Capture} (name : Option Text) → Moves e (variable i) (own x) e1 → RunCaptures e1 (record { name = name; part = whole (own x) } ∷ n) cs e2 n2 → RunCaptures e n (record { slot = i; take = true } ∷ cs) e2 n2

mutual
  -- from e, where the term's temporary value has the first type (None where it has no such value), the term has the
  -- type and leaves the second environment. An operand that is done is known to be an integer and is no such value
  pub data RunTypes : Forms → Env → Option Kind → Run → Kind → Env → Type 0 where
    t_temp : {forms : Forms} {e : Env} {k : Kind} {v : Value} → RunTypes forms e (Some k) (temp v) k e
    t_unit : {forms : Forms} {e : Env} → RunTypes forms e None unit_c (own unit) e
    t_number : {forms : Forms} {e : Env} {n : ℤ} → RunTypes forms e None (number n) (own int) e
    t_copy : {forms : Forms} {e : Env} {w : Lval} {k : Kind} → Copies e w k → RunTypes forms e None (read w false) k e
    t_move : {forms : Forms} {e e2 : Env} {w : Lval} {k : Kind} → Moves e w k e2 → RunTypes forms e None (read w true) k e2
    t_borrow : {forms : Forms} {e : Env} {w : Lval} → Lends e w → RunTypes forms e None (borrow w false) (shared (w ∷ [])) e
    t_borrow_mut : {forms : Forms} {e : Env} {w : Lval} → LendsMut e w → RunTypes forms e None (borrow w true) (mutable (w ∷ [])) e
    t_box : {forms : Forms} {e e1 : Env} {o : Option Kind} {r : Run} {x : Owned} → RunTypes forms e o r (own x) e1 → RunTypes forms e o (box_r r) (own (box x)) e1
    t_left : {forms : Forms} {e e1 e2 : Env} {o : Option Kind} {f : Op} {a b : Run} → now a ≡ going → RunTypes forms e o a (own int) e1 → RunTypes forms e1 None b (own int) e2 → RunTypes forms e o (arith f a b) (own int) e2
    t_right : {forms : Forms} {e e2 : Env} {o : Option Kind} {f : Op} {a b : Run} → IsNumber (now a) → RunTypes forms e o b (own int) e2 → RunTypes forms e o (arith f a b) (own int) e2
    t_let : {forms : Forms} {e e1 : Env} {o : Option Kind} {r : Run} {k : Kind} (name : Option Text) → RunTypes forms e o r k e1 → RunTypes forms e o (bind r) (own unit) (record { name = name; part = whole k } ∷ e1)
    t_print : {forms : Forms} {e e1 : Env} {o : Option Kind} {r : Run} → RunTypes forms e o r (own int) e1 → RunTypes forms e o (print r) (own unit) e1
    t_assign : {forms : Forms} {e e1 e2 : Env} {o : Option Kind} {w : Lval} {r : Run} {k : Kind} → RunTypes forms e o r k e1 → Assigns e1 w k e2 → RunTypes forms e o (assign w r) (own unit) e2
    t_block : {forms : Forms} {e e1 e2 : Env} {o : Option Kind} {n : ℕ} {is : Parts} {k : Kind} → PartsTypes forms e o is k e1 → Falls n e1 e2 → AreBelow (length e2) (kind_places k) → RunTypes forms e o (block n is) k e2
    -- a new thread has the captures as slots, and drops them at its end
    t_spawn : {e e2 n : Env} {cs : List Capture} {r : Run} {x : Owned} → RunCaptures e [] cs e2 n → RunTypes threads n None r (own x) [] → RunTypes threads e None (spawn cs r) (own (task x)) e2
    t_join : {e e1 : Env} {o : Option Kind} {r : Run} {x : Owned} → RunTypes threads e o r (own (task x)) e1 → RunTypes threads e o (join_r r) (own x) e1

  pub data PartsTypes : Forms → Env → Option Kind → Parts → Kind → Env → Type 0 where
    p_last : {forms : Forms} {e e1 : Env} {o : Option Kind} {r : Run} {k : Kind} → RunTypes forms e o r k e1 → PartsTypes forms e o (last r) k e1
    p_more : {forms : Forms} {e e1 e2 : Env} {o : Option Kind} {r : Run} {is : Parts} {k l : Kind} → RunTypes forms e o r k e1 → PartsTypes forms e1 None is l e2 → PartsTypes forms e o (more r is) l e2

-- THE TEMPORARY VALUE

abbrev pub first_of : Option Value → Option Value → Option Value
first_of None b = b
first_of (Some v) b = Some v

abbrev mutual
  -- the temporary value in a running term; a left operand's counts as long as it goes on
  pub held : Run → Option Value
  held (temp v) = Some v
  held unit_c = None
  held (number n) = None
  held (read w take) = None
  held (borrow w is_mut) = None
  held (box_r r) = held r
  held (arith f a b) = by_now (now a) (held a) (λ v. held b) (λ v. held b)
  held (bind r) = held r
  held (print r) = held r
  held (assign w r) = held r
  held (block n is) = held_in is
  held (spawn cs r) = None
  held (join_r r) = held r
  held (mutex_r r) = held r
  held (dup w) = None
  held (lock w r) = None
  held (locked r) = held r
  held (par cs a ds b) = None
  held par_end = None

  pub held_in : Parts → Option Value
  held_in (last r) = held r
  held_in (more r is) = first_of (held r) (held_in is)

-- ACTS

-- an operand: the temporary value, or a constant
pub data Operand : Option Kind → Option Value → Value → Kind → Type 0 where
  o_temp : {k : Kind} {v : Value} → Operand (Some k) (Some v) v k
  o_unit : Operand None None unit_value (own unit)
  o_int : {n : ℤ} → Operand None None (Own (plain.Int n)) (own int)

-- an act from e, where the temporary value is given with its type, leaves a temporary value of that type and the environment
pub data ActTypes : Env → Option Kind → Option Value → Act → Option Kind → Env → Type 0 where
  a_let : {e : Env} {o : Option Kind} {h : Option Value} {v : Value} {k : Kind} (name : Option Text) → Operand o h v k → ActTypes e o h (do_let v) None (record { name = name; part = whole k } ∷ e)
  a_copy : {e : Env} {w : Lval} {k : Kind} → Copies e w k → ActTypes e None None (do_read w false) (Some k) e
  a_move : {e e2 : Env} {w : Lval} {k : Kind} → Moves e w k e2 → ActTypes e None None (do_read w true) (Some k) e2
  a_borrow : {e : Env} {w : Lval} → Lends e w → ActTypes e None None (do_borrow w false) (Some (shared (w ∷ []))) e
  a_borrow_mut : {e : Env} {w : Lval} → LendsMut e w → ActTypes e None None (do_borrow w true) (Some (mutable (w ∷ []))) e
  a_assign : {e e2 : Env} {o : Option Kind} {h : Option Value} {w : Lval} {v : Value} {k : Kind} → Operand o h v k → Assigns e w k e2 → ActTypes e o h (do_assign w v) None e2
  a_box : {e : Env} {o : Option Kind} {h : Option Value} {v : Value} {x : Owned} → Operand o h v (own x) → ActTypes e o h (do_box v) (Some (own (box x))) e
  a_arith : {e : Env} {o : Option Kind} {h : Option Value} {f : Op} {v w : Value} → IsInt v → Operand o h w (own int) → ActTypes e o h (do_arith f v w) (Some (own int)) e
  a_print : {e : Env} {o : Option Kind} {h : Option Value} {v : Value} → Operand o h v (own int) → ActTypes e o h (do_print v) None e
  a_discard : {e : Env} {v : Value} {k : Kind} → ActTypes e (Some k) (Some v) (do_discard v) None e
  a_drop : {s : Slot} {e : Env} {o : Option Kind} {h : Option Value} → AreBelow (length e) (temp_places o) → ActTypes (s ∷ e) o h do_drop o e
  a_end : {o : Option Kind} {h : Option Value} {v : Value} {k : Kind} → Operand o h v k → ActTypes [] o h (do_end v) None []
  a_leave : {o : Option Kind} {h : Option Value} {v : Value} {k : Kind} → Operand o h v k → ActTypes [] o h (do_leave v) None []

-- the next act of a term: one that the thread does alone, or the start or the join of another thread
pub data NextTypes : Forms → Env → Option Kind → Option Value → Act → Option Kind → Env → Type 0 where
  n_own : {forms : Forms} {e e2 : Env} {o o2 : Option Kind} {h : Option Value} {a : Act} → ActTypes e o h a o2 e2 → NextTypes forms e o h a o2 e2
  n_spawn : {e e2 n : Env} {cs : List Capture} {r : Run} {x : Owned} → RunCaptures e [] cs e2 n → RunTypes threads n None r (own x) [] → NextTypes threads e None None (do_spawn cs r) (Some (own (task x))) e2
  n_join : {e : Env} {o : Option Kind} {h : Option Value} {v : Value} {x : Owned} → Operand o h v (own (task x)) → NextTypes threads e o h (do_join v) (Some (own x)) e

-- the temporary value after an act that left v: a dropped slot leaves it as it was
abbrev pub held_after : Act → Option Value → Value → Option Value
held_after (do_read w take) h v = Some v
held_after (do_borrow w is_mut) h v = Some v
held_after (do_box x) h v = Some v
held_after (do_arith f a b) h v = Some v
held_after do_drop h v = h
held_after (do_spawn cs r) h v = Some v
held_after (do_join x) h v = Some v
held_after _ h v = None
