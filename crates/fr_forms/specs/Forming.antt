-- The forms of a checked program's nodes (this project's rule): each names those of its parts, which stand before it.
use Rattle.std.specs.Prelude.{◌≡◌, ℕ, ◌+◌, ◌-◌, ◌<◌, ◌^◌, true, false, min, List, [], ◌∷◌, length, slice_index_or, unwrap_or}
use Rattle.fr_base.specs.declared.place.Lval.{Lval}
use Rattle.fr_syntax.specs.declared.tree.Term.{Term}
use Rattle.fr_syntax.specs.declared.tree.Term.TheVariants.{Block, Let, Assign, Read, Borrow, BorrowMut, Number, Unit, Box, Print, Join, Mutex, Dup, Lock, Arith, Spawn, Par}
use Rattle.fr_forms.specs.declared.forms.Captured.{Captured}
use Rattle.fr_forms.specs.declared.forms.Body.{Body}
use Rattle.fr_forms.specs.declared.forms.Form.{Form}
use Rattle.fr_forms.specs.declared.forms.Form.TheVariants as form
use Rattle.borrow_check.specs.Programs.{Program, lval_of, takes_of}

-- HOW MANY VARIABLES

abbrev pub count_at : List ℕ → ℕ → ℕ
count_at counts i = slice_index_or counts i 0

-- as far as a 32-bit number tells
abbrev pub clipped : ℕ → ℕ
clipped n = min n (2 ^ 32 - 1)

-- how many variables a form's term declares outside of the blocks in it, from those of the forms before it
abbrev pub count_of : List ℕ → Form → ℕ
count_of counts (form.Let value) = clipped (count_at counts value + 1)
count_of counts (form.Arith f left right) = clipped (count_at counts left + count_at counts right)
count_of counts (form.Assign w value) = count_at counts value
count_of counts (form.Box value) = count_at counts value
count_of counts (form.Print value) = count_at counts value
count_of counts (form.Join value) = count_at counts value
count_of counts (form.Mutex value) = count_at counts value
count_of counts _ = 0

abbrev pub count_all : List ℕ → List ℕ → ℕ
count_all counts [] = 0
count_all counts (i ∷ is) = count_at counts i + count_all counts is

-- the variables of these items, where a 32-bit number tells them
abbrev pub IsCount : List ℕ → List ℕ → ℕ → Type 0
IsCount counts items k = count_all counts items < 2 ^ 32 → k ≡ count_all counts items

-- FORMS

-- the place of a node of a place or of a captured name; of another node nobody asks
abbrev pub place_in : Program → ℕ → Lval
place_in p node = unwrap_or (lval_of p node) (record { slot = 0; depth = 0 })

-- the slot of a captured name's variable, and whether its value goes to the new thread
abbrev pub captured_in : Program → ℕ → Captured
captured_in p node = record { slot = (place_in p node).slot; take = takes_of p node }

-- the same of names in order
abbrev pub captured_all : Program → List ℕ → List Captured
captured_all p [] = []
captured_all p (i ∷ is) = captured_in p i ∷ captured_all p is

-- how many slots a new thread drops at its end: those of its captured names, and the variables of its body
abbrev pub drops_of : List ℕ → List ℕ → ℕ → ℕ
drops_of counts names body = clipped (length names + count_at counts body)

-- a block with these items and as many variables as they declare
abbrev pub IsBlockOf : List ℕ → List ℕ → Form → Type 0
IsBlockOf counts items (form.Block is k) = (is.items ≡ items) × IsCount counts items k
IsBlockOf counts items _ = ⊥

-- a new thread with these captured slots and this body, which drops so many slots at its end
abbrev pub IsSpawnOf : List Captured → ℕ → ℕ → Form → Type 0
IsSpawnOf captures body drops (form.Spawn cs b k) = (cs.items ≡ captures) × (b ≡ body) × (k ≡ drops)
IsSpawnOf captures body drops _ = ⊥

-- the same of a thread of a pair
pub record IsBodyOf (captures : List Captured) (term drops : ℕ) (b : Body) : Type 0 where
  pub captures_are : b.captures.items ≡ captures
  pub term_is : b.term ≡ term
  pub drops_are : b.drops ≡ drops

-- a pair of new threads
abbrev pub IsParOf : List Captured → ℕ → ℕ → List Captured → ℕ → ℕ → Form → Type 0
IsParOf cs v k ds w l (form.Par ours theirs) = IsBodyOf cs v k ours.value × IsBodyOf ds w l theirs.value
IsParOf cs v k ds w l _ = ⊥

-- the form of a node, from how many variables the terms before it declare
abbrev pub IsMade : Program → List ℕ → ℕ → Term → Form → Type 0
IsMade p counts at (Number n) f = f ≡ form.Number n
IsMade p counts at Unit f = f ≡ form.Unit
IsMade p counts at (Read from) f = f ≡ form.Read (place_in p from) (takes_of p at)
IsMade p counts at (Borrow of) f = f ≡ form.Borrow (place_in p of) false
IsMade p counts at (BorrowMut of) f = f ≡ form.Borrow (place_in p of) true
IsMade p counts at (Box value) f = f ≡ form.Box value
IsMade p counts at (Let name value) f = f ≡ form.Let value
IsMade p counts at (Print value) f = f ≡ form.Print value
IsMade p counts at (Join task) f = f ≡ form.Join task
IsMade p counts at (Mutex value) f = f ≡ form.Mutex value
IsMade p counts at (Dup of) f = f ≡ form.Dup (place_in p of)
IsMade p counts at (Lock of name body) f = f ≡ form.Lock (place_in p of) body (count_at counts body)
IsMade p counts at (Assign to value) f = f ≡ form.Assign (place_in p to) value
IsMade p counts at (Arith op left right) f = f ≡ form.Arith op left right
IsMade p counts at (Block items) f = IsBlockOf counts items.items f
IsMade p counts at (Spawn names body) f = IsSpawnOf (captured_all p names.items) body (drops_of counts names.items body) f
IsMade p counts at (Par names body others other) f =
    IsParOf (captured_all p names.value.items) body (drops_of counts names.value.items body) (captured_all p others.value.items) other (drops_of counts others.value.items other) f
IsMade p counts at _ f = f ≡ form.Place
