-- The running term of a form (this project's rule): a form names lower ones, and its term is made of theirs.
use Rattle.std.specs.Prelude.{◌≡◌, ℕ, ◌-◌, ◌<◌, ◌==◌, ⊤, List, [], ◌∷◌, length, slice_index_or, if◌then◌else◌}
use Rattle.fr_base.specs.declared.place.Lval.{Lval}
use Rattle.fr_syntax.specs.Meanings.{AllBelow}
use Rattle.fr_plain.specs.Run.{Capture, Run, unit_c, number, read, borrow, box_r, arith, bind, print, assign, block, spawn, join_r, mutex_r, dup, lock, par, Parts, last, more}
use Rattle.fr_plain.specs.Resolve.{dropping}
use Rattle.fr_forms.specs.declared.forms.Body.{Body}
use Rattle.fr_forms.specs.declared.forms.Captured.{Captured}
use Rattle.fr_forms.specs.declared.forms.Form.{Form}
use Rattle.fr_forms.specs.declared.forms.Form.TheVariants as form
use Rattle.fr_acts.specs.SlotOrder.{newest_first}

-- an item, and those after it
abbrev pub parts_from : (ℕ → Run) → ℕ → List ℕ → Parts
parts_from look i [] = last (look i)
parts_from look i (j ∷ is) = more (look i) (parts_from look j is)

-- the items of a block; an empty one ends as the constant unit
abbrev pub parts_of : (ℕ → Run) → List ℕ → Parts
parts_of look [] = last unit_c
parts_of look (i ∷ is) = parts_from look i is

-- the slots that a new thread captures
abbrev pub captures_of : List Captured → List Capture
captures_of [] = []
captures_of (c ∷ cs) = record { slot = c.slot; take = c.take } ∷ captures_of cs

-- the term of a new thread of a pair, which drops its slots at its end
abbrev pub body_run : (ℕ → Run) → Body → Run
body_run look b = block b.drops (last (look b.term))

-- a form's term, from those of the forms below it; nobody enters a place
abbrev pub build : (ℕ → Run) → Form → Run
build look (form.Number n) = number n
build look form.Unit = unit_c
build look (form.Read w take) = read w take
build look (form.Borrow w is_mut) = borrow w is_mut
build look (form.Box value) = box_r (look value)
build look (form.Let value) = bind (look value)
build look (form.Print value) = print (look value)
build look (form.Join value) = join_r (look value)
build look (form.Spawn captures body drops) = spawn (captures_of captures.items) (block drops (last (look body)))
build look (form.Assign w value) = assign w (look value)
build look (form.Arith f left right) = arith f (look left) (look right)
build look (form.Block items lets) = block lets (parts_of look items.items)
build look (form.Mutex value) = mutex_r (look value)
build look (form.Dup w) = dup w
build look (form.Lock w body drops) = lock w (dropping drops (look body))
build look (form.Par ours theirs) = par (captures_of ours.value.captures.items) (body_run look ours.value) (captures_of theirs.value.captures.items) (body_run look theirs.value)
build look form.Place = unit_c

-- the term of a form's number, where the last form comes first
abbrev pub run_at : List Form → ℕ → Run
run_at [] i = unit_c
run_at (f ∷ below) i = if i == length below then build (run_at below) f else run_at below i

-- the term of a form's number
abbrev pub term_of : List Form → ℕ → Run
term_of fs i = run_at (newest_first fs) i

-- the term of the last form
abbrev pub root_of : List Form → Run
root_of fs = term_of fs (length fs - 1)

abbrev pub NamesBelow : ℕ → Form → Type 0
NamesBelow n (form.Box value) = value < n
NamesBelow n (form.Let value) = value < n
NamesBelow n (form.Print value) = value < n
NamesBelow n (form.Join value) = value < n
NamesBelow n (form.Spawn captures body drops) = body < n
NamesBelow n (form.Assign w value) = value < n
NamesBelow n (form.Arith f left right) = (left < n) × (right < n)
NamesBelow n (form.Block items lets) = AllBelow n items.items
NamesBelow n (form.Mutex value) = value < n
NamesBelow n (form.Lock w body drops) = body < n
NamesBelow n (form.Par ours theirs) = (ours.value.term < n) × (theirs.value.term < n)
NamesBelow n _ = ⊤

-- each form names only forms below it, where the last form comes first
abbrev pub AreStacked : List Form → Type 0
AreStacked [] = ⊤
AreStacked (f ∷ below) = NamesBelow (length below) f × AreStacked below

-- each form names only forms before it
abbrev pub AreInOrder : List Form → Type 0
AreInOrder fs = AreStacked (newest_first fs)

-- the items of a block, and the body of a new thread; of another form, none
abbrev pub items_in : Form → List ℕ
items_in (form.Block items lets) = items.items
items_in (form.Spawn captures body drops) = body ∷ []
items_in _ = []

abbrev pub items_at : List Form → ℕ → List ℕ
items_at fs node = items_in (slice_index_or fs node form.Unit)

-- the form starts a thread
abbrev pub IsSpawn : Form → Type 0
IsSpawn (form.Spawn captures body drops) = ⊤
IsSpawn _ = ⊥

-- the form is a lock of the mutex at this place
abbrev pub IsLock : Lval → Form → Type 0
IsLock w (form.Lock x body drops) = w ≡ x
IsLock w _ = ⊥

-- the form starts two threads
abbrev pub IsPar : Form → Type 0
IsPar (form.Par ours theirs) = ⊤
IsPar _ = ⊥

-- the captured slots of the thread that the form starts
abbrev pub captures_in : Form → List Captured
captures_in (form.Spawn captures body drops) = captures.items
captures_in _ = []

abbrev pub captures_at : List Form → ℕ → List Captured
captures_at fs node = captures_in (slice_index_or fs node form.Unit)
