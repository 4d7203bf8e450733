-- The text of an order, which says what threads take which steps (this project's rule).
use Rattle.std.specs.Prelude.{◌≡◌, ◌≢◌, ℕ, ◌+◌, ◌/◌, ◌%◌, ◌^◌, ◌<◌, ◌≤◌, List, [], ◌∷◌, ◌++◌, length, codes, replicate, ◌==◌, if◌then◌else◌, ⊤}
use Rattle.std.specs.Fmt.{decimal}
use Rattle.std.specs.List.{flat_map, AllByRecursion}
use Rattle.fr_base.specs.declared.name.MutexNo.{MutexNo}
use Rattle.fr_base.specs.declared.step.Fresh.{Fresh}
use Rattle.fr_base.specs.declared.step.Fresh.TheVariants.{None, Thread, Threads, Mutex}
use Rattle.journal.specs.declared.order.OrderLine.{OrderLine}

-- a thread or a mutex is written as its server and its count there, as in `3.17`
abbrev pub name_text : ℕ → ℕ → List ℕ
name_text server count = decimal server ++ codes "." ++ decimal count

abbrev pub thread_text : ℕ → List ℕ
thread_text thread = name_text (thread / 2 ^ 32) (thread % 2 ^ 32)

abbrev pub mutex_text : MutexNo → List ℕ
mutex_text m = name_text m.home m.count

-- a text was to get more bytes, and got the first of them, or none
pub record IsBegun (old more new : List ℕ) : Type 0 where
  pub front : List ℕ
  pub rest : List ℕ
  pub whole : more ≡ front ++ rest
  pub text : new ≡ old ++ front

-- how many steps take no name, or the names that one step takes
abbrev pub steps_text : ℕ → Fresh → List ℕ
steps_text steps None = decimal steps
steps_text steps (Thread t) = codes "thread " ++ thread_text t
steps_text steps (Threads t u) = codes "threads " ++ thread_text t ++ codes " " ++ thread_text u
steps_text steps (Mutex m) = codes "mutex " ++ mutex_text m

-- a line's text: the thread, a space, its steps and a newline
abbrev pub spell : OrderLine → List ℕ
spell l = thread_text l.thread ++ codes " " ++ steps_text l.steps l.fresh ++ codes "\n"

-- one to a billion steps that take no name, or one step that takes names
abbrev pub AreSteps : ℕ → Fresh → Type 0
AreSteps steps None = (1 ≤ steps) × (steps ≤ 1000000000)
AreSteps steps (Thread t) = (steps ≡ 1) × (t < 2 ^ 40)
AreSteps steps (Threads t u) = (steps ≡ 1) × (t < 2 ^ 40) × (u < 2 ^ 40)
AreSteps steps (Mutex m) = (steps ≡ 1) × (m.home < 2 ^ 8) × (m.count < 2 ^ 32)

-- what a line can say
abbrev pub IsLine : OrderLine → Type 0
IsLine l = (l.thread < 2 ^ 40) × AreSteps l.steps l.fresh

-- each line starts where the text of the one before it ends, the first at this place
abbrev pub ArePlaced : ℕ → List OrderLine → Type 0
ArePlaced place [] = ⊤
ArePlaced place (l ∷ ls) = (l.place ≡ place) × ArePlaced (place + length (spell l)) ls

-- the bytes from this place on are the texts of these lines, one after another, and then the rest
pub record Leads (place : ℕ) (bytes : List ℕ) (ls : List OrderLine) (rest : List ℕ) : Type 0 where
  pub lines : AllByRecursion IsLine ls
  pub places : ArePlaced place ls
  pub text : bytes ≡ flat_map spell ls ++ rest

-- the bytes from this place on are the texts of these lines and nothing else
abbrev pub IsOrder : ℕ → List ℕ → List OrderLine → Type 0
IsOrder place bytes ls = Leads place bytes ls []

-- the text of no line begins these bytes
abbrev pub BeginsNoLine : List ℕ → Type 0
BeginsNoLine bytes = (l : OrderLine) (after : List ℕ) → IsLine l → bytes ≢ spell l ++ after

-- from this place on, some lines come first; behind their texts, at the fault, there are bytes that no line's text begins
pub record IsRefused (place : ℕ) (bytes : List ℕ) (fault : ℕ) : Type 0 where
  pub front : List OrderLine
  pub rest : List ℕ
  pub leads : Leads place bytes front rest
  pub at : fault ≡ place + length (flat_map spell front)
  pub some : rest ≢ []
  pub bad : BeginsNoLine rest

-- the steps that a line spells: of which thread, and with which new names
abbrev pub steps_of_line : OrderLine → List (ℕ × Fresh)
steps_of_line l = replicate l.steps (l.thread, l.fresh)

-- and those of a list of lines, in order
abbrev pub steps_of : List OrderLine → List (ℕ × Fresh)
steps_of ls = flat_map steps_of_line ls

-- the first line of some bytes: up to its newline, or to the end
abbrev pub first_line : List ℕ → List ℕ
first_line [] = []
first_line (b ∷ bytes) = if b == 10 then b ∷ [] else b ∷ first_line bytes

-- their first line isn't the text of any
abbrev pub FirstIsNoLine : List ℕ → Type 0
FirstIsNoLine bytes = (l : OrderLine) → IsLine l → first_line bytes ≢ spell l
