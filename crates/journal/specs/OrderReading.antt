-- Reading a line of an order part by part (this project's rule): a value and the bytes behind it, or none.
use Rattle.std.specs.Prelude.{◌≡◌, ℕ, ◌+◌, ◌*◌, ◌-◌, ◌^◌, nat_le, Bool, true, false, not, ◌&&◌, ◌==◌, List, [], ◌∷◌, take, drop, fold, Option, Some, None, if◌then◌else◌, codes}
use Rattle.std.specs.List.{prefix_len}
use Rattle.std.specs.Char.{is_ascii_digit}
use Rattle.fr_base.specs.Numbers.{number_value}
use Rattle.fr_base.specs.declared.name.MutexNo.{MutexNo}
use Rattle.fr_base.specs.declared.step.Fresh.{Fresh}
use Rattle.fr_base.specs.declared.step.Fresh.TheVariants as fresh
use Rattle.journal.specs.declared.order.OrderLine.{OrderLine}

-- a function answered what reading gives
abbrev pub Gives : {X Y : Type 0} → (X → Y) → Option X → Option Y → Type 0
Gives view None read = read ≡ None
Gives view (Some x) read = read ≡ Some (view x)

infixl 10 ◌>>=◌
abbrev pub ◌>>=◌ : {A B : Type 0} → Option A → (A → Option B) → Option B
None >>= f = None
(Some x) >>= f = f x

abbrev pub Read : Type 0 → Type 0
Read X = Option (X × List ℕ)

-- some digits without a zero in front
abbrev pub is_plain : List ℕ → Bool
is_plain [] = false
is_plain (d ∷ []) = true
is_plain (d ∷ e ∷ ds) = not (d == 48)

-- the digits in front, as a number up to the limit
unfoldable pub number_at : ℕ → List ℕ → Read ℕ
number_at limit bytes =
    let digits = prefix_len is_ascii_digit bytes in
    if is_plain (take digits bytes) && nat_le (number_value (take digits bytes)) limit then Some (number_value (take digits bytes), drop digits bytes) else None

-- the bytes behind a text
unfoldable pub behind : List ℕ → List ℕ → Option (List ℕ)
behind [] bytes = Some bytes
behind (t ∷ ts) [] = None
behind (t ∷ ts) (b ∷ bytes) = if b == t then behind ts bytes else None

-- a server and a count
unfoldable pub name_at : List ℕ → Read (ℕ × ℕ)
name_at bytes = do
  server ← number_at 255 bytes
  rest ← behind (codes ".") server.1
  count ← number_at 4294967295 rest
  Some ((server.0, count.0), count.1)

unfoldable pub thread_at : List ℕ → Read ℕ
thread_at bytes = do
  name ← name_at bytes
  Some (name.0.0 * 2 ^ 32 + name.0.1, name.1)

unfoldable pub mutex_at : List ℕ → Read MutexNo
mutex_at bytes = do
  name ← name_at bytes
  Some (record { home = name.0.0; count = name.0.1 }, name.1)

-- how many steps take no name
unfoldable pub numbered_at : List ℕ → Read (ℕ × Fresh)
numbered_at bytes = do
  steps ← number_at 1000000000 bytes
  if nat_le 1 steps.0 then Some ((steps.0, fresh.None), steps.1) else None

-- the names that one step takes, behind their word
unfoldable pub one_thread_at : List ℕ → Read (ℕ × Fresh)
one_thread_at bytes = do
  t ← thread_at bytes
  Some ((1, fresh.Thread t.0), t.1)

unfoldable pub two_threads_at : List ℕ → Read (ℕ × Fresh)
two_threads_at bytes = do
  t ← thread_at bytes
  rest ← behind (codes " ") t.1
  u ← thread_at rest
  Some ((1, fresh.Threads t.0 u.0), u.1)

unfoldable pub one_mutex_at : List ℕ → Read (ℕ × Fresh)
one_mutex_at bytes = do
  m ← mutex_at bytes
  Some ((1, fresh.Mutex m.0), m.1)

-- what stands behind a word, where the word is there, or else something else
abbrev pub by_word : {B : Type 0} → Option (List ℕ) → (List ℕ → Option B) → Option B → Option B
by_word None read other = other
by_word (Some rest) read other = read rest

-- the steps, or the names that one step takes
unfoldable pub steps_at : List ℕ → Read (ℕ × Fresh)
steps_at bytes =
    by_word (behind (codes "thread ") bytes) one_thread_at
    (by_word (behind (codes "threads ") bytes) two_threads_at
    (by_word (behind (codes "mutex ") bytes) one_mutex_at (numbered_at bytes)))

-- the line in front, which starts at this place
unfoldable pub line_at : ℕ → List ℕ → Read OrderLine
line_at place bytes = do
  thread ← thread_at bytes
  rest ← behind (codes " ") thread.1
  steps ← steps_at rest
  after ← behind (codes "\n") steps.1
  Some (record { place = place; thread = thread.0; steps = steps.0.0; fresh = steps.0.1 }, after)
