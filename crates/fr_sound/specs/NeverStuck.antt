-- No thread of a typed program is ever stuck (Featherweight Rust's progress and preservation), for the forms of
-- one thread.
use Rattle.std.specs.Prelude.{◌≡◌, ◌⊎◌, ℕ, [], ◌∷◌, Option, Some, None}
use Rattle.fr_plain.specs.Below.fr_base.declared.step.Fresh.TheVariants as fresh
use Rattle.fr_plain.specs.Below.fr_terms.Terms.{block_t, Items}
use Rattle.fr_plain.specs.Below.fr_typing.Sequential.{IsSequential}
use Rattle.fr_plain.specs.Below.fr_typing.Kinds.{Kind}
use Rattle.fr_plain.specs.Below.fr_typing.Places.{Env}
use Rattle.fr_plain.specs.Below.fr_typing.Typing.{Types}
use Rattle.fr_plain.specs.State.{State}
use Rattle.fr_plain.specs.Run.{Run, Life, alive, over, owing, loose, ended}
use Rattle.fr_plain.specs.Whole.{Thread, Whole, Stepped, state_of, step, start}
use Rattle.fr_plain.specs.Resolve.{program}
use Rattle.fr_sound.specs.RunTypes.{one_thread, RunTypes, held}
use Rattle.fr_sound.specs.Seen.{lone, Holds}

-- a term in progress over a typed state: it will end with no slot left
pub record IsAlive (r : Run) (st : State) : Type 0 where
  pub env : Env
  pub temp : Option Kind
  pub type : Kind
  pub types : RunTypes one_thread env temp r type []
  pub holds : Holds lone env temp (held r) st

-- a thread that has ended has no slot and no temporary value; the only thread is the main one, whose result nobody has
abbrev pub IsTypedLife : Life → State → Type 0
IsTypedLife (alive r) st = IsAlive r st
IsTypedLife over st = Holds lone [] None None st
IsTypedLife (owing r) st = ⊥
IsTypedLife (loose r) st = ⊥
IsTypedLife (ended v) st = ⊥

-- the one thread is typed over the heap
pub record IsTyped (s : Whole) : Type 0 where
  pub thread : Thread
  pub only : s.threads ≡ thread ∷ []
  pub neither : (s.mutexes ≡ []) × (s.pairs ≡ [])
  pub life : IsTypedLife thread.life (state_of s thread)

-- a typed state after a step of that thread
pub record Steps (s : Whole) (t : ℕ) : Type 0 where
  pub next : Stepped
  pub is : step s t fresh.None ≡ Some next
  pub typed : IsTyped next.state

-- the thread has ended, or it steps, to a typed state
abbrev pub NeverStuck : Type 0
NeverStuck = (s : Whole) (typed : IsTyped s) → (typed.thread.life ≡ over) ⊎ Steps s typed.thread.number

-- a program of such forms that typing types starts typed
abbrev pub StartsTyped : Type 0
StartsTyped = (at : ℕ) (items : Items) (k : Kind) (e : Env) → IsSequential (block_t at items) → Types [] (block_t at items) k e → IsTyped (start (program (block_t at items)))
