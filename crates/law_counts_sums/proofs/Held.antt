-- Where the result of a thread stands and what is owed of it, as the code tells it: a gift stands for the task that is the operand of its join.
use Rattle.std.proofs.Common.{◌≡◌, ℕ, ◌+◌, ◌==◌, ◌&&◌, List, [], ◌∷◌, Option, Some, None, refl, ap, ap₂, ◌∙◌, arith}
use Rattle.std.specs.Prelude.{slice_get, is_some}
use Rattle.coherent_memory.specs.Below.fr_base.declared.instruction.Instr.{Instr}
use Rattle.coherent_memory.specs.Below.fr_base.declared.instruction.Instr.TheVariants as instr
use Rattle.coherent_memory.specs.Below.thread_state.View.{ThreadState}
use Rattle.coherent_memory.specs.Names.{tot, one, if_so}
use Rattle.coherent_memory.specs.Things.{Thing, sent, stands, noted}
use Rattle.coherent_memory.specs.Sight.{Sight}
use Rattle.coherent_memory.specs.Paths.{popped, task_in, joined_thread}
use Rattle.coherent_memory.specs.Requests.{is_task}
use Rattle.coherent_memory.specs.Sharing.{finished_of, joined_of, owes, owed, kept_note, got_phase, results}

-- the result of thread t is the gift of this one
abbrev pub holds_result : List Instr → ℕ → ThreadState → ℕ
holds_result code t x = if_so (is_some x.gift) (one (is_task t (joined_thread (slice_get code x.pc) x)))

abbrev pub result_of : List Instr → ℕ → Thing → ℕ
result_of code t (noted r x) = if_so (x.thread == t) (kept_note x.state)
result_of code t (sent r m) = finished_of t m + joined_of t m
result_of code t (stands r p x) = got_phase t x.phase + holds_result code t x
result_of code t x = 0

-- these are the places of results
is_result : (s : Sight) (t : ℕ) (x : Thing) → results s t x ≡ result_of s.code t x
is_result s t (noted r x) = refl
is_result s t (sent r m) = refl
is_result s t (stands r p x) = refl
is_result s t _ = refl

pub all_results : (s : Sight) (t : ℕ) (b : List Thing) → tot (results s t) b ≡ tot (result_of s.code t) b
all_results s t [] = refl
all_results s t (x ∷ b) = omega (arith, is_result s t x, all_results s t b)

-- what is owed to a task value of the thread
abbrev pub owed_of : List Instr → ℕ → Thing → ℕ
owed_of code t (noted r x) = one (x.thread == t && owes x.state)
owed_of code t (sent r m) = joined_of t m
owed_of code t (stands r p x) = holds_result code t x
owed_of code t x = 0

is_owed : (s : Sight) (t : ℕ) (x : Thing) → owed s t x ≡ owed_of s.code t x
is_owed s t (noted r x) = refl
is_owed s t (sent r m) = refl
is_owed s t (stands r p x) = refl
is_owed s t _ = refl

pub all_owed : (s : Sight) (t : ℕ) (b : List Thing) → tot (owed s t) b ≡ tot (owed_of s.code t) b
all_owed s t [] = refl
all_owed s t (x ∷ b) = omega (arith, is_owed s t x, all_owed s t b)

-- it is told by the gift, the instruction and the temporary values
pub same_joined : (i : Option Instr) (x y : ThreadState) → x.temps ≡ y.temps → joined_thread i x ≡ joined_thread i y
same_joined (Some (instr.Join o)) x y e = ap (λ ts. task_in (popped o ts)) e
same_joined _ x y e = refl

pub same_held : (code : List Instr) (t : ℕ) (x y : ThreadState) → x.gift ≡ y.gift → x.pc ≡ y.pc → x.temps ≡ y.temps → holds_result code t x ≡ holds_result code t y
same_held code t x y g c e =
    ap₂ (λ i j. if_so (is_some i) (one (is_task t (joined_thread (slice_get code j) x)))) g c ∙ ap (λ o. if_so (is_some y.gift) (one (is_task t o))) (same_joined (slice_get code y.pc) x y e)

-- a thread without a gift has none
pub bare_held : (code : List Instr) (t : ℕ) (x : ThreadState) → x.gift ≡ None → holds_result code t x ≡ 0
bare_held code t x e = ap (λ g. if_so (is_some g) (one (is_task t (joined_thread (slice_get code x.pc) x)))) e
