-- Two sights of one code with the same threads and cells: who owns what is the same in both, and so are contents, results and gifts.
use Rattle.std.proofs.Common.{◌≡◌, ℕ, ◌||◌, Bool, List, [], ◌∷◌, Option, Some, None, is_some, refl, ap, ap₂, ◌∙◌}
use Rattle.std.specs.Prelude.{slice_get}
use Rattle.law_words_writes.specs.Below.law_results_reads.Below.fr_base.declared.name.MutexNo.{MutexNo}
use Rattle.law_words_writes.specs.Below.law_results_reads.Below.fr_base.declared.instruction.Instr.{Instr}
use Rattle.law_words_writes.specs.Below.law_results_reads.Below.fr_base.declared.instruction.Instr.TheVariants as instr
use Rattle.law_words_writes.specs.Below.law_results_reads.Below.heap_partition.Plain.{plain_of}
use Rattle.law_words_writes.specs.Below.law_results_reads.Below.coherent_memory.Names.{one, some, if_so}
use Rattle.law_words_writes.specs.Below.law_results_reads.Below.coherent_memory.Things.{in_slot, in_temp, as_gift, as_content, as_result, in_hand, Thing, holds}
use Rattle.law_words_writes.specs.Below.law_results_reads.Below.coherent_memory.Follow.{Standing, thread_at, value_at}
use Rattle.law_words_writes.specs.Below.law_results_reads.Below.coherent_memory.Sight.{Sight}
use Rattle.law_words_writes.specs.Below.law_results_reads.Below.coherent_memory.Walking.{instr_of}
use Rattle.law_words_writes.specs.Below.law_results_reads.Below.coherent_memory.Paths.{joined_thread}
use Rattle.law_words_writes.specs.Below.law_results_reads.Below.coherent_memory.Requests.{mutex_of, locked_mutex, is_mutex, is_task}
use Rattle.law_words_writes.specs.Below.law_results_reads.Below.coherent_memory.OneHeap.{Node, content_owner, gift_owner, gift_owner_of, owner_of, names, named_in, any_named, if_in, is_gift_of, content_value, is_joined_by, result_value}

module _ (s s2 : Sight) (code : s.code ≡ s2.code) (ground : s.ground ≡ s2.ground) where
  instr_same : (w : Standing) → instr_of s w ≡ instr_of s2 w
  instr_same w = ap (λ c. slice_get c w.thread.pc) code

  locked_same : (w : Standing) (i : Option Instr) → locked_mutex s w i ≡ locked_mutex s2 w i
  locked_same w (Some (instr.Lock p)) = ap (λ g. mutex_of (value_at g w.thread.number p)) ground
  locked_same w _ = refl

  gift_owned : (w : Standing) (i : Option Instr) → gift_owner s w i ≡ gift_owner s2 w i
  gift_owned w (Some (instr.Lock p)) = ap content_owner (locked_same w (Some (instr.Lock p)))
  gift_owned w _ = refl

  gift_owner_same : (o : Option Standing) → gift_owner_of s o ≡ gift_owner_of s2 o
  gift_owner_same None = refl
  gift_owner_same (Some w) = ap (gift_owner s w) (instr_same w) ∙ gift_owned w (instr_of s2 w)

  is_gift_same : (m : MutexNo) (o : Option Standing) → is_gift_of s m o ≡ is_gift_of s2 m o
  is_gift_same m None = refl
  is_gift_same m (Some w) = ap (λ o. some (if_so (is_some w.thread.gift) (one (is_mutex m o)))) (ap (locked_mutex s w) (instr_same w) ∙ locked_same w (instr_of s2 w))

  is_joined_same : (u : ℕ) (o : Option Standing) → is_joined_by s u o ≡ is_joined_by s2 u o
  is_joined_same u None = refl
  is_joined_same u (Some w) = ap (λ i. some (if_so (is_some w.thread.gift) (one (is_task u (joined_thread i w.thread))))) (instr_same w)

  pub owner_same : (th : Thing) → owner_of s th ≡ owner_of s2 th
  owner_same (holds (as_gift u) v) = ap (λ g. gift_owner_of s (thread_at g.threads u)) ground ∙ gift_owner_same (thread_at s2.ground.threads u)
  owner_same (holds (in_slot u i) v) = refl
  owner_same (holds (in_temp u i) v) = refl
  owner_same (holds (as_content m) v) = refl
  owner_same (holds (as_result u) v) = refl
  owner_same (holds in_hand v) = refl
  owner_same _ = refl

  pub content_same : (m : MutexNo) (th : Thing) → content_value s m th ≡ content_value s2 m th
  content_same m (holds (as_gift u) v) = ap (λ q. if_in q (Some (plain_of v))) (ap (λ g. is_gift_of s m (thread_at g.threads u)) ground ∙ is_gift_same m (thread_at s2.ground.threads u))
  content_same m (holds (in_slot u i) v) = refl
  content_same m (holds (in_temp u i) v) = refl
  content_same m (holds (as_content w) v) = refl
  content_same m (holds (as_result u) v) = refl
  content_same m (holds in_hand v) = refl
  content_same m _ = refl

  pub result_same : (r : ℕ) (th : Thing) → result_value s r th ≡ result_value s2 r th
  result_same r (holds (as_gift u) v) = ap (λ q. if_in q (Some (plain_of v))) (ap (λ g. is_joined_by s r (thread_at g.threads u)) ground ∙ is_joined_same r (thread_at s2.ground.threads u))
  result_same r (holds (in_slot u i) v) = refl
  result_same r (holds (in_temp u i) v) = refl
  result_same r (holds (as_content w) v) = refl
  result_same r (holds (as_result u) v) = refl
  result_same r (holds in_hand v) = refl
  result_same r _ = refl

  -- what is named among things
  pub any_same : (f : Node → Bool) (q : Node) (xs : List Thing) → any_named s f q xs ≡ any_named s2 f q xs
  any_same f q [] = refl
  any_same f q (th ∷ xs) = ap₂ (λ o r. named_in (names q th) f o || r) (owner_same th) (any_same f q xs)
