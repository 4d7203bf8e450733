-- Each instruction's step that is done is the plain step, so each event is one plain step or leaves the one heap.
use Rattle.std.proofs.Common.{◌≡◌, ℕ, true, false, length, Option, Some, None, option_map, refl, sym, ◌∙◌}
use Rattle.std.specs.Prelude.{slice_get}
use Rattle.law_heap_writes.specs.Below.fr_base.declared.step.Fresh.{Fresh}
use Rattle.law_heap_writes.specs.Below.fr_base.declared.instruction.Instr.{Instr}
use Rattle.law_heap_writes.specs.Below.fr_base.declared.instruction.Instr.TheVariants as instr
use Rattle.law_heap_writes.specs.Below.fr_plain.PlainState.{SameState}
use Rattle.law_heap_writes.specs.Below.journal.View.{EntryView}
use Rattle.law_heap_writes.specs.Below.thread_state.View.{ThreadState}
use Rattle.law_heap_writes.specs.Below.server_model.declared.event.Event.{Event}
use Rattle.law_heap_writes.specs.Below.server_model.declared.event.What.{What}
use Rattle.law_heap_writes.specs.Below.server_model.declared.event.What.TheVariants.{Step, Deliver, Evict, Migrate}
use Rattle.law_heap_writes.specs.Below.server_model.Servers.{Server, Cluster, server_at}
use Rattle.law_heap_writes.specs.Below.server_model.Work.{then_some, thread_in}
use Rattle.law_heap_writes.specs.Below.server_model.Events.{enabled, begin_work, deliver, left_by, stepped, step, step_in, does}
use Rattle.law_heap_writes.specs.Below.server_model.Clusters.{hand_over_newer, done_at, apply}
use Rattle.law_heap_writes.specs.Below.coherent_memory.OneHeap.{one_heap}
use Rattle.law_heap_writes.specs.Below.coherent_types.ClusterTypes.{IsCoherent}
use Rattle.law_heap_writes.specs.Below.law_counts_sums.Laws.{Gives}
use Rattle.law_heap_writes.proofs.Below.law_counts_sums.Results.{over_gives, test_gives, map_gives, both_give}
use Rattle.law_heap_writes.specs.Below.law_heap_steps.turns.Turns.{IsPlainStep, ArePlainSteps, instr_at, instr_of}
use Rattle.law_heap_writes.proofs.Below.law_heap_steps.turns.Clauses as turns
use Rattle.law_heap_writes.proofs.Below.law_heap_still.undone.Undone.{each_undone}
use Rattle.law_heap_writes.proofs.Below.law_heap_steps.mutexes.Clauses as locks
use Rattle.law_heap_writes.proofs.Below.law_heap_steps.threads.JoinLines.{joins}
use Rattle.law_heap_writes.proofs.Below.law_heap_steps.threads.PairLines.{pair_ends}
use Rattle.law_heap_writes.proofs.Below.law_heap_steps.threads.ParLines.{pars}
use Rattle.law_heap_writes.proofs.Below.law_heap_steps.threads.SpawnLines.{spawns}
use Rattle.law_heap_writes.proofs.drops.Clauses as drops
use Rattle.law_heap_writes.proofs.drops.UnlockWhole.{unlocks_plain}
use Rattle.law_heap_writes.proofs.drops.EndWhole.{ends_plain}
use Rattle.law_heap_writes.specs.writes.Every.{each_instruction, IsStepOrStill, EachIsStepOrStill}
use Rattle.law_heap_writes.proofs.writes.Clauses.{moves_plain, assigns_plain}

pub every_plain : ArePlainSteps IsCoherent each_instruction
every_plain k e i q it co few = by i q
  where
    by : (i : Instr) → instr_of k e ≡ Some i → Gives (IsPlainStep k) (apply k e)
    by (instr.Let o) q = turns.lets k e (instr.Let o) q refl co.sound few
    by (instr.Assign w o) q = assigns_plain k e (instr.Assign w o) q refl co few
    by (instr.Read w true) q = moves_plain k e (instr.Read w true) q refl co few
    by (instr.Read w false) q = turns.copies k e (instr.Read w false) q refl co few
    by (instr.Borrow w) q = turns.shared k e (instr.Borrow w) q refl co few
    by (instr.BorrowMut w) q = turns.lent k e (instr.BorrowMut w) q refl co few
    by (instr.Box o) q = locks.boxes k e (instr.Box o) q refl co few
    by (instr.Arith f a b) q = turns.sums k e (instr.Arith f a b) q refl co.sound few
    by (instr.Print o) q = turns.prints k e (instr.Print o) q refl co.sound few
    by instr.Discard q = drops.discards k e instr.Discard q refl co.sound few
    by instr.DropSlot q = drops.drops k e instr.DropSlot q refl co.sound few
    by (instr.Spawn cs body) q = spawns k e (instr.Spawn cs body) q refl co.sound few
    by (instr.Join o) q = joins k e (instr.Join o) q refl co.sound few
    by (instr.Mutex o) q = locks.news k e (instr.Mutex o) q refl co.sound few
    by (instr.Dup w) q = locks.dups k e (instr.Dup w) q refl co few
    by (instr.Lock w) q = locks.locks k e (instr.Lock w) q refl co few
    by instr.Unlock q = unlocks_plain k e instr.Unlock q refl co few
    by (instr.Par cs body ds other) q = pars k e (instr.Par cs body ds other) q refl co.sound few
    by instr.ParEnd q = pair_ends k e instr.ParEnd q refl co.sound few
    by (instr.End o) q = ends_plain k e (instr.End o) q refl co few

-- an entry with a `done` has a thread, and the event's instruction
module _ (k : Cluster) (e : Event) where
  abbrev Told : Option Instr → EntryView → Type 0
  Told o x = (names : Fresh) → x.done ≡ Some names → ((t : ℕ) × (x.thread ≡ Some t)) × ((i : Instr) × (o ≡ Some i))

  abbrev At : Option Instr → Server × EntryView → Type 0
  At o x = Told o x.1

  steps_told : (s : Server) (t : ℕ) → Gives (At (instr_at k (Step t) s)) (does k.code k.options s (Step t))
  steps_told s t = of_thread (thread_in s.threads t)
    where
      of_thread : (o : Option ThreadState) → Gives (At (then_some o (λ x. slice_get k.code x.pc))) (option_map (stepped s) (then_some (option_map (λ x. record { work = begin_work s.rest; thread = x }) o) (step_in k.code k.options.servers)))
      of_thread None = tt
      of_thread (Some x) = of_instr (slice_get k.code x.pc)
        where
          of_instr : (o : Option Instr) → Gives (At o) (option_map (stepped s) (then_some o (λ i. step k.options.servers i (record { work = begin_work s.rest; thread = x }))))
          of_instr None = tt
          of_instr (Some i) = map_gives (At (Some i)) (step k.options.servers i (record { work = begin_work s.rest; thread = x })) (stepped s) (λ d f names done. ((d.hand.thread.number, refl), (i, refl)))

  none_told : (o : Option Instr) (x : Server × EntryView) → x.1.done ≡ None → At o x
  none_told o x f names done = let z : None ≡ Some names = sym f ∙ done in absurd (cc z)

  does_told : (s : Server) (w : What) → Gives (At (instr_at k w s)) (does k.code k.options s w)
  does_told s (Step t) = steps_told s t
  does_told s (Deliver i) = map_gives (At None) (deliver k.code i s) (left_by s.events None None) (λ x f. none_told None (left_by s.events None None x) refl)
  does_told s (Evict c) = map_gives (At None) _ (left_by s.events None None) (λ x f. none_told None (left_by s.events None None x) refl)
  does_told s (Migrate t target) = map_gives (At None) _ (left_by s.events (Some t) None) (λ x f. none_told None (left_by s.events (Some t) None x) refl)

  abbrev handed : Server → Server × EntryView → Cluster × EntryView
  handed s d = (record k { servers = hand_over_newer e.server (length s.rest.outbox) d.0 k.servers }, d.1)

  abbrev On : Option Instr → Cluster × EntryView → Type 0
  On o d = Told o d.1

  of_server : (s : Server) → Gives (On (instr_at k e.what s)) (option_map (handed s) (done_at k e.what s))
  of_server s =
      over_gives (At (instr_at k e.what s)) (On (instr_at k e.what s)) (done_at k e.what s) (handed s)
      (test_gives (At (instr_at k e.what s)) (enabled k.options s e.what) (does k.code k.options s e.what) (λ on. does_told s e.what)) (λ x told. told)

  entry_told : Gives (On (instr_of k e)) (apply k e)
  entry_told = by (server_at k.servers e.server)
    where
      by : (o : Option Server) → Gives (On (then_some o (instr_at k e.what))) (then_some o (λ s. option_map (handed s) (done_at k e.what s)))
      by None = tt
      by (Some s) = of_server s

-- where each instruction's step is a plain one, so is each event with a `done`
pub each_is : EachIsStepOrStill
each_is k e co few = by (instr_of k e) refl
  where
    by : (o : Option Instr) → instr_of k e ≡ o → Gives (IsStepOrStill k) (apply k e)
    by None f =
        both_give (λ (d : Cluster × EntryView). Told k e (instr_of k e) d.1) (λ (d : Cluster × EntryView). d.1.done ≡ None → SameState (one_heap d.0) (one_heap k)) (IsStepOrStill k) (apply k e) (entry_told k e) (each_undone k e co few)
        (λ d told still. record { steps = λ names done. (let i = (told names done).1 in let z : None ≡ Some i.0 = sym f ∙ i.1 in absurd (cc z)); stays = still })
    by (Some i) f =
        both_give (λ (d : Cluster × EntryView). Told k e (instr_of k e) d.1 × IsPlainStep k d) (λ (d : Cluster × EntryView). d.1.done ≡ None → SameState (one_heap d.0) (one_heap k)) (IsStepOrStill k) (apply k e)
        (both_give (λ (d : Cluster × EntryView). Told k e (instr_of k e) d.1) (IsPlainStep k) (λ (d : Cluster × EntryView). Told k e (instr_of k e) d.1 × IsPlainStep k d) (apply k e) (entry_told k e) (every_plain k e i f refl co few) (λ d a b. (a, b)))
        (each_undone k e co few)
        (λ d both still. record { steps = λ names done. (let t = (both.0 names done).0 in (t.0, t.1, both.1 t.0 names t.1 done)); stays = still })
