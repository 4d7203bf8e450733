-- What was explored of plain runs holds of each run on servers.
use Rattle.std.proofs.Common.{◌≡◌, false, List, [], ◌∷◌, Option, Some, None, refl, sym, ap, ◌∙◌, subst}
use Rattle.law_plain_table.specs.Below.fr_base.declared.instruction.Instr.{Instr}
use Rattle.law_plain_table.specs.Below.fr_base.declared.label.Label.{Label}
use Rattle.law_plain_table.specs.Below.fr_base.declared.step.Ending3.{Ending3}
use Rattle.law_plain_table.specs.Below.fr_base.declared.step.Ending3.TheVariants.{Finished, Deadlocked, Going}
use Rattle.law_plain_table.specs.Below.fr_terms.Terms.{block_t}
use Rattle.law_plain_table.specs.Below.fr_plain.Resolve.{program}
use Rattle.law_plain_table.specs.Below.fr_plain.Machine.{ending_of}
use Rattle.law_plain_table.specs.Below.fr_plain.MachineThreads.{Life}
use Rattle.law_plain_table.specs.Below.fr_plain.PlainState.{Running, SameState, plain_state}
use Rattle.law_plain_table.specs.Below.fr_plain.SamePlain.{IsListedOnce, OnceLed}
use Rattle.law_plain_table.specs.Below.fr_code.Steps.{Place, code_moves}
use Rattle.law_plain_table.specs.Below.fr_code.Machine.{CodeState, CodeStepped, code_run, code_start}
use Rattle.law_plain_table.specs.Below.fr_code.StandsFor.{IsCodeOf}
use Rattle.law_plain_table.specs.Below.fr_code.Laws.{OnceStaysInCode}
use Rattle.law_plain_table.specs.CodeOf.{code_of}
use Rattle.law_plain_table.specs.ProgramCodes.{ProgramsHaveCodes}
use Rattle.law_plain_names.specs.Explored.{goes_on, PastIn, IsEmpty, WaitsSo, mutexes_named, EndsSo, AllEndSo}
use Rattle.law_runs_whole.specs.Below.drive_model.Ending.{ending, is_going}
use Rattle.law_runs_whole.specs.waits.Locks.{DeadlocksAgree}
use Rattle.law_runs_whole.proofs.waits.Ends.{code_ends}
use Rattle.law_runs_whole.specs.Below.journal.View.{EntryView}
use Rattle.law_runs_whole.specs.Below.journal.Journals.{order, labels, prints}
use Rattle.law_runs_whole.specs.Below.server_model.declared.event.Event.{Event}
use Rattle.law_runs_whole.specs.Below.server_model.Servers.{Cluster, start_of}
use Rattle.law_runs_whole.specs.Below.server_model.Clusters.{apply}
use Rattle.law_runs_whole.specs.Below.coherent_memory.OneHeap.{one_heap}
use Rattle.law_runs_whole.specs.Below.law_counts_sums.Laws.{Gives}
use Rattle.law_runs_whole.proofs.Below.law_counts_sums.Results.{then_gives, over_gives, given_by, both_give}
use Rattle.law_runs_whole.specs.Below.code_meaning.OneHeap.{in_plain}
use Rattle.law_runs_whole.specs.Below.code_meaning.Laws.{HasPrinted}
use Rattle.law_runs_whole.specs.runs.Runs.{run_of}
use Rattle.law_runs_whole.proofs.runs.Counting.{same_code}
use Rattle.law_runs_whole.specs.programs.Programs.{Given, RunsRight, ProgramsRunRight}
use Rattle.law_runs_samples.specs.Rows.{Row, IsExplored}
use Rattle.law_runs_samples.specs.Follow.{EndsAs, ExploredFollows}

stops : (e : Ending3) → is_going e ≡ false → goes_on e ≡ false
stops Finished h = refl
stops Deadlocked h = refl
stops Going h = absurd cc

-- what is empty stays so where states are the same name by name
past_same : (p q : Option (Life (Running Place))) → p ≡ q → PastIn p → PastIn q
past_same p q e h = rw e at h

empty_same : (s c : CodeState) → SameState s c → IsEmpty s → IsEmpty c
empty_same s c h k = record { threads = λ t. past_same (s.thread t) (c.thread t) (h.threads t) (k.threads t); objects = λ o. sym (h.objects o) ∙ k.objects o; mutexes = λ m. sym (h.mutexes m) ∙ k.mutexes m }

abbrev state_in : CodeState → Option (CodeState × List Label) → CodeState
state_in s None = s
state_in s (Some p) = p.0

-- the state that the plain run of a code shows
shown_state : (d : CodeStepped) (s : CodeState) (ls : List Label) → in_plain (Some d) ≡ Some (s, ls) → plain_state d.state ≡ s
shown_state d s ls e = ap (state_in (plain_state d.state)) e

once_led : (d : Option CodeStepped) (x : CodeStepped) → d ≡ Some x → OnceLed d → IsListedOnce x.state.threads
once_led None x e h = absurd cc
once_led (Some d) x e h = let same : d ≡ x = cc in subst (λ (y : CodeStepped). IsListedOnce y.state.threads) same h

module _ (explored : AllEndSo) (codes : ProgramsHaveCodes) (once : OnceStaysInCode) (deadlocks : DeadlocksAgree) where
  -- a right run that isn't going, under whatever code of the row's program
  ends_as : (row : Row) → IsExplored row → (g : Given) (d : Cluster × List EntryView) → RunsRight g d → IsCodeOf d.0.code (program row.term) → is_going (ending d.0) ≡ false → EndsAs row d
  ends_as row all g (k, es) right is off = by (code_run k.code code_start (order es)) refl right.left.printed right.left.plain.runs
    where
      of_state : (d : CodeStepped) → code_run k.code code_start (order es) ≡ Some d → d.state.output ≡ prints es → SameState (plain_state d.state) (one_heap k) → EndsAs row (k, es)
      of_state d ran printed same =
          let listed : IsListedOnce d.state.threads = once_led (code_run k.code code_start (order es)) d ran (once k.code code_start (refl, tt) (order es)) in
          let agree : ending_of (code_moves k.code) d.state ≡ ending k = code_ends k right.coherent d.state same listed off in
          let stop : goes_on (ending_of (code_moves k.code) d.state) ≡ false = ap goes_on agree ∙ stops (ending k) off in
          let its = codes row.term in
          let so : EndsSo (code_moves k.code) row.steps row.end (order es) d.state = explored (program row.term) (code_of (program row.term)) k.code row.steps row.end its.is is all (order es) d ran stop in record {
            ending = sym agree ∙ so.ending;
            prints = sym printed ∙ so.prints;
            steps = so.steps;
            left = λ f. right.on.left (sym agree ∙ so.ending ∙ f);
            empty = λ f. empty_same (plain_state d.state) (one_heap k) same (so.empty f);
            waits = λ f. subst (WaitsSo row.end.lock (mutexes_named (order es))) (deadlocks k right.coherent (sym agree ∙ so.ending ∙ f) d.state same 0) so.lock;
          }

      by : (d : Option CodeStepped) → code_run k.code code_start (order es) ≡ d → HasPrinted d (prints es) → in_plain d ≡ Some (right.left.plain.state, labels es) → EndsAs row (k, es)
      by None e h r = absurd h
      by (Some d) e h r = of_state d e h (subst (λ s. SameState s (one_heap k)) (sym (shown_state d right.left.plain.state (labels es) r)) right.left.plain.same)

  -- THE CODE STAYS

  abbrev HasCode : List Instr → Cluster × List EntryView → Type 0
  HasCode code d = d.0.code ≡ code

  code_stays : (code : List Instr) (es : List Event) (k : Cluster) → k.code ≡ code → Gives (HasCode code) (run_of k es)
  code_stays code [] k e = e
  code_stays code (x ∷ es) k e =
      then_gives (HasCode code) (apply k x) _ (λ d q. over_gives (HasCode code) (HasCode code) (run_of d.0 es) (λ r. (r.0, d.1 ∷ r.1)) (code_stays code es d.0 (given_by (λ (y : Cluster × EntryView). y.0.code ≡ k.code) (apply k x) d (same_code k x) q ∙ e)) (λ r f. f))

  pub explored_follows : ProgramsRunRight → ExploredFollows
  explored_follows right row all g es same few =
      both_give (RunsRight g) (HasCode g.code) (λ (d : Cluster × List EntryView). is_going (ending d.0) ≡ false → EndsAs row d) (run_of (start_of g.code g.options) es) (right g es few) (code_stays g.code es (start_of g.code g.options) refl)
      (λ d r c off. ends_as row all g d r (subst (IsCodeOf d.0.code) same (subst (λ x. IsCodeOf x (program (block_t g.at g.items))) (sym c) g.is)) off)
