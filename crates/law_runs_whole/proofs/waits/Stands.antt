-- The program's own terms under a journal's order, where its code's plain run leads to a cluster's one heap: they stand there too, wait in a deadlocked
-- cluster for what its threads wait for, and end as the cluster does.
use Rattle.std.proofs.Common.{◌≡◌, ℕ, Bool, true, false, List, Option, Some, None, refl, sym, ap, subst, ◌∙◌}
use Rattle.law_runs_whole.specs.Below.fr_base.declared.instruction.Instr.{Instr}
use Rattle.law_runs_whole.specs.Below.fr_base.declared.label.Label.{Label}
use Rattle.law_runs_whole.specs.Below.fr_base.declared.step.Ending3.TheVariants.{Deadlocked}
use Rattle.law_runs_whole.specs.Below.fr_base.declared.step.Fresh.TheVariants as fresh
use Rattle.law_runs_whole.specs.Below.fr_plain.MachineThreads.{thread_at}
use Rattle.law_runs_whole.specs.Below.fr_plain.PlainState.{SameState, plain_state}
use Rattle.law_runs_whole.specs.Below.fr_plain.Run.{Run, terms}
use Rattle.law_runs_whole.specs.Below.fr_plain.SamePlain.{IsListedOnce, OnceLed, waits_in as waits_of, waits_at}
use Rattle.law_runs_whole.specs.Below.fr_plain.Whole as term
use Rattle.law_runs_whole.specs.Below.fr_plain.Whole.{Turn}
use Rattle.law_runs_whole.specs.Below.fr_code.Laws.{StandsAt, StandsWhole, SameSteps}
use Rattle.law_runs_whole.specs.Below.fr_code.Machine.{CodeThread, CodeWhole, CodeState, CodeStepped, code_start}
use Rattle.law_runs_whole.specs.Below.fr_code.StandsFor.{IsCodeOf}
use Rattle.law_runs_whole.specs.Below.fr_code.Steps.{code_moves}
use Rattle.law_runs_whole.specs.Below.journal.Journals.{order, labels}
use Rattle.law_runs_whole.specs.Below.server_model.Servers.{Cluster}
use Rattle.law_runs_whole.specs.Below.drive_model.Ending as cluster
use Rattle.law_runs_whole.specs.Below.drive_model.Ending.{no_message, all_in, is_stopped, is_going, ending, ending_of}
use Rattle.law_runs_whole.specs.Below.thread_state.View.{is_over}
use Rattle.law_runs_whole.specs.Below.coherent_memory.OneHeap.{one_heap}
use Rattle.law_runs_coherent.specs.Below.coherent_types.ClusterTypes.{IsCoherent}
use Rattle.law_runs_whole.proofs.Below.law_counts_sums.Below.fr_plain.ListedOnce.{once_stays}
use Rattle.law_runs_whole.proofs.Below.coherent_memory.Below.fr_code.Wholes.{runs_alike, refusals_alike, endings_alike}
use Rattle.code_meaning.specs.OneHeap.{in_plain, plain_run}
use Rattle.code_meaning.specs.Runs.{run}
use Rattle.law_runs_whole.specs.waits.Waits.{wait_in, plain_wait}
use Rattle.law_runs_whole.specs.waits.Stands.{ComesTo, ProgramsStandThere, waits, HasWaits, DeadlocksWaitThere, HasEnding, ProgramsEndThere}
use Rattle.law_runs_whole.proofs.waits.ClusterWaits.{cluster_rises, cluster_under}
use Rattle.law_runs_whole.proofs.waits.Deadlocks.{deadlocks_agree}
use Rattle.law_runs_whole.proofs.waits.Ends.{code_ends}
use Rattle.law_runs_whole.proofs.waits.Places.{alike_shown, shown_as}
use Rattle.law_runs_whole.proofs.waits.PlainWaits.{list_under, list_rises, told, waits_told}
use Rattle.law_runs_whole.proofs.waits.Rising.{same_rising}

-- BOTH RUNS

-- the run of the terms and that of the code, which led to this state with these labels: both are there, and alike
record Both (code : List Instr) (x : Option term.Stepped) (p : CodeState) (ls : List Label) : Type 0 where
  first : term.Stepped
  is : x ≡ Some first
  labelled : first.labels ≡ ls
  second : CodeWhole
  shown : plain_state second ≡ p
  alike : StandsWhole code first.state second
  once : IsListedOnce second.threads

both_there : (code : List Instr) (x : Option term.Stepped) (d : Option CodeStepped) (p : CodeState) (ls : List Label) → SameSteps code x d → OnceLed d → in_plain d ≡ Some (p, ls) → Both code x p ls
both_there code None None p ls h o e = absurd cc
both_there code None (Some d) p ls h o e = absurd h
both_there code (Some x) None p ls h o e = absurd h
both_there code (Some x) (Some d) p ls h o e =
    let same : (plain_state d.state, d.labels) ≡ (p, ls) = cc in
    record { first = x; is = refl; labelled = h.0 ∙ ap (λ (q : CodeState × List Label). q.1) same; second = d.state; shown = ap (λ (q : CodeState × List Label). q.0) same; alike = h.1; once = o }

both_run : (program : Run) (code : List Instr) → IsCodeOf code program → (ts : List Turn) (p : CodeState) (ls : List Label) → plain_run code ts ≡ Some (p, ls) → Both code (term.plain program ts) p ls
both_run program code c ts p ls e = both_there code (term.plain program ts) (run code ts) p ls (runs_alike code program c ts) (once_stays (code_moves code) code_start (refl, tt) ts) e

-- WHERE THE TERMS STAND

comes_to : (k : Cluster) (x : Option term.Stepped) (p : CodeState) (ls : List Label) → Both k.code x p ls → SameState p (one_heap k) → ComesTo x k ls
comes_to k x p ls b same =
    subst (λ o. ComesTo o k ls) (sym b.is) (
      b.labelled,
      shown_as (StandsAt k.code) (plain_state b.first.state) (plain_state b.second) (one_heap k) (alike_shown (StandsAt k.code) b.first.state b.second b.alike) (subst (λ s. SameState s (one_heap k)) (sym b.shown) same),
    )

pub programs_stand_there : ProgramsStandThere
programs_stand_there program k es c l = comes_to k (term.plain program (order es)) l.state (labels es) (both_run program k.code c (order es) l.state (labels es) l.runs) l.same

-- WHAT THEY WAIT FOR

-- the code's threads wait for what its state's do
code_waits : (code : List Instr) (c : CodeWhole) (t : ℕ) → waits_at (code_moves code) c t ≡ plain_wait code c t
code_waits code c t = by (thread_at c.threads t)
  where
    by : (o : Option CodeThread) → waits_of (code_moves code) c o ≡ wait_in code c o
    by None = refl
    by (Some y) = refl

-- and the terms' threads for what their code's do
terms_wait : (code : List Instr) (s : term.Whole) (c : CodeWhole) → StandsWhole code s c → (t : ℕ) → waits_at terms s t ≡ plain_wait code c t
terms_wait code s c h t = waits_told terms s t ∙ ap told (refusals_alike code s c h t fresh.None) ∙ sym (waits_told (code_moves code) c t) ∙ code_waits code c t

no_message_waits : (k : Cluster) → ending k ≡ Deadlocked → no_message k.servers ≡ true
no_message_waits k h = by (no_message k.servers) (all_in is_over k.servers) (all_in is_stopped k.servers) h
  where
    by : (q o s : Bool) → ending_of q o s ≡ Deadlocked → q ≡ true
    by true o s g = refl
    by false o s g = absurd (cc g)

-- no thread of a program's run is listed twice
listed_once : (program : Run) (ts : List Turn) (x : term.Stepped) → term.plain program ts ≡ Some x → IsListedOnce x.state.threads
listed_once program ts x e = subst OnceLed e (once_stays terms (term.start program) (refl, tt) ts)

module _ (k : Cluster) (co : IsCoherent k) (dead : ending k ≡ Deadlocked) where
  same_waits : (s : term.Whole) (c : CodeWhole) → IsListedOnce s.threads → StandsWhole k.code s c → SameState (plain_state c) (one_heap k) → waits terms s ≡ cluster.waits k
  same_waits s c once alike same =
      same_rising 0 (waits terms s) (cluster.waits k) (list_rises terms s s.threads once) (cluster_rises k co.sound quiet)
      (λ t. list_under terms s s.threads once t ∙ terms_wait k.code s c alike t ∙ deadlocks_agree k co dead c same t ∙ sym (cluster_under k co.sound quiet t))
    where
      quiet : no_message k.servers ≡ true
      quiet = no_message_waits k dead

pub deadlocks_wait_there : DeadlocksWaitThere
deadlocks_wait_there program k es c l co dead =
    let b = both_run program k.code c (order es) l.state (labels es) l.runs in
    let same : SameState (plain_state b.second) (one_heap k) = subst (λ s. SameState s (one_heap k)) (sym b.shown) l.same in
    subst (λ o. HasWaits o (cluster.waits k)) (sym b.is) (same_waits k co dead b.first.state b.second (listed_once program (order es) b.first b.is) b.alike same)

-- HOW THEY END

pub programs_end_there : ProgramsEndThere
programs_end_there program k es c l co over =
    let b = both_run program k.code c (order es) l.state (labels es) l.runs in
    let same : SameState (plain_state b.second) (one_heap k) = subst (λ s. SameState s (one_heap k)) (sym b.shown) l.same in
    subst (λ o. HasEnding o (ending k)) (sym b.is) (endings_alike k.code b.first.state b.second b.alike ∙ code_ends k co b.second same b.once over)
