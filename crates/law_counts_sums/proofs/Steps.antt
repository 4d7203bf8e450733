-- A step of a thread: its place is made ready, and the plain step follows where it is.
use Rattle.std.proofs.Common.{◌≡◌, ℕ, List, ◌++◌, Option, Some, None, refl}
use Rattle.std.specs.Prelude.{slice_get, option_map}
use Rattle.coherent_memory.specs.Below.fr_base.declared.instruction.Instr.{Instr}
use Rattle.coherent_memory.specs.Below.fr_base.declared.settings.Options.{Options}
use Rattle.coherent_memory.specs.Below.thread_state.View.{ThreadState}
use Rattle.coherent_memory.specs.Below.server_model.declared.event.What.TheVariants.{Step}
use Rattle.coherent_memory.specs.Below.server_model.Servers.{Server}
use Rattle.coherent_memory.specs.Below.server_model.Work.{Hand, put_back, thread_in, without_thread, then_some}
use Rattle.coherent_memory.specs.Below.server_model.Prepare.{Prepared, ready, requested, nothing, access_of, prepare}
use Rattle.coherent_memory.specs.Below.server_model.Commit.{Committed, done, waits, refused, commit, settle}
use Rattle.coherent_memory.specs.Below.server_model.Events.{begin_work, begin_at, Stepped, done_step, wait_step, committed, prepared, step, step_in, stepped, does}
use Rattle.coherent_memory.specs.Things.{Thing, server_things}
use Rattle.law_counts_sums.specs.Kinds.{instr_kind}
use Rattle.law_counts_sums.specs.Laws.{Gives}
use Rattle.law_counts_sums.proofs.Proved.{IsProvedKind, IsSpending}
use Rattle.law_counts_sums.proofs.Rules.{Kept, Spends}
use Rattle.law_counts_sums.proofs.Results.{over_gives, then_gives}
use Rattle.law_counts_sums.proofs.Bags.{HandOk, all_standing}
use Rattle.law_counts_sums.proofs.Chains.{takes, puts_back}
use Rattle.law_counts_sums.proofs.Prepares.{PreparedOk, prepares}
use Rattle.law_counts_sums.proofs.Drops.{settles}
use Rattle.law_counts_sums.proofs.Commits.{CommittedOk}
use Rattle.law_counts_sums.proofs.AllSteps.{commits}
use Rattle.law_counts_sums.proofs.Events.{Left, begins_site, ends_site}

module _ {K : List Thing → Type 0} (k : Kept K) (n e t : ℕ) (others : List Thing) where
  abbrev Ok : Hand → Type 0
  Ok = HandOk K n e t others

  abbrev pub SteppedOk : Stepped → Type 0
  SteppedOk d = HandOk K n e t others d.hand

  waits_keep : (h : Hand) → Ok h → SteppedOk (wait_step h)
  waits_keep h g = record { number = g.number; thread = g.thread; bag = g.bag }

  pub committed_keeps : (c : Committed) → CommittedOk Ok c → Gives SteppedOk (committed c)
  committed_keeps (done names h) g = over_gives Ok SteppedOk (settle h) (done_step names) (settles k n e t others h g) (λ h2 u. u)
  committed_keeps (waits h) g = waits_keep h g
  committed_keeps refused g = tt

  prepared_keeps : (servers : ℕ) (i : Instr) (p : Prepared) → IsProvedKind (instr_kind i) → (IsSpending (instr_kind i) → Spends K) → PreparedOk Ok p → Gives SteppedOk (prepared servers i p)
  prepared_keeps servers i (ready h s) l sp g = committed_keeps (commit servers i s h) (commits k n e t others servers i s h l sp g)
  prepared_keeps servers i (requested h) l sp g = waits_keep h g
  prepared_keeps servers i nothing l sp g = tt

  pub step_keeps : (servers : ℕ) (i : Instr) (h : Hand) → IsProvedKind (instr_kind i) → (IsSpending (instr_kind i) → Spends K) → Ok h → Gives SteppedOk (step servers i h)
  step_keeps servers i h l sp g = prepared_keeps servers i (prepare (access_of i h.thread) h) l sp (prepares k n e t others (access_of i h.thread) h g)

module _ {K : List Thing → Type 0} (k : Kept K) where
  pub steps_keep : (code : List Instr) (o : Options) (others : List Thing) (s : Server) (t : ℕ) → ((x : ThreadState) (i : Instr) → thread_in s.threads t ≡ Some x → slice_get code x.pc ≡ Some i → IsProvedKind (instr_kind i) × (IsSpending (instr_kind i) → Spends K))
      → K (server_things s ++ others) → Gives (Left k others) (does code o s (Step t))
  steps_keep code o others s t proved g = by (thread_in s.threads t) refl
    where
      by : (x : Option ThreadState) → thread_in s.threads t ≡ x → Gives (Left k others) (option_map (stepped s) (then_some (option_map (λ y. record { work = begin_work s.rest; thread = y }) x) (step_in code o.servers)))
      by None q = tt
      by (Some y) q =
          let n = s.rest.number in
          let e = s.events in
          let b = all_standing n (without_thread s.threads t) ++ others in
          over_gives (SteppedOk k n e t b) (Left k others) (step_in code o.servers (record { work = begin_work s.rest; thread = y })) (stepped s)
          (then_gives (SteppedOk k n e t b) (slice_get code y.pc) (λ i. step o.servers i (record { work = begin_work s.rest; thread = y })) (λ i r. step_keeps k n e t b o.servers i (record { work = begin_work s.rest; thread = y }) (proved y i q r).0 (proved y i q r).1 (takes k n e others t (begin_at s) y q (begins_site k others s g))))
          (λ d u. ends_site k n e others (Some d.hand.thread.number) d.names (put_back s.threads d.hand) (puts_back k n e others t s.threads y q d.hand u))
