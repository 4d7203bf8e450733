-- Mutable borrows through stars that are done, whether their thread has taken the object or not.
use Rattle.std.proofs.Common.{◌≡◌, ◌⊎◌, inl, inr, ℕ, suc, true, is_some, Some, refl, sym, subst}
use Rattle.std.specs.Prelude.{slice_get}
use Rattle.law_copies_kept.specs.Below.fr_base.declared.place.Lval.{Lval}
use Rattle.law_copies_kept.specs.Below.fr_base.declared.instruction.Instr.TheVariants as instr
use Rattle.law_copies_kept.specs.Below.journal.View.{EntryView}
use Rattle.law_copies_kept.specs.Below.thread_state.View.{ThreadState}
use Rattle.law_copies_kept.specs.Below.thread_state.declared.phase.Phase.{Phase}
use Rattle.law_copies_kept.specs.Below.thread_state.declared.phase.Phase.TheVariants as phase
use Rattle.law_copies_kept.specs.Below.server_model.declared.event.What.TheVariants.{Step}
use Rattle.law_copies_kept.specs.Below.server_model.Servers.{Server, Cluster, server_at}
use Rattle.law_copies_kept.specs.Below.server_model.Work.{thread_in}
use Rattle.law_copies_kept.specs.Below.server_model.Events.{can_step, has_phase, enabled}
use Rattle.law_copies_kept.specs.Below.coherent_types.ClusterTypes.{IsCoherent}
use Rattle.law_copies_kept.specs.Below.law_counts_sums.Laws.{Gives, FewEvents}
use Rattle.law_copies_kept.proofs.Below.law_counts_sums.GiftsTaken.{gift_fits as gift_is_none}
use Rattle.law_copies_kept.proofs.Below.law_words_kept.prepared.Asking.{found_number}
use Rattle.law_entries_variables.specs.deliveries.Entries.{LeadsOn}
use Rattle.law_copies_kept.specs.Below.server_model.Clusters.{apply}
use Rattle.law_entries_variables.proofs.still.PlainSteps.{lives}
use Rattle.law_entries_reads.specs.places.Reads.{DoneLegal}
use Rattle.law_entries_reads.proofs.places.Done.{bare_holds_none}
use Rattle.law_entries_reads.proofs.places.Steps.{done_legal}
use Rattle.law_entries_reads.proofs.places.Lending.{Pushes, lends_end}
use Rattle.law_entries_reads.proofs.places.Untaken.{untaken_pushes}
use Rattle.law_entries_reads.proofs.places.Taken.{taken_pushes}

-- a phase in which an object is taken, or another one
taken_or_not : (p : Phase) → ((v : ℕ) × (p ≡ phase.Taken v)) ⊎ ((v : ℕ) → p ≡ phase.Taken v → ⊥)
taken_or_not (phase.Taken v) = inl (v, refl)
taken_or_not phase.Ready = inr (λ v e. cc e)
taken_or_not phase.Got = inr (λ v e. cc e)
taken_or_not (phase.WaitCell u) = inr (λ v e. cc e)
taken_or_not (phase.WaitLock m) = inr (λ v e. cc e)
taken_or_not (phase.WaitDup m) = inr (λ v e. cc e)
taken_or_not (phase.WaitJoin u) = inr (λ v e. cc e)
taken_or_not (phase.WaitPar a b) = inr (λ v e. cc e)
taken_or_not (phase.GotPar a b) = inr (λ v e. cc e)
taken_or_not phase.Over = inr (λ v e. cc e)

-- each mutable borrow through a star
pub lend_legal : (k : Cluster) (number t : ℕ) (s : Server) (y : ThreadState) (w : Lval) (m : ℕ) → w.depth ≡ suc m → IsCoherent k → FewEvents k → server_at k.servers number ≡ Some s → thread_in s.threads t ≡ Some y → slice_get k.code y.pc ≡ Some (instr.BorrowMut w)
    → DoneLegal k (record { server = number; what = Step t })
lend_legal k number t s y w m deep coherent few here at code c0 is_coloured =
    subst (λ c. server_at k.servers c ≡ Some s → Gives (λ (d : Cluster × EntryView). is_some d.1.done ≡ true → LeadsOn k.options d.1 c0 d.0) (apply k (record { server = c; what = Step t }))) (found_number number k.servers s here)
    (λ h. done_legal k coherent.sound few s.rest.number t s y (instr.BorrowMut w) h at code c0 is_coloured
    (λ on. let able : enabled k.options s (Step t) ≡ true = subst (λ o. has_phase can_step o ≡ true) (sym at) on in lends_end k coherent few s h t y at able w m deep code c0 is_coloured (pushes h able))
    (λ on. bare_holds_none k coherent.sound s.rest.number s h c0 is_coloured t y at (lives y.phase on) y (gift_is_none k coherent.sound s.rest.number s h t y at (instr.BorrowMut w) code).0)) here
  where
    pushes : (h : server_at k.servers s.rest.number ≡ Some s) (able : enabled k.options s (Step t) ≡ true) → Pushes k coherent few s h t y at able w m deep code c0 is_coloured
    pushes h able = by (taken_or_not y.phase)
      where
        by : ((v : ℕ) × (y.phase ≡ phase.Taken v)) ⊎ ((v : ℕ) → y.phase ≡ phase.Taken v → ⊥) → Pushes k coherent few s h t y at able w m deep code c0 is_coloured
        by (inl q) = taken_pushes k coherent few s h t y at able w m deep code q.0 q.1 c0 is_coloured
        by (inr free) = untaken_pushes k coherent few s h t y at able w m deep code free c0 is_coloured
