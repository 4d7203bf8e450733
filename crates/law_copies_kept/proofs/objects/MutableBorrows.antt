-- Copies are right after a mutable borrow, done or not, whether its object was taken or not.
use Rattle.std.proofs.Common.{◌≡◌, ℕ, zero, suc, Bool, true, false, Option, Some, refl, sym, ap, subst, ◌∙◌}
use Rattle.std.specs.Prelude.{slice_get}
use Rattle.law_copies_kept.specs.Below.fr_base.declared.place.Lval.{Lval}
use Rattle.law_copies_kept.specs.Below.thread_state.View.{ThreadState}
use Rattle.law_copies_kept.specs.Below.thread_state.declared.phase.Phase.{Phase}
use Rattle.law_copies_kept.specs.Below.server_model.declared.event.What.TheVariants.{Step}
use Rattle.law_copies_kept.specs.Below.server_model.Servers.{Server, Cluster, server_at}
use Rattle.law_copies_kept.specs.Below.server_model.Work.{thread_in}
use Rattle.law_copies_kept.specs.Below.coherent_memory.Names.{other}
use Rattle.law_copies_kept.specs.Below.coherent_memory.Things.{Location, at_slot}
use Rattle.law_copies_kept.specs.Below.coherent_memory.Follow.{locate, Standing, place_at}
use Rattle.law_copies_kept.specs.Below.coherent_memory.Sight.{sight}
use Rattle.law_copies_kept.specs.Below.coherent_types.ClusterTypes.{IsCoherent}
use Rattle.law_copies_kept.specs.Below.law_counts_sums.Laws.{FewEvents}
use Rattle.law_words_borrows.specs.Below.law_words_kept.stays.Laws.{mutable}
use Rattle.law_words_borrows.proofs.Below.law_words_kept.prepared.Asking.{found_number}
use Rattle.law_copies_kept.specs.Below.coherent_memory.Requests.{lies_here, taken_there, taken_phase, lent_place}
use Rattle.law_copies_kept.proofs.Below.law_counts_sums.GiftsTaken.{none_here}
use Rattle.law_copies_kept.specs.Below.fr_base.declared.instruction.Instr.TheVariants as instr
use Rattle.law_copies_kept.specs.Below.thread_state.declared.phase.Phase.TheVariants as phase
use Rattle.law_copies_kept.proofs.references.ReferenceCopies.{variable_borrows_keep}
use Rattle.law_copies_kept.specs.objects.Fresh.{LeavesRight, MutableBorrowsKeepCopies}
use Rattle.law_copies_kept.proofs.objects.Outcome.{right_by}
use Rattle.law_copies_kept.proofs.objects.UntakenBorrows.{stepped_lend}
use Rattle.law_copies_kept.proofs.objects.TakenBorrows.{stepped_take}

-- what breaks nothing is so
counted_all : (b : Bool) → other b ≡ 0 → b ≡ true
counted_all true e = refl
counted_all false e = absurd cc

-- what is taken is in a cell
lies_in_cell : (k : Cluster) (r v : ℕ) (l : Option Location) (t i : ℕ) → lies_here (sight k) r v l ≡ true → l ≡ Some (at_slot t i) → ⊥
lies_in_cell k r v l t i e f = let no : false ≡ true = sym (ap (lies_here (sight k) r v) f) ∙ e in absurd cc

-- in its cluster
untaken_borrows_keep : (k : Cluster) (number t : ℕ) (s : Server) (y : ThreadState) (w : Lval) → IsCoherent k → FewEvents k → server_at k.servers number ≡ Some s → thread_in s.threads t ≡ Some y → slice_get k.code y.pc ≡ Some (instr.BorrowMut w) → ((v : ℕ) → y.phase ≡ phase.Taken v → ⊥)
    → LeavesRight k (record { server = number; what = Step t })
untaken_borrows_keep k number t s y w coherent few here at code free = by w.depth refl
  where
    by : (d : ℕ) → w.depth ≡ d → LeavesRight k (record { server = number; what = Step t })
    by zero deep = variable_borrows_keep k number t s y (instr.BorrowMut w) coherent few here at code (mutable deep)
    by (suc m) deep =
        subst (λ c. server_at k.servers c ≡ Some s → LeavesRight k (record { server = c; what = Step t })) (found_number number k.servers s here)
        (λ h. right_by k coherent.sound few s h t y at (instr.BorrowMut w) code (λ on. stepped_lend k coherent few s h t y at on w m deep code free k.options.servers)) here

-- in its cluster
taken_borrows_keep : (k : Cluster) (number t : ℕ) (s : Server) (y : ThreadState) (w : Lval) (v : ℕ) → IsCoherent k → FewEvents k → server_at k.servers number ≡ Some s → thread_in s.threads t ≡ Some y → slice_get k.code y.pc ≡ Some (instr.BorrowMut w) → y.phase ≡ phase.Taken v
    → LeavesRight k (record { server = number; what = Step t })
taken_borrows_keep k number t s y w v coherent few here at code has = by w.depth refl
  where
    -- a variable isn't taken
    no_variable : w.depth ≡ zero → ⊥
    no_variable flat =
        let x : Standing = record { server = s.rest.number; packed = false; thread = y } in
        let all : taken_phase (sight k) x y.phase ≡ 0 = none_here k coherent.sound number s here t y at (λ z. taken_phase (sight k) z z.thread.phase) coherent.sound.requests.taken_stands in
        let there : taken_there (sight k) x v (lent_place (slice_get k.code y.pc)) ≡ 0 = subst (λ p. taken_phase (sight k) x p ≡ 0) has all in
        let its : taken_there (sight k) x v (Some w) ≡ 0 = subst (λ j. taken_there (sight k) x v (lent_place j) ≡ 0) code there in
        lies_in_cell k s.rest.number v (place_at (sight k).ground y.number w) y.number w.slot (counted_all (lies_here (sight k) s.rest.number v (place_at (sight k).ground y.number w)) its) (ap (locate (sight k).ground y.number w.slot) flat)

    by : (d : ℕ) → w.depth ≡ d → LeavesRight k (record { server = number; what = Step t })
    by zero deep = absurd (no_variable deep)
    by (suc m) deep =
        subst (λ c. server_at k.servers c ≡ Some s → LeavesRight k (record { server = c; what = Step t })) (found_number number k.servers s here)
        (λ h. right_by k coherent.sound few s h t y at (instr.BorrowMut w) code (λ on. stepped_take k coherent few s h t y at on w m deep code v has k.options.servers)) here

-- in each phase
pub mutable_borrows_keep : MutableBorrowsKeepCopies
mutable_borrows_keep k number t s y w coherent few here at code = by y.phase refl
  where
    by : (p : Phase) → y.phase ≡ p → LeavesRight k (record { server = number; what = Step t })
    by (phase.Taken v) e = taken_borrows_keep k number t s y w v coherent few here at code e
    by phase.Ready e = untaken_borrows_keep k number t s y w coherent few here at code (λ v f. let no : phase.Ready ≡ phase.Taken v = sym e ∙ f in absurd cc)
    by phase.Got e = untaken_borrows_keep k number t s y w coherent few here at code (λ v f. let no : phase.Got ≡ phase.Taken v = sym e ∙ f in absurd cc)
    by (phase.WaitCell u) e = untaken_borrows_keep k number t s y w coherent few here at code (λ v f. let no : phase.WaitCell u ≡ phase.Taken v = sym e ∙ f in absurd cc)
    by (phase.WaitLock c) e = untaken_borrows_keep k number t s y w coherent few here at code (λ v f. let no : phase.WaitLock c ≡ phase.Taken v = sym e ∙ f in absurd cc)
    by (phase.WaitDup c) e = untaken_borrows_keep k number t s y w coherent few here at code (λ v f. let no : phase.WaitDup c ≡ phase.Taken v = sym e ∙ f in absurd cc)
    by (phase.WaitJoin u) e = untaken_borrows_keep k number t s y w coherent few here at code (λ v f. let no : phase.WaitJoin u ≡ phase.Taken v = sym e ∙ f in absurd cc)
    by (phase.WaitPar a b) e = untaken_borrows_keep k number t s y w coherent few here at code (λ v f. let no : phase.WaitPar a b ≡ phase.Taken v = sym e ∙ f in absurd cc)
    by (phase.GotPar a b) e = untaken_borrows_keep k number t s y w coherent few here at code (λ v f. let no : phase.GotPar a b ≡ phase.Taken v = sym e ∙ f in absurd cc)
    by phase.Over e = untaken_borrows_keep k number t s y w coherent few here at code (λ v f. let no : phase.Over ≡ phase.Taken v = sym e ∙ f in absurd cc)
