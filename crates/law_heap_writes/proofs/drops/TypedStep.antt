-- What typing knows of a thread that steps, in a coherent cluster: the entry of the code's table at its instruction, which its slots and temporary values fit.
use Rattle.std.proofs.Common.{◌≡◌, ℕ, not, true, false, reverse, Some, refl, sym, ap, subst, ◌∙◌, arith}
use Rattle.law_words_writes.specs.Below.law_results_reads.Below.fr_base.declared.instruction.Instr.{Instr}
use Rattle.law_words_writes.specs.Below.law_results_reads.Below.fr_code.CodeTypes.{Entry}
use Rattle.law_words_writes.specs.Below.law_results_reads.Below.fr_code.CodeTable.{Leads, Successors}
use Rattle.law_words_writes.specs.Below.law_results_reads.Below.thread_state.View.{ThreadState, is_over}
use Rattle.law_words_writes.specs.Below.law_results_reads.Below.thread_state.declared.phase.Phase.{Phase}
use Rattle.law_words_writes.specs.Below.law_results_reads.Below.thread_state.declared.phase.Phase.TheVariants as phase
use Rattle.law_words_writes.specs.Below.law_results_reads.Below.server_model.declared.event.Event.{Event}
use Rattle.law_words_writes.specs.Below.law_results_reads.Below.server_model.Servers.{Server, Cluster}
use Rattle.law_words_writes.specs.Below.law_results_reads.Below.server_model.Events.{can_step}
use Rattle.law_words_writes.specs.Below.law_results_reads.Below.coherent_memory.Names.{tot, if_so}
use Rattle.law_words_writes.specs.Below.law_results_reads.Below.coherent_memory.Follow.{Standing}
use Rattle.law_words_writes.specs.Below.law_results_reads.Below.coherent_memory.Sight.{sight}
use Rattle.law_words_writes.specs.Below.law_results_reads.Below.coherent_types.Names.{NameTypes, names_of}
use Rattle.law_words_writes.specs.Below.law_results_reads.Below.coherent_types.ClusterTypes.{slots_wrong, temps_wrong, forms_of, entry_wrong, locked_of, IsCoherent}
use Rattle.law_words_writes.proofs.Below.law_results_reads.Below.law_counts_sums.ThreadThere.{thread_there}
use Rattle.law_words_writes.specs.Below.law_words_paths.paths.HeapStore.{GoesOn, HasPaths}
use Rattle.law_words_writes.proofs.Below.law_words_paths.paths.Contained.{among_thread}
use Rattle.law_words_writes.proofs.Below.law_words_paths.paths.Forms.{none_of, running_typed}
use Rattle.law_heap_steps.proofs.turns.Events.{AtStep}

not_over : (p : Phase) → can_step p ≡ true → is_over p ≡ false
not_over phase.Over e = absurd (cc e)
not_over _ e = refl

some_is : {A : Type 0} {a b : A} → Some a ≡ Some b → a ≡ b
some_is e = cc

module _ (k : Cluster) (co : IsCoherent k) (e : Event) (i : Instr) (s : Server) (t : ℕ) (x : ThreadState) (at : AtStep k e i s t x) where
  abbrev paths : HasPaths k
  paths = record {
    types = co.types;
    numbers_differ = co.sound.names.numbers_differ;
    names_counted = co.sound.names.names_counted;
    counts_from_one = co.sound.names.counts_from_one;
    over_are_bare = co.sound.rooted.over_are_bare;
    home_of_each = co.sound.one_home.home_of_each;
    owner_of_each = co.sound.one_owner.owner_of_each;
  }

  abbrev standing : Standing
  standing = record { server = s.rest.number; packed = false; thread = x }

  goes : GoesOn k standing
  goes = record { among = (among_thread (sight k).ground.threads t standing (thread_there k co.sound e.server s at.here t x at.at)).0; going = not_over x.phase at.on }

  abbrev n : NameTypes
  n = names_of co.types.object co.types.typing.gives

  pub entry : Entry
  entry = (running_typed k paths standing goes).entry

  pub known : co.types.table x.pc ≡ Some entry
  unfolding entry
  known = (running_typed k paths standing goes).known

  pub gives_result : entry.gives ≡ co.types.typing.gives.result x.number
  unfolding entry
  gives_result = (running_typed k paths standing goes).gives

  -- a sentence that is counted at the entries of threads that aren't over
  at_entry : (f : ThreadState → Entry → ℕ) → tot (λ (w : Standing). if_so (not (is_over w.thread.phase)) (entry_wrong (f w.thread) (co.types.table w.thread.pc))) (sight k).ground.threads ≡ 0 → f x entry ≡ 0
  at_entry f z =
      let all = none_of (λ w. if_so (not (is_over w.thread.phase)) (entry_wrong (f w.thread) (co.types.table w.thread.pc))) standing (sight k).ground.threads z goes.among in
      let going : entry_wrong (f x) (co.types.table x.pc) ≡ 0 = sym (ap (λ b. if_so (not b) (entry_wrong (f x) (co.types.table x.pc))) goes.going) ∙ all in
      sym (ap (entry_wrong (f x)) known) ∙ going

  forms : forms_of n x entry ≡ 0
  forms = at_entry (forms_of n) co.types.forms

  pub slots_fit : slots_wrong n entry.env (reverse x.slots) ≡ 0
  slots_fit = omega (arith, forms)

  pub temps_fit : temps_wrong n entry.temps (reverse x.temps) ≡ 0
  temps_fit = omega (arith, forms)

  pub locked_fits : locked_of n entry.env (reverse x.slots) ≡ 0
  locked_fits = at_entry (λ y q. locked_of n q.env (reverse y.slots)) co.types.locked

  pub typed : (ss : Successors) × Leads co.types.table x.pc entry i ss
  typed =
      let row = co.types.is_table.rows x.pc entry known in
      let same : row.instruction ≡ i = some_is (sym row.there ∙ at.code) in
      (row.successors, subst (λ j. Leads co.types.table x.pc entry j row.successors) same row.leads)
