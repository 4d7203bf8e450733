-- What a coherent cluster tells of a thread that steps: its instruction is typed, its values have the forms of their types, and what it uses can go.
use Rattle.std.proofs.Common.{◌≡◌, ℕ, ◌*◌, ◌^◌, ◌<◌, ◌≤◌, not, true, false, length, reverse, Some, IsSome, refl, sym, ap, subst, ◌∙◌, arith}
use Rattle.std.specs.Prelude.{slice_get, option_map}
use Rattle.std.proofs.lemmas.Bool.Decides.{nat_tests}
use Rattle.law_counts_sums.specs.Below.fr_base.declared.instruction.Instr.{Instr}
use Rattle.law_counts_sums.specs.Below.fr_base.declared.step.Fresh.{Fresh}
use Rattle.law_counts_sums.specs.Below.fr_code.CodeTypes.{Entry}
use Rattle.law_counts_sums.specs.Below.fr_code.CodeTable.{Leads, Successors}
use Rattle.law_counts_sums.specs.Below.thread_state.View.{ThreadState, is_over}
use Rattle.law_counts_sums.specs.Below.thread_state.declared.phase.Phase.{Phase}
use Rattle.law_counts_sums.specs.Below.thread_state.declared.phase.Phase.TheVariants as phase
use Rattle.law_counts_sums.specs.Below.migration.Packing.{unpin_all}
use Rattle.law_counts_sums.specs.Below.mutex_home.Mutexes.{can_make}
use Rattle.law_counts_sums.specs.Below.server_model.declared.event.What.TheVariants.{Step}
use Rattle.law_counts_sums.specs.Below.server_model.Servers.{Server, Cluster, server_at}
use Rattle.law_counts_sums.specs.Below.server_model.Work.{Hand, thread_in, then_some}
use Rattle.law_counts_sums.specs.Below.server_model.NewWords.{can_grow}
use Rattle.law_counts_sums.specs.Below.server_model.Commit.{done, settle}
use Rattle.law_counts_sums.specs.Below.server_model.Events.{can_step, has_phase, enabled, begin_work, committed, done_step, step, step_in, stepped}
use Rattle.law_counts_sums.specs.Below.coherent_memory.Names.{tot, if_so}
use Rattle.law_counts_sums.specs.Below.coherent_memory.Things.{things_of}
use Rattle.law_counts_sums.specs.Below.coherent_memory.Follow.{Standing}
use Rattle.law_counts_sums.specs.Below.coherent_memory.Sight.{sight}
use Rattle.law_counts_sums.specs.Below.coherent_memory.Naming.{events_of, large_counts, many_names}
use Rattle.law_counts_sums.specs.Laws.{FewEvents, HasResult}
use Rattle.law_counts_sums.proofs.Each.{at_most}
use Rattle.law_counts_sums.proofs.Events.{tot-server}
use Rattle.law_counts_sums.proofs.Bags.{counts_of}
use Rattle.law_counts_sums.proofs.ThreadThere.{thread_there}
use Rattle.law_counts_sums.proofs.HaveResults.{some_map, applied}
use Rattle.law_words_paths.specs.Below.coherent_types.Names.{NameTypes, names_of}
use Rattle.law_words_paths.specs.Below.coherent_types.ClusterTypes.{Types, IsCoherent, slots_wrong, temps_wrong, entry_wrong, forms_of}
use Rattle.law_words_paths.specs.paths.HeapStore.{GoesOn, HasPaths}
use Rattle.law_words_paths.proofs.paths.Alike.{coherent_has_paths}
use Rattle.law_words_paths.proofs.paths.Contained.{among_thread}
use Rattle.law_words_paths.proofs.paths.Forms.{running_typed, none_of}
use Rattle.law_words_paths.proofs.paths.Sole.{some_is}
use Rattle.law_results_reads.proofs.Usable.{Usable, used}

-- a done step settles where what its walk uses can go
pub settled : (names : Fresh) (h : Hand) → IsSome (unpin_all h.thread.walk h.work.rest.cache) → IsSome (committed (done names h))
settled names h u = some_map (done_step names) (settle h) (some_map _ _ u)

not_over : (p : Phase) → can_step p ≡ true → is_over p ≡ false
not_over phase.Over e = absurd (cc e)
not_over _ e = refl

-- a thread that steps, at its server
pub record Steps (k : Cluster) (n t : ℕ) (s : Server) (y : ThreadState) (i : Instr) : Type 0 where
  pub coherent : IsCoherent k
  pub few : FewEvents k
  pub here : server_at k.servers n ≡ Some s
  pub on : enabled k.options s (Step t) ≡ true
  pub at : thread_in s.threads t ≡ Some y
  pub code : slice_get k.code y.pc ≡ Some i

module _ (k : Cluster) (n t : ℕ) (s : Server) (y : ThreadState) (i : Instr) (z : Steps k n t s y i) where
  abbrev pub hand : Hand
  hand = record { work = begin_work s.rest; thread = y }

  abbrev pub standing : Standing
  standing = record { server = s.rest.number; packed = false; thread = y }

  pub able : can_step y.phase ≡ true
  able = subst (λ o. has_phase can_step o ≡ true) z.at z.on

  pub paths : HasPaths k
  paths = coherent_has_paths k z.coherent

  pub goes : GoesOn k standing
  goes = record { among = (among_thread (sight k).ground.threads t standing (thread_there k z.coherent.sound n s z.here t y z.at)).0; going = not_over y.phase able }

  abbrev pub types : Types k
  types = paths.types

  abbrev pub names : NameTypes
  names = names_of types.object types.typing.gives

  -- what typing knows before the instruction
  abbrev pub entry : Entry
  entry = (running_typed k paths standing goes).entry

  pub known : types.table y.pc ≡ Some entry
  known = (running_typed k paths standing goes).known

  pub typed : (ss : Successors) × Leads types.table y.pc entry i ss
  typed =
      let row = types.is_table.rows y.pc entry known in
      let same : row.instruction ≡ i = some_is (sym row.there ∙ z.code) in
      (row.successors, subst (λ j. Leads types.table y.pc entry j row.successors) same row.leads)

  forms : forms_of names y entry ≡ 0
  forms =
      let all = none_of (λ x. if_so (not (is_over x.thread.phase)) (entry_wrong (forms_of names x.thread) (types.table x.thread.pc))) standing (sight k).ground.threads types.forms goes.among in
      let going : entry_wrong (forms_of names y) (types.table y.pc) ≡ 0 = sym (ap (λ b. if_so (not b) (entry_wrong (forms_of names y) (types.table y.pc))) goes.going) ∙ all in
      sym (ap (entry_wrong (forms_of names y)) known) ∙ going

  pub slots_fit : slots_wrong names entry.env (reverse y.slots) ≡ 0
  slots_fit = omega (arith, forms)

  pub temps_fit : temps_wrong names entry.temps (reverse y.temps) ≡ 0
  temps_fit = omega (arith, forms)

  pub usable : Usable y s.rest.cache
  usable = used k z.coherent.sound n s z.here t y z.at

  -- the step of its instruction is that of the server
  pub has_result : IsSome (step k.options.servers i hand) → HasResult k n (Step t)
  has_result r =
      applied k n (Step t) s z.here z.on
      (subst (λ o. IsSome (option_map (stepped s) (then_some (option_map (λ x. record { work = begin_work s.rest; thread = x }) o) (step_in k.code k.options.servers)))) (sym z.at)
      (some_map (stepped s) (step_in k.code k.options.servers hand) (subst (λ o. IsSome (then_some o (λ j. step k.options.servers j hand))) (sym z.code) r)))

  -- FEW EVENTS

  -- an address is left
  pub grows : can_grow s.rest.partition ≡ true
  grows =
      let f = large_counts (events_of (sight k)) in
      let none : tot f (things_of k) ≡ 0 = z.coherent.sound.names.counts_bounded in
      let mine : f (counts_of s.rest.number s.events s.rest) ≡ 0 = omega (arith, none, (tot-server f k.servers n s s z.here).0) in
      let next : length s.rest.partition.cells ≤ 16 * events_of (sight k) = at_most (length s.rest.partition.cells) (16 * events_of (sight k)) (omega (arith, mine)) in
      let below : length s.rest.partition.cells < 2 ^ 40 = omega (arith, next, z.few) in
      grind (arith, nat_tests, below)

  -- a number of a mutex is left
  pub makes : can_make s.rest.mutexes ≡ true
  makes =
      let f = many_names (events_of (sight k)) in
      let none : tot f (things_of k) ≡ 0 = z.coherent.sound.names.few_names in
      let mine : f (counts_of s.rest.number s.events s.rest) ≡ 0 = omega (arith, none, (tot-server f k.servers n s s z.here).0) in
      let made : s.rest.mutexes.made ≤ 2 * events_of (sight k) = at_most s.rest.mutexes.made (2 * events_of (sight k)) (omega (arith, mine)) in
      let below : s.rest.mutexes.made < 4294967295 = omega (arith, made, z.few) in
      grind (arith, nat_tests, below)
