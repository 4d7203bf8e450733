-- A write through stars, from what its plain step does where the place is ready to the copies of the cluster after its event.
use Rattle.std.proofs.Common.{◌≡◌, ℕ, ◌≤◌, true, false, ◌++◌, Option, Some, None, is_some, refl, sym, ap, subst, ◌∙◌, arith}
use Rattle.std.specs.Prelude.{slice_get}
use Rattle.law_counts_waiting.specs.Below.fr_base.declared.place.Lval.{Lval}
use Rattle.law_counts_waiting.specs.Below.fr_base.declared.name.ObjNo.{ObjNo}
use Rattle.law_counts_waiting.specs.Below.fr_base.declared.instruction.Instr.{Instr}
use Rattle.law_counts_waiting.specs.Below.fr_base.declared.instruction.Instr.TheVariants as instr
use Rattle.law_counts_waiting.specs.Below.fr_code.CodeTypes.{Entry, Table, InstrTypes, i_assign, i_move}
use Rattle.law_counts_waiting.specs.Below.heap_partition.declared.value.Cell.{Cell}
use Rattle.law_counts_waiting.specs.Below.thread_state.View.{ThreadState}
use Rattle.law_counts_waiting.specs.Below.server_model.declared.event.What.TheVariants.{Step}
use Rattle.law_counts_waiting.specs.Below.server_model.Servers.{Server, Cluster, server_at}
use Rattle.law_counts_waiting.specs.Below.server_model.Work.{Hand, thread_in, without_thread}
use Rattle.law_counts_waiting.specs.Below.server_model.Places.{Spot, in_slot}
use Rattle.law_counts_waiting.specs.Below.server_model.Prepare.{Prepared, assigned, read_or_taken, prepare, write_stars}
use Rattle.law_counts_waiting.specs.Below.server_model.Commit.{goes_on, commit}
use Rattle.law_counts_waiting.specs.Below.server_model.Events.{enabled, begin_work, Stepped, committed, prepared, step}
use Rattle.law_counts_waiting.specs.Below.coherent_memory.Things.{Location, at_slot, in_cell, servers_things}
use Rattle.law_counts_waiting.specs.Below.coherent_memory.Follow.{Standing}
use Rattle.law_counts_waiting.specs.Below.coherent_memory.OneHeap.{two_in, pair_of}
use Rattle.law_counts_waiting.specs.Below.coherent_memory.Paths.{written_place, path_of, assigning, taking}
use Rattle.law_counts_waiting.specs.Below.coherent_memory.Sight.{sight}
use Rattle.law_counts_waiting.specs.Below.coherent_memory.Walking.{path}
use Rattle.law_counts_waiting.specs.Below.coherent_types.ClusterTypes.{IsCoherent}
use Rattle.law_counts_waiting.specs.Below.law_words_paths.paths.HeapStore.{HasPaths}
use Rattle.law_counts_waiting.proofs.Below.law_words_paths.paths.Forms.{running_typed}
use Rattle.law_counts_waiting.proofs.Below.law_words_paths.paths.Shown.{stands_there}
use Rattle.law_counts_waiting.specs.Below.law_counts_sums.Laws.{Gives, FewEvents}
use Rattle.law_counts_waiting.specs.Below.law_counts_sums.Kinds.{instr_kind}
use Rattle.law_counts_waiting.proofs.Below.law_counts_sums.Proved.{IsProvedKind}
use Rattle.law_counts_waiting.proofs.Below.law_counts_sums.Results.{both_give}
use Rattle.law_counts_waiting.proofs.Below.law_counts_sums.Bags.{all_standing}
use Rattle.law_counts_waiting.proofs.Below.law_counts_sums.Events.{others_of}
use Rattle.law_counts_waiting.proofs.Below.law_counts_sums.RulesKeep.{sums_kept, sums_spend}
use Rattle.law_counts_waiting.proofs.Below.law_counts_sums.Steps.{step_keeps}
use Rattle.law_words_ends.proofs.Below.law_words_kept.prepared.Hands.{put, places, first_hand}
use Rattle.law_words_ends.proofs.Below.law_words_kept.prepared.Asking.{found_number}
use Rattle.law_counts_waiting.proofs.Below.law_results_reads.Known.{Steps, standing, paths, goes, types, entry, typed}
use Rattle.law_counts_waiting.proofs.Below.law_results_reads.Readers.{to_entry}
use Rattle.law_counts_waiting.proofs.waits.Written.{InChain, chain_of}
use Rattle.law_words_ends.proofs.Below.law_results_events.writes.Route.{Writing, At, a_slot, begins}
use Rattle.law_words_ends.specs.Below.law_words_asked.writes.Writing.{WritesThrough, assigns, moves}
use Rattle.law_words_ends.proofs.Below.law_words_asked.writes.Passing.{Fits, first_state}
use Rattle.law_words_ends.proofs.Below.law_words_asked.writes.Later.{later_itself}
use Rattle.law_words_ends.proofs.Below.law_words_asked.writes.Hops.{Walk}
use Rattle.law_words_ends.proofs.Below.law_words_asked.writes.Ways.{may, ends_none, cell_there, place, route, written_there, words_there}
use Rattle.law_words_ends.proofs.Below.law_words_asked.writes.Asking.{steps}
use Rattle.law_words_ends.proofs.Below.law_words_writes.Doing.{untaken_at_start}
use Rattle.law_copies_kept.proofs.references.Asked.{ready_asks}
use Rattle.law_copies_kept.specs.objects.Fresh.{LeavesRight}
use Rattle.law_copies_kept.proofs.objects.Turned.{none_or_idle}
use Rattle.law_copies_kept.proofs.hidden.Handed.{Left, Sends, Starts, settled_by}
use Rattle.law_copies_writes.proofs.writes.Settling.{start_now, Settles, Ends, over}
use Rattle.law_copies_writes.proofs.writes.Hops.{Now, SentBy, Fair, HadCell}
use Rattle.law_copies_writes.proofs.writes.Walks.{AllFair, ready_fair, asks_fair, no_fair, all_fair}
use Rattle.law_copies_writes.proofs.writes.Routes.{had_cell, passed_uncopied, reference_word, box_stands}

-- a thread that writes through stars waits for no pair
awake : (table : Table) (e e2 : Entry) (i : Instr) (w : Lval) (d : ℕ) → WritesThrough i w d → InstrTypes table e i e2 → e.forked ≡ false
awake table _ _ _ w d (assigns o q) (i_assign takes has opens kept shape below) = refl
awake table _ _ _ w d (moves q) (i_move waits has moved free own_path) = refl

none_paired : (o : Option (ℕ × ℕ)) → is_some o ≡ false → o ≡ None
none_paired None e = refl
none_paired (Some p) e = absurd (cc e)

-- its kind is of those whose steps keep the sums
kind_by : (i : Instr) (w : Lval) (d : ℕ) → WritesThrough i w d → IsProvedKind (instr_kind i)
kind_by _ w d (assigns o e) = tt
kind_by _ w d (moves e) = tt

module _ (k : Cluster) (coherent : IsCoherent k) (few : FewEvents k) (s : Server) (here : server_at k.servers s.rest.number ≡ Some s) (t : ℕ) (y : ThreadState) (at : thread_in s.threads t ≡ Some y)
    (on : enabled k.options s (Step t) ≡ true) (i : Instr) (code : slice_get k.code y.pc ≡ Some i) (w : Lval) (d : ℕ) (through : WritesThrough i w d) where
  abbrev n : ℕ
  n = s.rest.number

  abbrev O : Hand → Type 0
  O = Fits k coherent s here t y at

  abbrev P : Hand → Cluster
  P = put k coherent s here t y at

  abbrev N : Hand → Type 0
  N = Now k coherent s here t y at

  abbrev h0 : Hand
  h0 = record { work = begin_work s.rest; thread = y }

  abbrev z : Steps k n t s y i
  z = steps k coherent few s here t y at on i code w d through

  abbrev x : Standing
  x = standing k n t s y i z

  abbrev c : HasPaths k
  c = paths k n t s y i z

  abbrev cells_at : ObjNo → Option Cell
  cells_at = cell_there k n t s y i z w d through

  abbrev place_at : ℕ → Option Location
  place_at = place k n t s y i z w d through

  pairless : two_in y.phase ≡ None
  pairless =
      let at_it = typed k n t s y i z in
      let to = to_entry (types k n t s y i z).table y.pc (entry k n t s y i z) i at_it.0 at_it.1 (ends_none i w d through) in
      let off : (entry k n t s y i z).forked ≡ false = awake (types k n t s y i z).table (entry k n t s y i z) to.0 i w d through to.1 in
      none_paired (two_in y.phase) (sym (ap (λ o. is_some (pair_of o)) (stands_there k c x (goes k n t s y i z))) ∙ sym (running_typed k c x (goes k n t s y i z)).forks ∙ off)

  writes : written_place (path (sight k) x) ≡ Some w
  writes = ap (λ b. written_place (path_of b y)) z.code ∙ by i through
    where
      by : (i : Instr) → WritesThrough i w d → written_place (path_of (Some i) y) ≡ Some w
      by _ (assigns o e) = ap (λ m. written_place (assigning y.slots w m)) e
      by _ (moves e) = ap (λ m. written_place (taking w m)) e

  -- each object on its way is in a chain of the thread's own slots
  chains : (j : ℕ) (o : ObjNo) → j ≤ w.depth → place_at j ≡ Some (in_cell o) → InChain k c y.number (in_cell o)
  chains j o le located = chain_of k c x (goes k n t s y i z) w j (in_cell o) (may k n t s y i z w d through) le located

  -- WHERE IT IS FOLLOWED

  abbrev AllOf : Prepared → Type 0
  AllOf =
      AllFair k coherent s here t y at s.rest y cells_at place_at w.depth (route k n t s y i z w d through) (written_there k n t s y i z w d through) (words_there k n t s y i z w d through)
      (λ j lt m q located next stood. reference_word k n t s y i z pairless w w.depth (omega arith) writes (route k n t s y i z w d through).leads_there chains (written_there k n t s y i z w d through) j lt m q located next stood)
      (λ j le o located. had_cell k n t s y i z pairless w w.depth (omega arith) writes (route k n t s y i z w d through).leads_there chains (written_there k n t s y i z w d through) here at j le o located)
      (λ j lt passed l p located next box. passed_uncopied k n t s y i z pairless w w.depth (omega arith) writes (route k n t s y i z w d through).leads_there chains (written_there k n t s y i z w d through) j lt passed l p located next
      (box_stands k n t s y i z pairless w w.depth (omega arith) writes (route k n t s y i z w d through).leads_there chains (written_there k n t s y i z w d through) cells_at refl l p box))

  all_followed : AllOf (write_stars w.depth 0 h0 (in_slot w.slot))
  all_followed =
      all_fair k coherent s here t y at s.rest y cells_at place_at w.depth (route k n t s y i z w d through) (written_there k n t s y i z w d through) (words_there k n t s y i z w d through) _ _ _ w.depth 0 (omega arith) h0 (in_slot w.slot) (at_slot y.number w.slot) refl (a_slot w.slot)
      (begins s.rest y cells_at place_at h0 refl refl) (record { state = first_state k coherent s here t y at (untaken_at_start k coherent few s here t y at on i code w d through); later = later_itself s.rest.partition; through = tt }) (record { now = start_now k coherent few s here t y at; covered = tt })

  -- what a cell at its end was
  pub its_cell : (o : ObjNo) → place_at w.depth ≡ Some (in_cell o) → HadCell k coherent s here t y at o
  its_cell o located =
      had_cell k n t s y i z pairless w w.depth (omega arith) writes (route k n t s y i z w d through).leads_there chains (written_there k n t s y i z w d through) here at w.depth (omega arith) o located

  -- what the plain step does where the place is ready
  pub record Does : Type 0 where
    pub does_it : Spot → Hand → Option Hand
    pub commits : (servers : ℕ) (sp : Spot) (h : Hand) → commit servers i sp h ≡ goes_on (does_it sp h)
    pub settles_it : (h : Hand) (sp : Spot) (l : Location) → place_at w.depth ≡ Some l → At s.rest y cells_at place_at h.work.rest.partition w.depth sp l → Writing s.rest y cells_at place_at w.depth h → Walk k coherent s here t y at h sp → Fair k coherent s here t y at h sp l
        → Gives (Settles k coherent few s here t y at) (does_it sp h)

  -- its place is prepared
  prepared_by : (servers : ℕ) (j : Instr) → WritesThrough j w d → step servers j h0 ≡ prepared servers j (write_stars w.depth 0 h0 (in_slot w.slot))
  prepared_by servers _ (assigns o e) = ap (λ m. prepared servers (instr.Assign w o) (prepare (assigned w m y) h0)) e
  prepared_by servers _ (moves e) = ap (λ m. prepared servers (instr.Read w true) (prepare (Some (read_or_taken w m true)) h0)) e

  ok_steps : Gives (λ (a : Stepped). O a.hand) (step k.options.servers i h0)
  ok_steps = step_keeps sums_kept n s.events t (all_standing n (without_thread s.threads t) ++ servers_things (others_of k.servers n)) k.options.servers i h0 (kind_by i w d through) (λ v. sums_spend) (first_hand k coherent s here t y at).ok

  -- and asks for no copy
  asks_none : (servers : ℕ) (p : Prepared) → AllOf p → SentBy k coherent s here t y at s.rest → Gives (λ (a : Stepped). SentBy k coherent s here t y at a.hand.work.rest) (prepared servers i p)
  asks_none servers _ (ready_fair {h = h} {sp = sp} l ends spot way walk fair) mail = ready_asks (none_or_idle k) servers n s.rest.outbox i sp h (subst (SentBy k coherent s here t y at) (sym way.rest) mail)
  asks_none servers _ (asks_fair now sends) mail = sends mail
  asks_none servers _ no_fair mail = tt

  module _ (does_so : Does) where
    ready_so : (servers : ℕ) (p : Prepared) → AllOf p → Gives (Ends k coherent few s here t y at) (prepared servers i p)
    ready_so servers _ (ready_fair {h = h} {sp = sp} l ends spot way walk fair) =
        subst (λ q. Gives (Ends k coherent few s here t y at) (committed q)) (sym (does_so.commits servers sp h)) (over k coherent few s here t y at (does_so.does_it sp h) (does_so.settles_it h sp l ends spot way walk fair))
    ready_so servers _ (asks_fair now sends) = λ spread. now
    ready_so servers _ no_fair = tt

    pub step_left : Gives (Left k coherent.sound few s here t y at i code) (step k.options.servers i h0)
    step_left =
        both_give (λ (a : Stepped). O a.hand) (Ends k coherent few s here t y at) (Left k coherent.sound few s here t y at i code) (step k.options.servers i h0) ok_steps
        (subst (Gives (Ends k coherent few s here t y at)) (sym (prepared_by k.options.servers i through)) (ready_so k.options.servers (write_stars w.depth 0 h0 (in_slot w.slot)) all_followed))
        (λ a g q. let spread = places k coherent s here t y at a.hand g in (q spread, spread))

    pub step_sends : Starts k coherent.sound few s here t y at i code → Gives (Sends k coherent.sound few s here t y at i code) (step k.options.servers i h0)
    step_sends mail = subst (Gives (Sends k coherent.sound few s here t y at i code)) (sym (prepared_by k.options.servers i through)) (asks_none k.options.servers (write_stars w.depth 0 h0 (in_slot w.slot)) all_followed mail)

-- IN ITS CLUSTER

pub writes_right : (k : Cluster) (number t : ℕ) (s : Server) (y : ThreadState) (i : Instr) (w : Lval) (d : ℕ) (coherent : IsCoherent k) (few : FewEvents k) → server_at k.servers number ≡ Some s → (at : thread_in s.threads t ≡ Some y) → (code : slice_get k.code y.pc ≡ Some i) → (through : WritesThrough i w d)
    → ((here : server_at k.servers s.rest.number ≡ Some s) (on : enabled k.options s (Step t) ≡ true) → Does k coherent few s here t y at on i code w d through) → LeavesRight k (record { server = number; what = Step t })
writes_right k number t s y i w d coherent few here at code through go =
    subst (λ n. server_at k.servers n ≡ Some s → LeavesRight k (record { server = n; what = Step t })) (found_number number k.servers s here)
    (λ h. settled_by k coherent.sound few s h t y at i code (λ on. step_left k coherent few s h t y at on i code w d through (go h on)) (λ on mail. step_sends k coherent few s h t y at on i code w d through (go h on) mail)) here
