-- A write through stars, from what its plain step does where the place is ready to the words of the cluster after its event.
use Rattle.std.proofs.Common.{◌≡◌, ℕ, true, [], ◌++◌, Option, Some, None, option_map, refl, sym, ap, subst, arith}
use Rattle.std.specs.Prelude.{⊤, slice_get}
use Rattle.law_words_asked.specs.Below.fr_base.declared.place.Lval.{Lval}
use Rattle.law_words_asked.specs.Below.fr_base.declared.name.ObjNo.{ObjNo}
use Rattle.law_words_asked.specs.Below.fr_base.declared.step.Fresh.TheVariants as fresh
use Rattle.law_words_asked.specs.Below.fr_base.declared.instruction.Instr.{Instr}
use Rattle.law_words_asked.specs.Below.fr_base.declared.instruction.Instr.TheVariants as instr
use Rattle.law_words_asked.specs.Below.journal.View.{EntryView}
use Rattle.law_words_asked.specs.Below.heap_partition.declared.value.Cell.{Cell}
use Rattle.law_words_asked.specs.Below.heap_partition.declared.value.Owned.{Owned}
use Rattle.law_words_asked.specs.Below.thread_state.View.{ThreadState}
use Rattle.law_words_asked.specs.Below.server_model.declared.event.What.TheVariants.{Step}
use Rattle.law_words_asked.specs.Below.server_model.Servers.{Server, Cluster, server_at}
use Rattle.law_words_asked.specs.Below.server_model.Work.{Hand, thread_in, without_thread, then_some}
use Rattle.law_words_asked.specs.Below.server_model.Clusters.{apply}
use Rattle.law_words_asked.specs.Below.server_model.Places.{Spot, in_slot}
use Rattle.law_words_asked.specs.Below.server_model.Prepare.{Prepared, ready, requested, nothing, assigned, read_or_taken, prepare, write_stars}
use Rattle.law_words_asked.specs.Below.server_model.Commit.{goes_on, go_on, commit, settle}
use Rattle.law_words_asked.specs.Below.server_model.Events.{enabled, begin_work, Stepped, done_step, committed, prepared, step, step_in, stepped, does}
use Rattle.law_words_asked.specs.Below.coherent_memory.Things.{Location, at_slot, servers_things}
use Rattle.law_words_asked.specs.Below.coherent_types.ClusterTypes.{IsCoherent}
use Rattle.law_words_asked.specs.Below.law_words_paths.words.Reworded.{HasPlaces}
use Rattle.law_words_asked.specs.Below.law_words_paths.words.Unmoved.{taking_by, LeavesWords}
use Rattle.law_words_asked.specs.Below.law_counts_sums.Kinds.{instr_kind}
use Rattle.law_words_asked.proofs.Below.law_counts_sums.Proved.{IsProvedKind}
use Rattle.law_words_asked.specs.Below.law_counts_sums.Laws.{Gives, FewEvents}
use Rattle.law_words_asked.proofs.Below.law_counts_sums.Results.{over_gives, both_give}
use Rattle.law_words_asked.proofs.Below.law_counts_sums.Bags.{all_standing}
use Rattle.law_words_asked.proofs.Below.law_counts_sums.Events.{others_of}
use Rattle.law_words_asked.proofs.Below.law_counts_sums.GiftsTaken.{gift_fits}
use Rattle.law_words_asked.proofs.Below.law_counts_sums.QuietSteps.{GiftFits}
use Rattle.law_words_asked.proofs.Below.law_counts_sums.RulesKeep.{sums_kept, sums_spend}
use Rattle.law_words_asked.proofs.Below.law_counts_sums.Steps.{step_keeps}
use Rattle.law_words_asked.proofs.Below.law_words_kept.stays.Sites.{HandAlike}
use Rattle.law_words_asked.proofs.Below.law_words_kept.stays.Steps.{TakesNoneHere, settles}
use Rattle.law_words_asked.specs.Below.law_words_kept.prepared.Requests.{WordsRise}
use Rattle.law_words_asked.proofs.Below.law_words_kept.prepared.Rising.{rise_left}
use Rattle.law_words_asked.proofs.Below.law_words_kept.prepared.Hands.{put, places, first_hand}
use Rattle.law_words_asked.proofs.Below.law_words_kept.prepared.Asking.{found_number}
use Rattle.law_words_values.proofs.carried.Hands.{Together, each_together, together_chain, puts_alike}
use Rattle.law_words_values.proofs.carried.Steps.{goes_next}
use Rattle.law_words_asked.proofs.Below.law_results_reads.Known.{Steps}
use Rattle.law_words_asked.proofs.Below.law_results_events.writes.Route.{Writing, At, a_slot, Fine, begins, all_hops}
use Rattle.law_words_asked.specs.writes.Writing.{WritesThrough, assigns, moves}
use Rattle.law_words_asked.proofs.writes.Onward.{holds_alike}
use Rattle.law_words_asked.proofs.writes.Passing.{Fits}
use Rattle.law_words_asked.proofs.writes.Hops.{Walk, Mine}
use Rattle.law_words_asked.proofs.writes.Ways.{takes_none, cell_there, place, route}
use Rattle.law_words_asked.proofs.writes.Asking.{There, steps, followed, kept_where}

pub hold_on : {k a b : Cluster} → LeavesWords a b → WordsRise k a → WordsRise k b
hold_on p w = rise_left p w

-- no gift stands at such an instruction
free_by : (i : Instr) (w : Lval) (d : ℕ) (g : Option Owned) → WritesThrough i w d → GiftFits i g → g ≡ None
free_by _ w d g (assigns o e) f = f
free_by _ w d g (moves e) f = f

-- its kind is of those whose steps keep the sums
kind_by : (i : Instr) (w : Lval) (d : ℕ) → WritesThrough i w d → IsProvedKind (instr_kind i)
kind_by _ w d (assigns o e) = tt
kind_by _ w d (moves e) = tt

gives_all : {X : Type 0} (Q : X → Type 0) (x : Option X) → Gives (λ a. ⊤ → Q a) x → Gives Q x
gives_all Q None g = tt
gives_all Q (Some a) g = g tt

module _ (k : Cluster) (coherent : IsCoherent k) (few : FewEvents k) (s : Server) (here : server_at k.servers s.rest.number ≡ Some s) (t : ℕ) (y : ThreadState) (at : thread_in s.threads t ≡ Some y)
    (on : enabled k.options s (Step t) ≡ true) (i : Instr) (code : slice_get k.code y.pc ≡ Some i) (w : Lval) (d : ℕ) (through : WritesThrough i w d) where
  abbrev n : ℕ
  n = s.rest.number

  abbrev O : Hand → Type 0
  O = Fits k coherent s here t y at

  abbrev P : Hand → Cluster
  P = put k coherent s here t y at

  abbrev h0 : Hand
  h0 = record { work = begin_work s.rest; thread = y }

  abbrev z : Steps k n t s y i
  z = steps k coherent few s here t y at on i code w d through

  abbrev pub cells_at : ObjNo → Option Cell
  cells_at = cell_there k n t s y i z w d through

  abbrev pub place_at : ℕ → Option Location
  place_at = place k n t s y i z w d through

  -- a hand that words see as one in which they hold
  pub record Holds (h : Hand) : Type 0 where
    pub reached : Hand
    pub words : WordsRise k (P reached)
    pub fits : O reached
    pub same : Together k.code n reached h
    pub untaken : TakesNoneHere k.code h.thread

  pub free_at_start : y.gift ≡ None
  free_at_start = free_by i w d y.gift through (gift_fits k coherent.sound n s here t y at i code).0

  pub untaken_at_start : TakesNoneHere k.code y
  untaken_at_start = subst (λ j. taking_by y.number y.phase j ≡ None) (sym code) (takes_none y.number y.phase i w d through)

  -- THE STEP

  -- what is kept of words
  abbrev Ends : Stepped → Type 0
  Ends x = HasPlaces (P x.hand) → WordsRise k (P x.hand)

  -- the step is done
  over : (r : Option Hand) → Gives Holds r → Gives Ends (committed (goes_on r))
  over None g = tt
  over (Some h2) g =
      over_gives (HandAlike k.code n [] (go_on h2)) Ends (settle (go_on h2)) (done_step fresh.None) (settles k.code n (go_on h2))
      (λ h3 a spread.
      let same : Together k.code n g.reached h3 = together_chain g.same (together_chain (goes_next k.code n h2 g.untaken) (each_together a)) in
      holds_alike (P g.reached) (P h3) (places k coherent s here t y at g.reached g.fits) spread refl (puts_alike k coherent.sound s here t y at g.reached h3 g.fits.number g.fits.thread same) g.words)

  -- what the plain step does where the place is ready
  pub record Does : Type 0 where
    pub does_it : Spot → Hand → Option Hand
    pub commits : (servers : ℕ) (sp : Spot) (h : Hand) → commit servers i sp h ≡ goes_on (does_it sp h)
    pub holds : (h : Hand) (sp : Spot) (l : Location) → place_at w.depth ≡ Some l → At s.rest y cells_at place_at h.work.rest.partition w.depth sp l → Writing s.rest y cells_at place_at w.depth h → Walk k coherent s here t y at h sp → Gives Holds (does_it sp h)

  fine : Fine s.rest y cells_at place_at ⊤ w.depth (write_stars w.depth 0 h0 (in_slot w.slot))
  fine = all_hops s.rest y cells_at place_at ⊤ w.depth (route k n t s y i z w d through) (λ j less le. tt) w.depth 0 (omega arith) h0 (in_slot w.slot) (at_slot y.number w.slot) refl (a_slot w.slot) (begins s.rest y cells_at place_at h0 refl refl)

  -- its place is prepared
  prepared_by : (servers : ℕ) (j : Instr) → WritesThrough j w d → step servers j h0 ≡ prepared servers j (write_stars w.depth 0 h0 (in_slot w.slot))
  prepared_by servers _ (assigns o e) = ap (λ m. prepared servers (instr.Assign w o) (prepare (assigned w m y) h0)) e
  prepared_by servers _ (moves e) = ap (λ m. prepared servers (instr.Read w true) (prepare (Some (read_or_taken w m true)) h0)) e

  ok_steps : Gives (λ (x : Stepped). O x.hand) (step k.options.servers i h0)
  ok_steps = step_keeps sums_kept n s.events t (all_standing n (without_thread s.threads t) ++ servers_things (others_of k.servers n)) k.options.servers i h0 (kind_by i w d through) (λ v. sums_spend) (first_hand k coherent s here t y at).ok

  module _ (does_so : Does) where
    ready_so : (servers : ℕ) (x : Prepared) → Fine s.rest y cells_at place_at ⊤ w.depth x → Mine k coherent s here t y at x → Gives Ends (prepared servers i x)
    ready_so servers (ready h sp) f g = subst (λ c. Gives Ends (committed c)) (sym (does_so.commits servers sp h)) (over (does_so.does_it sp h) (does_so.holds h sp f.0 f.1 f.2 f.3 g))
    ready_so servers (requested h) f g = λ spread. g.words
    ready_so servers nothing f g = tt

    step_so : Gives Ends (step k.options.servers i h0)
    step_so =
        subst (Gives Ends) (sym (prepared_by k.options.servers i through))
        (ready_so k.options.servers (write_stars w.depth 0 h0 (in_slot w.slot)) fine (followed k coherent few s here t y at on i code w d through))

    -- at its server
    pub server_so : Gives (There (λ v. ⊤) k s) (does k.code k.options s (Step t))
    server_so =
        subst (λ r. Gives (There (λ v. ⊤) k s) (option_map (stepped s) (then_some (option_map (λ v. record { work = begin_work s.rest; thread = v }) r) (step_in k.code k.options.servers)))) (sym at)
        (subst (λ r. Gives (There (λ v. ⊤) k s) (option_map (stepped s) (then_some r (λ j. step k.options.servers j h0)))) (sym code)
        (over_gives (λ (x : Stepped). O x.hand × Ends x) (There (λ v. ⊤) k s) (step k.options.servers i h0) (stepped s)
        (both_give (λ (x : Stepped). O x.hand) Ends (λ (x : Stepped). O x.hand × Ends x) (step k.options.servers i h0) ok_steps step_so (λ x a b. (a, b)))
        (λ x g q. (let spread = places k coherent s here t y at x.hand g.0 in (g.1 spread, spread)))))

-- IN ITS CLUSTER

pub kept_so : (k : Cluster) (number t : ℕ) (s : Server) (y : ThreadState) (i : Instr) (w : Lval) (d : ℕ) (coherent : IsCoherent k) (few : FewEvents k) → server_at k.servers number ≡ Some s → (at : thread_in s.threads t ≡ Some y) → (code : slice_get k.code y.pc ≡ Some i) → (through : WritesThrough i w d)
    → ((here : server_at k.servers s.rest.number ≡ Some s) (on : enabled k.options s (Step t) ≡ true) → Does k coherent few s here t y at on i code w d through) → Gives (λ (x : Cluster × EntryView). WordsRise k x.0) (apply k (record { server = number; what = Step t }))
kept_so k number t s y i w d coherent few here at code through go =
    subst (λ n. server_at k.servers n ≡ Some s → Gives (λ (x : Cluster × EntryView). WordsRise k x.0) (apply k (record { server = n; what = Step t }))) (found_number number k.servers s here)
    (λ h. gives_all (λ (x : Cluster × EntryView). WordsRise k x.0) (apply k (record { server = s.rest.number; what = Step t })) (kept_where k s t (λ v. ⊤) coherent few h (λ on. server_so k coherent few s h t y at on i code w d through (go h on)))) here
