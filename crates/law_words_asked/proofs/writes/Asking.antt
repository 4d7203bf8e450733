-- A step that writes through stars and ends in a request.
use Rattle.std.proofs.Common.{◌≡◌, ℕ, true, Option, Some, None, option_map, refl, sym, subst, arith}
use Rattle.std.specs.Prelude.{slice_get, take, drop as drop_first, length}
use Rattle.law_results_events.specs.Below.fr_base.declared.place.Lval.{Lval}
use Rattle.law_results_events.specs.Below.fr_base.declared.step.Fresh.TheVariants as fresh
use Rattle.law_results_events.specs.Below.fr_base.declared.instruction.Instr.{Instr}
use Rattle.law_results_events.specs.Below.fr_base.declared.instruction.Instr.TheVariants as instr
use Rattle.law_results_events.specs.Below.journal.View.{EntryView}
use Rattle.law_results_events.specs.Below.thread_state.View.{ThreadState}
use Rattle.law_results_events.specs.Below.server_model.declared.event.What.{What}
use Rattle.law_results_events.specs.Below.server_model.declared.event.What.TheVariants.{Step}
use Rattle.law_results_events.specs.Below.server_model.Servers.{Server, Cluster, server_at}
use Rattle.law_results_events.specs.Below.server_model.Work.{Hand, thread_in, then_some}
use Rattle.law_results_events.specs.Below.server_model.Clusters.{with_server, hand_over_newer, done_at, apply}
use Rattle.law_results_events.specs.Below.server_model.Places.{Spot, in_slot}
use Rattle.law_results_events.specs.Below.server_model.Prepare.{Prepared, ready, requested, nothing, assigned, read_or_taken, prepare, write_stars}
use Rattle.law_results_events.specs.Below.server_model.Commit.{goes_on, go_on, read, assign, commit, settle}
use Rattle.law_results_events.specs.Below.server_model.Events.{enabled, begin_work, Stepped, done_step, wait_step, committed, prepared, step, step_in, stepped, does}
use Rattle.law_results_events.specs.Below.coherent_memory.Things.{at_slot, things_of}
use Rattle.law_results_events.specs.Below.coherent_types.ClusterTypes.{IsCoherent}
use Rattle.law_results_events.specs.Below.law_words_paths.words.Reworded.{HasPlaces}
use Rattle.law_results_events.specs.Below.law_words_paths.words.Unmoved.{taking_by}
use Rattle.law_results_events.specs.Below.law_counts_sums.Laws.{Gives, GoTo, FewEvents}
use Rattle.law_results_events.proofs.Below.law_counts_sums.Results.{map_gives, over_gives, test_gives, both_give}
use Rattle.law_results_events.proofs.Below.law_counts_sums.Applied.{go_with}
use Rattle.law_results_events.proofs.Below.law_counts_sums.Sending.{applied_part, each_event_sends}
use Rattle.law_results_events.proofs.Below.law_results_reads.Known.{Steps}
use Rattle.law_results_events.proofs.Below.law_words_kept.stays.Alike.{Alike}
use Rattle.law_results_events.proofs.Below.law_words_kept.stays.Sites.{handed_over}
use Rattle.law_results_events.proofs.Below.law_words_kept.stays.Steps.{TakesNoneHere}
use Rattle.law_results_events.proofs.writes.Route.{a_slot, begins}
use Rattle.law_results_events.specs.Below.law_words_kept.prepared.Requests.{WordsRise}
use Rattle.law_results_events.proofs.Below.law_words_kept.prepared.Hands.{places}
use Rattle.law_results_events.proofs.Below.law_words_kept.prepared.Asking.{found_number}
use Rattle.law_words_asked.specs.writes.Writing.{WritesThrough, assigns, moves, WritesThatAsk}
use Rattle.law_words_asked.proofs.writes.Onward.{holds_alike}
use Rattle.law_words_asked.proofs.writes.Later.{later_itself}
use Rattle.law_words_asked.proofs.writes.Passing.{Asked, first_state}
use Rattle.law_words_asked.proofs.writes.Hops.{Mine}
use Rattle.law_words_asked.proofs.writes.Walks.{all_mine}
use Rattle.law_words_asked.proofs.writes.Ways.{takes_none, cell_there, place, route, written_there, words_there}

-- the words hold with the server put back, where the entry is such
abbrev pub There : (EntryView → Type 0) → Cluster → Server → Server × EntryView → Type 0
There Q k s r = Q r.1 → WordsRise k (record k { servers = with_server k.servers s.rest.number r.0 }) × HasPlaces (record k { servers = with_server k.servers s.rest.number r.0 })

module _ (k : Cluster) (coherent : IsCoherent k) (few : FewEvents k) (s : Server) (here : server_at k.servers s.rest.number ≡ Some s) (t : ℕ) (y : ThreadState) (at : thread_in s.threads t ≡ Some y)
    (on : enabled k.options s (Step t) ≡ true) (i : Instr) (code : slice_get k.code y.pc ≡ Some i) (w : Lval) (d : ℕ) (through : WritesThrough i w d) where
  abbrev h0 : Hand
  h0 = record { work = begin_work s.rest; thread = y }

  abbrev A : Hand → Type 0
  A = Asked k coherent s here t y at

  abbrev Fine : Prepared → Type 0
  Fine = Mine k coherent s here t y at

  abbrev pub steps : Steps k s.rest.number t s y i
  steps = record { coherent = coherent; few = few; here = here; on = on; at = at; code = code }

  untaken : TakesNoneHere k.code y
  untaken = subst (λ j. taking_by y.number y.phase j ≡ None) (sym code) (takes_none y.number y.phase i w d through)

  -- its place is followed
  pub followed : Fine (write_stars w.depth 0 h0 (in_slot w.slot))
  followed =
      let n = s.rest.number in
      let way = route k n t s y i steps w d through in
      all_mine k coherent s here t y at s.rest y (cell_there k n t s y i steps w d through) (place k n t s y i steps w d through) w.depth way (written_there k n t s y i steps w d through) (words_there k n t s y i steps w d through) w.depth 0 (omega arith) h0 (in_slot w.slot)
      (at_slot y.number w.slot) refl (a_slot w.slot) (begins s.rest y (cell_there k n t s y i steps w d through) (place k n t s y i steps w d through) h0 refl refl)
      (record { state = first_state k coherent s here t y at untaken; later = later_itself s.rest.partition; through = tt })

  -- where no plain step is done
  abbrev Undone : Stepped → Type 0
  Undone x = x.names ≡ None → A x.hand

  waits_so : (h : Hand) → A h → A (wait_step h).hand
  waits_so h g = record { ok = record { number = g.ok.number; thread = g.ok.thread; bag = g.ok.bag }; words = g.words }

  done_so : (o : Option Hand) → Gives Undone (committed (goes_on o))
  done_so None = tt
  done_so (Some h2) = map_gives Undone (settle (go_on h2)) (done_step fresh.None) (λ h3 e none. absurd (cc none))

  prepared_so : (servers : ℕ) (j : Instr) (x : Prepared) → Fine x → ((h : Hand) (sp : Spot) → Gives Undone (committed (commit servers j sp h))) → Gives Undone (prepared servers j x)
  prepared_so servers j (ready h sp) g f = f h sp
  prepared_so servers j (requested h) g f = λ e. waits_so h g
  prepared_so servers j nothing g f = tt

  step_by : (servers : ℕ) (j : Instr) → WritesThrough j w d → Gives Undone (step servers j h0)
  step_by servers _ (assigns o e) =
      subst (λ m. Gives Undone (prepared servers (instr.Assign w o) (prepare (assigned w m y) h0))) (sym e)
      (prepared_so servers (instr.Assign w o) (write_stars w.depth 0 h0 (in_slot w.slot)) followed (λ h sp. done_so (assign w w.depth o sp h)))
  step_by servers _ (moves e) =
      subst (λ m. Gives Undone (prepared servers (instr.Read w true) (prepare (Some (read_or_taken w m true)) h0))) (sym e)
      (prepared_so servers (instr.Read w true) (write_stars w.depth 0 h0 (in_slot w.slot)) followed (λ h sp. done_so (read true sp h)))

  -- AT ITS SERVER

  pub server_asks : Gives (There (λ v. v.done ≡ None) k s) (does k.code k.options s (Step t))
  server_asks =
      subst (λ o. Gives (There (λ v. v.done ≡ None) k s) (option_map (stepped s) (then_some (option_map (λ v. record { work = begin_work s.rest; thread = v }) o) (step_in k.code k.options.servers)))) (sym at)
      (subst (λ o. Gives (There (λ v. v.done ≡ None) k s) (option_map (stepped s) (then_some o (λ j. step k.options.servers j h0)))) (sym code)
      (over_gives Undone (There (λ v. v.done ≡ None) k s) (step k.options.servers i h0) (stepped s) (step_by k.options.servers i through) (λ x g e. ((g e).words, places k coherent s here t y at x.hand (g e).ok))))

-- IN ITS CLUSTER

-- what is shown of a cluster before messages are handed over
record Before (k c : Cluster) : Type 0 where
  cluster : Cluster
  words : WordsRise k cluster
  places : HasPlaces cluster
  same : c.code ≡ cluster.code
  alike : Alike cluster.code (things_of cluster) (things_of c)

handed : (k : Cluster) (s : Server) (Q : EntryView → Type 0) → server_at k.servers s.rest.number ≡ Some s → (o : Option (Server × EntryView)) → Gives (There Q k s) o
    → Gives (λ (r : Server × EntryView). GoTo (with_server k.servers s.rest.number r.0) (drop_first (length s.rest.outbox) r.0.rest.outbox)) o
    → Gives (λ (d : Cluster × EntryView). Q d.1 → Before k d.0) (option_map (λ r. (record k { servers = hand_over_newer s.rest.number (length s.rest.outbox) r.0 k.servers }, r.1)) o)
handed k s Q here None a g = tt
handed k s Q here (Some r) a g = λ q.
    let n = s.rest.number in
    let older = length s.rest.outbox in
    let x = a q in record {
      cluster = record k { servers = with_server k.servers n r.0 };
      words = x.0;
      places = x.1;
      same = refl;
      alike = handed_over n older s r.0 k.servers here (go_with k.servers n r.0 (take older r.0.rest.outbox) (drop_first older r.0.rest.outbox) g);
    }

-- so the words hold once messages are handed over
pub kept_at : (k : Cluster) (s : Server) (a : What) (Q : EntryView → Type 0) → IsCoherent k → FewEvents k → server_at k.servers s.rest.number ≡ Some s → (enabled k.options s a ≡ true → Gives (There Q k s) (does k.code k.options s a))
    → Gives (λ (d : Cluster × EntryView). Q d.1 → WordsRise k d.0) (apply k (record { server = s.rest.number; what = a }))
kept_at k s a Q coherent few h go =
    both_give (λ (d : Cluster × EntryView). Q d.1 → Before k d.0) (λ (d : Cluster × EntryView). HasPlaces d.0) (λ (d : Cluster × EntryView). Q d.1 → WordsRise k d.0) (apply k (record { server = s.rest.number; what = a }))
    (subst (λ o. Gives (λ (d : Cluster × EntryView). Q d.1 → Before k d.0) (then_some o (λ x. option_map (λ d. (record k { servers = hand_over_newer s.rest.number (length x.rest.outbox) d.0 k.servers }, d.1)) (done_at k a x)))) (sym h)
    (handed k s Q h (done_at k a s) (test_gives (There Q k s) (enabled k.options s a) (does k.code k.options s a) go) (each_event_sends k (record { server = s.rest.number; what = a }) coherent.sound few s h)))
    (applied_part HasPlaces (λ c g. record { numbers_differ = g.numbers_differ; home_of_each = g.home_of_each; owner_of_each = g.owner_of_each }) k (record { server = s.rest.number; what = a }) coherent.sound few)
    (λ d b c q. (let m = b q in holds_alike m.cluster d.0 m.places c m.same m.alike m.words))

pub kept_where : (k : Cluster) (s : Server) (t : ℕ) (Q : EntryView → Type 0) → IsCoherent k → FewEvents k → server_at k.servers s.rest.number ≡ Some s → (enabled k.options s (Step t) ≡ true → Gives (There Q k s) (does k.code k.options s (Step t)))
    → Gives (λ (d : Cluster × EntryView). Q d.1 → WordsRise k d.0) (apply k (record { server = s.rest.number; what = Step t }))
kept_where k s t Q coherent few h go = kept_at k s (Step t) Q coherent few h go

pub writes_that_ask : WritesThatAsk
writes_that_ask k number t s y i w d coherent few here at code through =
    subst (λ n. server_at k.servers n ≡ Some s → Gives (λ (x : Cluster × EntryView). x.1.done ≡ None → WordsRise k x.0) (apply k (record { server = n; what = Step t }))) (found_number number k.servers s here)
    (λ h. kept_where k s t (λ v. v.done ≡ None) coherent few h (λ on. server_asks k coherent few s h t y at on i code w d through)) here
