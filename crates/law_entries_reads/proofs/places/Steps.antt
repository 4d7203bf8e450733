-- From what a step leaves at its server to the event: where it is done, its entry is legal and leads on.
use Rattle.std.proofs.Common.{◌≡◌, ℕ, true, List, [], ◌++◌, length, take, drop, Option, Some, None, is_some, refl, sym, subst, ◌∙◌}
use Rattle.std.specs.Prelude.{slice_get, option_map}
use Rattle.law_copies_kept.specs.Below.fr_base.declared.instruction.Instr.{Instr}
use Rattle.law_copies_kept.specs.Below.thread_state.View.{ThreadState}
use Rattle.law_copies_kept.specs.Below.journal.View.{EntryView}
use Rattle.law_copies_kept.specs.Below.server_model.declared.event.Event.{Event}
use Rattle.law_copies_kept.specs.Below.server_model.declared.event.What.TheVariants.{Step}
use Rattle.law_copies_kept.specs.Below.server_model.Servers.{Server, Cluster, server_at}
use Rattle.law_copies_kept.specs.Below.server_model.Work.{Hand, then_some, thread_in, put_back}
use Rattle.law_copies_kept.specs.Below.server_model.Events.{can_step, has_phase, enabled, does, begin_work, begin_at, Stepped, step, step_in, stepped}
use Rattle.law_copies_kept.specs.Below.server_model.Clusters.{with_server, hand_over_newer, done_at, apply}
use Rattle.law_entries_variables.specs.Below.coloured_heap.Heap.{Coloured}
use Rattle.law_copies_kept.specs.Below.coherent_memory.Things.{Thing, server_things, servers_things, things_of}
use Rattle.law_copies_kept.specs.Below.coherent_memory.Colours.{StandsColoured}
use Rattle.law_copies_kept.specs.Below.coherent_memory.Coherent.{IsSound}
use Rattle.law_copies_kept.specs.Below.law_counts_sums.Laws.{Gives, GoTo, FewEvents}
use Rattle.law_copies_kept.proofs.Below.law_counts_sums.Applied.{go_with}
use Rattle.law_copies_kept.proofs.Below.law_counts_sums.Results.{over_gives, both_give, test_gives}
use Rattle.law_copies_kept.proofs.Below.law_counts_sums.Sending.{applied_part, each_event_sends}
use Rattle.law_copies_kept.proofs.Below.law_counts_sums.Bags.{thread_number}
use Rattle.law_copies_kept.specs.Below.law_words_paths.words.Reworded.{HasPlaces}
use Rattle.law_copies_kept.specs.Below.law_words_paths.words.Unmoved.{LeavesWords}
use Rattle.law_copies_kept.proofs.Below.law_words_paths.words.Unmoved.{untouched_stays}
use Rattle.law_copies_kept.proofs.Below.law_words_kept.stays.Alike.{Alike, itself, turned, chain, beside}
use Rattle.law_copies_kept.proofs.Below.law_words_kept.stays.Seen.{seen_alike}
use Rattle.law_copies_kept.proofs.Below.law_words_kept.stays.Servers.{server_body}
use Rattle.law_copies_kept.proofs.Below.law_words_kept.stays.Sites.{HandAlike, put_alike, ends_alike, servers_alike, replaced, handed_over}
use Rattle.law_copies_kept.proofs.Below.law_words_borrows.Below.law_heap_steps.turns.Events.{AtStep}
use Rattle.law_entries_variables.specs.deliveries.Entries.{LeadsOn}
use Rattle.law_entries_variables.proofs.deliveries.Applied.{Afterwards, applied_by}
use Rattle.law_entries_variables.proofs.still.PlainSteps.{lives}
use Rattle.law_entries_variables.proofs.still.Settled.{StepLed}
use Rattle.law_entries_reads.proofs.places.Done.{HoldsNone, Left, left_led}

-- one server
some_server : {a b : Server} → Some a ≡ Some b → a ≡ b
some_server e = cc

-- a sound cluster has places
pub sound_places : (k : Cluster) → IsSound k → HasPlaces k
sound_places k sound = record { numbers_differ = sound.names.numbers_differ; home_of_each = sound.one_home.home_of_each; owner_of_each = sound.one_owner.owner_of_each }

-- WHAT WORDS SEE OF A STEP

-- of a hand these things more than before, which leave the words
pub record Fades (k : Cluster) (s : Server) (y : ThreadState) (h : Hand) : Type 0 where
  pub more : List Thing
  pub alike : HandAlike k.code s.rest.number more (record { work = begin_work s.rest; thread = y }) h
  pub leaves : (c : Cluster) → HasPlaces c → c.code ≡ k.code → Alike k.code (things_of c) (more ++ things_of k) → LeavesWords k c

-- nothing more
pub fades_all : (k : Cluster) (s : Server) (y : ThreadState) (h : Hand) → IsSound k → HandAlike k.code s.rest.number [] (record { work = begin_work s.rest; thread = y }) h → Fades k s y h
fades_all k s y h sound a = record {
  more = [];
  alike = a;
  leaves = λ c places code alike. untouched_stays k c (sound_places k sound) places (seen_alike k c (sound_places k sound) places code (turned alike));
}

module _ (k : Cluster) (sound : IsSound k) (few : FewEvents k) (number t : ℕ) (s : Server) (y : ThreadState) (i : Instr) (here : server_at k.servers number ≡ Some s) (at : thread_in s.threads t ≡ Some y) (code : slice_get k.code y.pc ≡ Some i)
    (c0 : Coloured) (is_coloured : StandsColoured k c0) where
  abbrev pub event : Event
  event = record { server = number; what = Step t }

  abbrev h0 : Hand
  h0 = record { work = begin_work s.rest; thread = y }

  -- in each cluster in which words see the same as in the one with that server put back, the words are what they were
  abbrev pub Words : Server → Type 0
  Words r = (c : Cluster) → HasPlaces c → c.code ≡ k.code → Alike k.code (servers_things (with_server k.servers number r)) (things_of c) → LeavesWords k c

  -- what a step that is done leaves: something of its entry, and for words
  abbrev pub EndsSo : (Stepped → Type 0) → Stepped → Type 0
  EndsSo Led d = is_some d.names ≡ true → Led d × Words (stepped s d).0

  -- for the coloured heap and for words
  abbrev pub Ends : Stepped → Type 0
  Ends = EndsSo (Left k.options c0 s y)

  -- where words see nothing but what leaves them
  pub words_fade : (d : Stepped) → Fades k s y d.hand → Words (stepped s d).0
  words_fade d f c places same alike =
      let a = put_alike k.code f.more t (begin_at s) y at d.hand f.alike in
      let mine : Alike k.code (f.more ++ server_things s) (server_things (stepped s d).0) = chain (beside (itself f.more) (server_body s)) (chain a.alike (ends_alike s.rest.number s.events (Some d.hand.thread.number) d.names (put_back s.threads d.hand) a.number)) in
      f.leaves c places same
      (chain (turned alike) (chain (replaced number k.servers s (stepped s d).0 s f.more here (turned mine)) (beside (itself f.more) (turned (servers_alike number k.servers s s here (itself (server_things s)))))))

  -- where the thread steps
  pub at_step : can_step y.phase ≡ true → AtStep k event i s t y
  at_step on = record { here = here; at = at; number = thread_number s.threads t y at; on = on; code = code; what = refl }

  module _ (Led : Stepped → Type 0) (ends : can_step y.phase ≡ true → Gives (EndsSo Led) (step k.options.servers i h0)) where
    -- the event's thread steps its instruction
    stepping : (P : Server × EntryView → Type 0) → ((d : Stepped) → can_step y.phase ≡ true → EndsSo Led d → P (stepped s d)) → enabled k.options s (Step t) ≡ true → Gives P (does k.code k.options s (Step t))
    stepping P go on =
        let calm : can_step y.phase ≡ true = subst (λ x. has_phase can_step x ≡ true) at on in
        subst (λ x. Gives P (option_map (stepped s) (then_some (option_map (λ v. record { work = begin_work s.rest; thread = v }) x) (step_in k.code k.options.servers)))) (sym at)
        (subst (λ x. Gives P (option_map (stepped s) (then_some x (λ j. step k.options.servers j h0)))) (sym code) (over_gives (EndsSo Led) P (step k.options.servers i h0) (stepped s) (ends calm) (λ d g. go d calm g)))

    -- WORDS

    abbrev First : Cluster × EntryView → Type 0
    First d = is_some d.1.done ≡ true → HasPlaces d.0 → LeavesWords k d.0

    abbrev Done : Cluster × EntryView → Type 0
    Done d = is_some d.1.done ≡ true → LeavesWords k d.0

    -- once messages are handed over
    handed : (o : Option (Server × EntryView)) → Gives (λ (r : Server × EntryView). is_some r.1.done ≡ true → Words r.0) o → Gives (λ (r : Server × EntryView). GoTo (with_server k.servers number r.0) (drop (length s.rest.outbox) r.0.rest.outbox)) o
        → Gives First (option_map (λ r. (record k { servers = hand_over_newer number (length s.rest.outbox) r.0 k.servers }, r.1)) o)
    handed None a g = tt
    handed (Some r) a g = λ q places.
        let older = length s.rest.outbox in
        a q (record k { servers = hand_over_newer number older r.0 k.servers }) places refl (handed_over number older s r.0 k.servers here (go_with k.servers number r.0 (take older r.0.rest.outbox) (drop older r.0.rest.outbox) g))

    -- the words stay
    words : Gives Done (apply k event)
    words =
        both_give First (λ (d : Cluster × EntryView). HasPlaces d.0) Done (apply k event)
        (subst (λ o. Gives First (then_some o (λ x. option_map (λ d. (record k { servers = hand_over_newer number (length x.rest.outbox) d.0 k.servers }, d.1)) (done_at k (Step t) x)))) (sym here)
        (handed (done_at k (Step t) s) (test_gives (λ (r : Server × EntryView). is_some r.1.done ≡ true → Words r.0) (enabled k.options s (Step t)) (does k.code k.options s (Step t)) (stepping (λ r. is_some r.1.done ≡ true → Words r.0) (λ d calm g q. (g q).1))) (each_event_sends k event sound few s here)))
        (applied_part HasPlaces (λ c g. record { numbers_differ = g.numbers_differ; home_of_each = g.home_of_each; owner_of_each = g.owner_of_each }) k event sound few) (λ d a places q. a q places)

    -- THE ENTRY

    -- from what the step leaves
    pub led_legal : ((d : Stepped) → can_step y.phase ≡ true → Led d → StepLed k s c0 (stepped s d)) → Gives (λ (d : Cluster × EntryView). is_some d.1.done ≡ true → LeadsOn k.options d.1 c0 d.0) (apply k event)
    led_legal leads =
        both_give Done Then (λ (d : Cluster × EntryView). is_some d.1.done ≡ true → LeadsOn k.options d.1 c0 d.0) (apply k event) words
        (applied_by Then k event sound few (λ r h on.
        let same : r ≡ s = some_server (sym h ∙ here) in
        subst (λ (x : Server). Gives (λ (q : Server × EntryView). (c : Cluster) → Afterwards k x q.0 c → Then (c, q.1)) (does k.code k.options x (Step t))) (sym same)
        (stepping (λ q. (c : Cluster) → Afterwards k s q.0 c → Then (c, q.1)) (λ d calm g c after q l. leads d calm (g q).0 c after l) (subst (λ (x : Server). enabled k.options x (Step t) ≡ true) same on))))
        (λ d a l q. l q (a q))
      where
        Then : Cluster × EntryView → Type 0
        Then d = is_some d.1.done ≡ true → LeavesWords k d.0 → LeadsOn k.options d.1 c0 d.0

  -- where acts leave the coloured heap and labels load what is reached
  pub done_legal : (can_step y.phase ≡ true → Gives Ends (step k.options.servers i h0)) → (can_step y.phase ≡ true → HoldsNone k s.rest.number y) → Gives (λ (d : Cluster × EntryView). is_some d.1.done ≡ true → LeadsOn k.options d.1 c0 d.0) (apply k event)
  done_legal ends none = led_legal (Left k.options c0 s y) ends (λ d calm g. left_led k sound number s here c0 is_coloured t y at (lives y.phase calm) d (none calm) g)
