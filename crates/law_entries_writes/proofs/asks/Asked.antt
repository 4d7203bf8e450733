-- A step that ended with a request for an object, from a hand that gave objects words: its entry leads on.
use Rattle.std.proofs.Common.{◌≡◌, ℕ, ◌||◌, ◌&&◌, false, List, [], ◌∷◌, ◌++◌, length, Some, None, refl, sym, ap, ap₂, subst, ◌∙◌, arith}
use Rattle.law_copies_writes.specs.Below.law_copies_kept.Below.fr_base.Lists.{is_in}
use Rattle.law_copies_writes.specs.Below.law_copies_kept.Below.global_addr.Words.{server_of}
use Rattle.law_copies_writes.specs.Below.law_copies_kept.Below.heap_partition.declared.value.BoxPtr.{BoxPtr}
use Rattle.law_copies_writes.specs.Below.law_copies_kept.Below.thread_state.View.{ThreadState, is_over}
use Rattle.law_copies_writes.specs.Below.law_copies_kept.Below.thread_state.declared.phase.Phase.TheVariants as phase
use Rattle.law_copies_writes.specs.Below.law_copies_kept.Below.server_msgs.declared.message.Message.{Message}
use Rattle.law_copies_writes.specs.Below.law_copies_kept.Below.server_msgs.declared.message.Message.TheVariants as message
use Rattle.law_copies_writes.specs.Below.law_copies_kept.Below.journal.View.{EntryView}
use Rattle.law_copies_writes.specs.Below.law_copies_kept.Below.journal.declared.act.Act.{Act}
use Rattle.law_copies_writes.specs.Below.law_copies_kept.Below.owner_box.View.{PartitionState}
use Rattle.law_copies_writes.specs.Below.law_copies_kept.Below.server_model.Servers.{Rest, Server, Cluster, server_at}
use Rattle.law_copies_writes.specs.Below.law_copies_kept.Below.server_model.Work.{Work, Hand, without_hops, thread_in, put_back}
use Rattle.law_copies_writes.specs.Below.law_copies_kept.Below.server_model.Prepare.{ask_object}
use Rattle.law_copies_writes.specs.Below.law_copies_kept.Below.server_model.Events.{begin_work, begin_at, wait_step, stepped}
use Rattle.law_entries_writes.specs.Below.law_entries_variables.Below.coloured_heap.Heap.{Coloured, Wish, ForObject}
use Rattle.law_copies_writes.specs.Below.law_copies_kept.Below.coherent_memory.Names.{tot, one, some}
use Rattle.law_copies_writes.specs.Below.law_copies_kept.Below.coherent_memory.Things.{Thing, lies, sent, stands, partition_things, message_things, things_of}
use Rattle.law_copies_writes.specs.Below.law_copies_kept.Below.coherent_memory.Sight.{is_spot, colour_up_to, sight, issued}
use Rattle.law_copies_writes.specs.Below.law_copies_kept.Below.coherent_memory.Words.{HasWords}
use Rattle.law_copies_writes.specs.Below.law_copies_kept.Below.coherent_memory.Colours.{StandsColoured}
use Rattle.law_copies_writes.specs.Below.law_copies_kept.Below.coherent_types.ClusterTypes.{IsCoherent}
use Rattle.law_copies_writes.proofs.Below.law_copies_kept.Below.law_counts_sums.Trades.{tot-append, trade_whole}
use Rattle.law_copies_writes.proofs.Below.law_copies_kept.Below.law_counts_sums.Bags.{rest_things, of_partition, of_sending, sent_number}
use Rattle.law_copies_writes.proofs.Below.law_copies_kept.Below.law_words_kept.stays.Alike.{Alike, itself, turned, chain, blank, goes as goes_unseen}
use Rattle.law_copies_writes.proofs.Below.law_copies_kept.Below.law_words_kept.stays.Seen.{seen_alike}
use Rattle.law_copies_writes.proofs.Below.law_copies_kept.Below.law_words_kept.stays.Servers.{held_if, sends}
use Rattle.law_copies_writes.proofs.Below.law_copies_kept.Below.law_words_kept.stays.Sites.{HandAlike}
use Rattle.law_copies_writes.proofs.Below.law_copies_kept.Below.law_words_kept.stays.Threads.{slots_of, temps_of, thread_alike}
use Rattle.law_copies_writes.proofs.Below.law_copies_kept.Below.law_heap_still.events.Tests.{numbers}
use Rattle.law_copies_writes.proofs.Below.law_copies_kept.Below.law_heap_still.events.Told.{tot_same}
use Rattle.law_copies_writes.proofs.Below.law_copies_kept.Below.law_words_paths.words.Unmoved.{untouched_stays}
use Rattle.law_copies_writes.proofs.Below.law_words_kept.prepared.Hands.{put, places}
use Rattle.law_copies_writes.proofs.Below.law_words_asked.writes.Passing.{Fits, hands_alike}
use Rattle.law_entries_writes.specs.Below.law_entries_variables.deliveries.Entries.{LeadsOn}
use Rattle.law_entries_writes.proofs.Below.law_entries_variables.deliveries.Answers.{answers_of, fits}
use Rattle.law_entries_writes.proofs.Below.law_entries_variables.deliveries.Weighed.{WorkTurns, SiteTurns, server_turns}
use Rattle.law_entries_writes.proofs.Below.law_entries_variables.deliveries.After.{Follows}
use Rattle.law_entries_writes.proofs.Below.law_entries_variables.deliveries.Runs.{Runs, silent, leads_on}
use Rattle.law_entries_writes.proofs.Below.law_entries_variables.deliveries.Live.{issued_by, issued_seen, issued_told}
use Rattle.law_entries_writes.proofs.Below.law_entries_variables.deliveries.Applied.{Afterwards, server_there}
use Rattle.law_entries_writes.proofs.Below.law_entries_variables.still.Settled.{runs_here}
use Rattle.law_entries_writes.proofs.Below.law_entries_reads.asks.Recoloured.{NewWords, given_words, recoloured, wishing}
use Rattle.law_entries_writes.proofs.Below.law_entries_reads.asks.Frames.{frames_turn}
use Rattle.law_entries_writes.proofs.Below.law_entries_reads.asks.Agreeing.{Asks, an_object, Waits, Rewords}
use Rattle.law_entries_writes.proofs.Below.law_entries_reads.asks.Ending.{Ends, unwaited}
use Rattle.law_entries_writes.proofs.walks.Given.{words_by, Given, issue_sums, reworded_on}
use Rattle.law_entries_writes.proofs.walks.Hops.{Wishes}
use Rattle.law_entries_writes.proofs.walks.Running.{wish_runs}
use Rattle.law_entries_writes.proofs.asks.Agreed.{agrees}

module _ (k : Cluster) (coherent : IsCoherent k) (s : Server) (here : server_at k.servers s.rest.number ≡ Some s) (t : ℕ) (y : ThreadState) (at : thread_in s.threads t ≡ Some y) (c0 : Coloured) (is_coloured : StandsColoured k c0) (live : is_over y.phase ≡ false)
    (h : Hand) (q : Wishes k coherent s here t y at c0 is_coloured h) where
  abbrev n : ℕ
  n = s.rest.number

  abbrev P : Hand → Cluster
  P = put k coherent s here t y at

  abbrev before : HasWords (sight k)
  before = coherent.sound.words.have_words

  -- the hand from which was asked, and for what
  abbrev h1 : Hand
  h1 = q.hand

  abbrev p : BoxPtr
  p = q.pointer

  abbrev l : NewWords
  l = q.words

  abbrev g : Given k coherent s here t y at c0 is_coloured h1 l
  g = q.given

  abbrev asked : Hand
  asked = ask_object p h1

  abbrev target : ℕ
  target = server_of p.word

  abbrev m : Message
  m = message.Move p.word p.object h1.work.rest.number h1.thread.number

  abbrev z : ThreadState
  z = asked.thread

  named : h1.thread.number ≡ y.number
  named = ap (λ (x : ThreadState). x.number) g.thread

  number : h1.work.rest.number ≡ n
  number = ap (λ (x : Rest). x.number) g.rest

  abbrev wish : Wish
  wish = ForObject p.object p.word n

  asks_it : Asks m wish
  asks_it = subst (λ r. Asks m (ForObject p.object p.word r)) number an_object

  waits : Waits y z
  waits = record { number = named; frames = g.frames; gift = ap (λ (x : ThreadState). x.gift) g.thread; pc = ap (λ (x : ThreadState). x.pc) g.thread; over = sym live }

  -- WHAT WENT AND WHAT CAME

  abbrev p0 : PartitionState
  p0 = s.rest.partition

  abbrev p1 : PartitionState
  p1 = h1.work.rest.partition

  abbrev os : List Thing
  os = partition_things n p0

  abbrev ns : List Thing
  ns = partition_things n p1

  abbrev acts : List Act
  acts = without_hops asked.work.acts

  abbrev work : Work
  work = record { rest = asked.work.rest; acts = acts; labels = [] }

  work_turns : WorkTurns (begin_work s.rest) os (ns ++ message_things target m) acts work
  work_turns = record {
    number = sent_number h1.work.rest target m ∙ number;
    noted = refl;
    labels = refl;
    things = λ f seen.
        let r : Rest = record s.rest { partition = p1 } in
        let whole : tot f (rest_things n 0 h1.work.rest) ≡ tot f (rest_things n 0 r) = ap (λ x. tot f (rest_things n 0 x)) g.rest in
        let u = of_partition n 0 s.rest p1 (trade_whole os ns) in
        let w = of_sending n 0 h1.work.rest number target m in
        omega (
          arith,
          whole,
          u.before f,
          u.after f,
          w.before f,
          w.after f,
          seen.counted n (length p0.cells) p0.retired s.rest.started s.rest.mutexes.made 0,
          seen.counted n (length p1.cells) p1.retired s.rest.started s.rest.mutexes.made 0,
          tot-append f ns (message_things target m),
        );
  }

  turns : SiteTurns (begin_at s) (stands n false y ∷ os) (stands n false z ∷ (ns ++ message_things target m)) acts (put_back s.threads (wait_step asked).hand)
  turns = frames_turn (begin_at s) t y z os (ns ++ message_things target m) acts work at waits.number waits.frames work_turns

  abbrev Then : Cluster → Type 0
  Then c = Afterwards k s (stepped s (wait_step asked)).0 c

  follows : (c : Cluster) → Then c → Follows k c (stands n false y ∷ os) (stands n false z ∷ (ns ++ sent target m ∷ []))
  follows c after = record {
    code = after.0;
    options = after.1;
    things = λ f seen. omega (arith, after.2 f, server_turns s (put_back s.threads (wait_step asked).hand) (stands n false y ∷ os) (stands n false z ∷ (ns ++ message_things target m)) acts s.events (Some z.number) None turns f seen);
  }

  -- THE WORDS

  -- in the cluster of the hand
  asked_alike : HandAlike k.code n [] h1 asked
  asked_alike =
      let gone : Alike k.code (sent target m ∷ []) [] = blank (sent target m) (λ x f b. b) in
      record {
        number = sent_number h1.work.rest target m;
        named = refl;
        thread = thread_alike n n false false h1.thread (record h1.thread { phase = phase.WaitCell p.word }) [] [] (record { number = refl; taking = sym (q.state).untaken; slots = λ i. refl; temps = λ i. refl }) (itself (slots_of n h1.thread)) (itself (temps_of n h1.thread)) (itself (held_if h1.thread.gift));
        rest = chain (turned (goes_unseen gone)) (sends n h1.work.rest (q.state).ok.number target m);
      }

  left : Fits k coherent s here t y at asked → Rewords k (P asked) l before
  left ok =
      reworded_on k (P h1) (P asked) l before g.rewords
      (untouched_stays (P h1) (P asked) (places k coherent s here t y at h1 (q.state).ok) (places k coherent s here t y at asked ok)
      (seen_alike (P h1) (P asked) (places k coherent s here t y at h1 (q.state).ok) (places k coherent s here t y at asked ok) refl (hands_alike k coherent s here t y at h1 asked (q.state).ok ok asked_alike)))

  -- what is issued afterwards
  issues : (c : Cluster) → Then c → Rewords k c l before → (v : ℕ) → is_in v (given_words l) || issued (sight k) v ≡ issued (sight c) v
  issues c after r v =
      let u = words_by k coherent s here t y at c0 is_coloured l in
      g.issues v
      ∙ ap some
      (omega (
        arith,
        (follows c after).things (issued_by u k.options.colours v) (issued_seen u k.options.colours v),
        issue_sums k coherent s here t y at c0 is_coloured u v h1 (q.state).ok g.frames g.rest,
        tot-append (issued_by u k.options.colours v) ns (sent target m ∷ []),
      ))
      ∙ ap some (tot_same (issued_by u k.options.colours v) (issued_by (r.after).word k.options.colours v) each (things_of c)) ∙ ap (λ o. some (tot (issued_by (r.after).word o.colours v) (things_of c))) (sym after.1) ∙ sym (issued_told c r.after v)
    where
      each : (x : Thing) → issued_by (words_by k coherent s here t y at c0 is_coloured l) k.options.colours v x ≡ issued_by (r.after).word k.options.colours v x
      each (lies a b d) = ap (λ i. one (is_spot a b v && colour_up_to (Some i) v)) (sym (r.word d.object))
      each _ = refl

  -- THE ENTRY

  entry_is : (stepped s (wait_step asked)).1 ≡ silent n (Some y.number) acts
  entry_is = ap₂ (λ r i. made r i) (sent_number h1.work.rest target m ∙ number) waits.number
    where
      made : ℕ → ℕ → EntryView
      made r i = record { server = r; thread = Some i; done = None; acts = acts; labels = [] }

  leads : (c : Cluster) → Then c → Rewords k c l before → LeadsOn k.options (stepped s (wait_step asked)).1 c0 c
  leads c after r =
      subst (λ e. LeadsOn k.options e c0 c) (sym entry_is)
      (leads_on k.options n (Some y.number) acts c0 (answers_of (sight k)) (wishing wish (recoloured l (answers_of (sight k)))) c (fits (sight k) c0 is_coloured) (server_there k coherent.sound n s here).0
      (record { thread = y.number; server = n; has_ended = false }, runs_here k coherent.sound n s here c0 is_coloured t y at live, numbers.itself n)
      (subst (λ (x : Hand). Runs k.options (silent n (Some y.number) acts) (without_hops x.work.acts) c0 (wishing wish (recoloured l (answers_of (sight k))))) q.asks
      (wish_runs k coherent s here t y at c0 is_coloured h q (silent n (Some y.number) acts) refl))
      (agrees k c coherent.sound n y z waits target m wish asks_it os ns g.blind (follows c after) l r (issues c after r)))

  asked_ends : Ends k coherent s here t y at c0 (wait_step asked)
  asked_ends ok = record { words = l; left = left (unwaited k coherent s here t y at c0 asked ok); leads = leads }

  -- so it is with the hand that asked
  pub wish_ends : Ends k coherent s here t y at c0 (wait_step h)
  wish_ends = subst (λ (x : Hand). Ends k coherent s here t y at c0 (wait_step x)) (sym q.asks) asked_ends
