-- A hand on its way to write, beside the coloured heap: which objects got which words, and that its acts led there.
use Rattle.std.proofs.Common.{◌≡◌, ℕ, ◌+◌, ◌≤◌, ◌==◌, ◌&&◌, ◌||◌, nat_lt, Bool, true, false, if◌then◌else◌, [], ◌∷◌, ◌++◌, length, Some, None, option_map, refl, sym, ap, ap₂, subst, ◌∙◌, arith}
use Rattle.std.proofs.lemmas.Bool.{eq-eqb}
use Rattle.law_heap_writes.specs.Below.fr_base.Lists.{is_in}
use Rattle.law_heap_writes.specs.Below.fr_base.declared.name.ObjNo.{ObjNo}
use Rattle.law_heap_writes.specs.Below.global_addr.Words.{colour_of, server_of, address_of, next_word}
use Rattle.law_heap_writes.specs.Below.heap_partition.Plain.{plain_of}
use Rattle.law_heap_writes.specs.Below.heap_partition.declared.value.BoxPtr.{BoxPtr}
use Rattle.law_heap_writes.specs.Below.journal.View.{EntryView}
use Rattle.law_heap_writes.specs.Below.journal.declared.act.Act.{Act}
use Rattle.law_heap_writes.specs.Below.thread_state.View.{ThreadState}
use Rattle.law_heap_writes.specs.Below.owner_box.View.{PartitionState}
use Rattle.law_heap_writes.specs.Below.server_model.Servers.{Rest, Server, Cluster, server_at}
use Rattle.law_heap_writes.specs.Below.server_model.Work.{Work, Hand, note, working, thread_in, set_thread, put_back}
use Rattle.law_heap_writes.specs.Below.server_model.Places.{Spot, load_at}
use Rattle.law_heap_writes.specs.Below.server_model.Prepare.{passing}
use Rattle.law_heap_writes.specs.Below.server_model.Events.{begin_work}
use Rattle.law_entries_reads.specs.Below.law_entries_variables.Below.coloured_heap.Heap.{Lies, Coloured, lies_at}
use Rattle.law_heap_writes.specs.Below.coherent_memory.Balances.{AtMostOne}
use Rattle.law_heap_writes.specs.Below.coherent_memory.Names.{tot, one, some, same_object}
use Rattle.law_heap_writes.specs.Below.coherent_memory.Things.{Location, Thing, lies, vacant, retired, counts, stands, partition_things, server_things, servers_things, things_at, slot_things, things_of}
use Rattle.law_heap_writes.specs.Below.coherent_memory.Sight.{is_spot, colour_up_to, sight, issued}
use Rattle.law_heap_writes.specs.Below.coherent_memory.Weights.{states, below}
use Rattle.law_heap_writes.specs.Below.coherent_memory.Words.{HasWords}
use Rattle.law_heap_writes.specs.Below.coherent_memory.Colours.{StandsColoured}
use Rattle.law_heap_writes.proofs.Below.law_words_asked.Below.coherent_memory.Names.{and_left, and_right, same_number}
use Rattle.law_heap_writes.proofs.Below.law_words_asked.Below.coherent_memory.Words.{itself, named}
use Rattle.law_heap_writes.specs.Below.coherent_types.ClusterTypes.{IsCoherent}
use Rattle.law_heap_writes.specs.Below.law_words_paths.words.Reworded.{HasPlaces, LiesThere}
use Rattle.law_heap_writes.specs.Below.law_words_paths.words.Unmoved.{LeavesWords}
use Rattle.law_heap_writes.specs.Below.law_words_paths.words.WordsAfter.{WordsAfter, Rewrites}
use Rattle.law_heap_writes.proofs.Below.law_words_paths.words.NewWord.{is_new}
use Rattle.law_heap_writes.proofs.Below.law_words_paths.words.Unmoved.{untouched_stays}
use Rattle.law_heap_writes.proofs.Below.law_words_paths.words.Words.{words_go_on}
use Rattle.law_heap_writes.specs.Below.law_counts_sums.Sums.{Sums, is_server}
use Rattle.law_heap_writes.proofs.Below.law_counts_sums.Trades.{tot-append, trade_whole}
use Rattle.law_heap_writes.proofs.Below.law_counts_sums.RulesKeep.{sums_kept}
use Rattle.law_heap_writes.proofs.Below.law_counts_sums.Bags.{all_standing, body_things, rest_things, of_partition, server_same, thread_number, tot-without, tot-set}
use Rattle.law_heap_writes.proofs.Below.law_counts_sums.Chains.{puts_back}
use Rattle.law_heap_writes.proofs.Below.law_counts_sums.Events.{others_of, tot-server, ends_site}
use Rattle.law_heap_writes.proofs.Below.law_words_asked.Below.law_words_kept.stays.Alike.{itself as alike_itself}
use Rattle.law_heap_writes.proofs.Below.law_words_asked.Below.law_words_kept.stays.Seen.{seen_alike}
use Rattle.law_heap_writes.proofs.Below.law_words_asked.Below.law_words_kept.stays.Servers.{held_if}
use Rattle.law_heap_writes.proofs.Below.law_words_asked.Below.law_words_kept.stays.Sites.{HandAlike}
use Rattle.law_heap_writes.proofs.Below.law_words_asked.Below.law_words_kept.stays.Threads.{slots_of, temps_of, thread_alike}
use Rattle.law_heap_writes.proofs.Below.law_heap_still.events.Told.{tot_same, at_most}
use Rattle.law_heap_writes.proofs.Below.law_words_asked.Below.law_words_kept.prepared.Hands.{put, places, first_hand}
use Rattle.law_heap_writes.proofs.Below.law_words_asked.writes.Passing.{Fits, State, hands_alike, passed as passed_state}
use Rattle.law_entries_reads.proofs.Below.law_copies_kept.Below.law_words_values.carried.Hands.{first_leaves}
use Rattle.law_entries_reads.proofs.Below.law_entries_variables.deliveries.Answers.{Answers, Fits as Answering, Allowed, answers_of, fits}
use Rattle.law_entries_reads.proofs.Below.law_entries_variables.deliveries.Runs.{Runs, runs_none}
use Rattle.law_entries_reads.proofs.Below.law_entries_variables.deliveries.Shown.{as_living}
use Rattle.law_entries_reads.proofs.Below.law_entries_variables.deliveries.Weighed.{Seen, marks_of, thread_seen}
use Rattle.law_entries_reads.proofs.Below.law_entries_variables.deliveries.Live.{issued_by, issued_seen, issued_told}
use Rattle.law_entries_reads.proofs.Below.law_entries_variables.Below.coloured_heap.ShownNames.{number_itself}
use Rattle.law_entries_reads.proofs.asks.Recoloured.{NewWords, word_after, given_words, reworded_by, recoloured, none_given, Named}
use Rattle.law_entries_reads.proofs.asks.Frames.{SameFrames, marks_same}
use Rattle.law_entries_reads.proofs.asks.Agreeing.{Rewords}
use Rattle.law_entries_reads.proofs.asks.Pointed.{Pointed, lives}
use Rattle.law_entries_writes.proofs.walks.Weights.{Blind}
use Rattle.law_entries_writes.proofs.walks.Acts.{runs_more}

-- words stay where the next cluster leaves them
pub reworded_on : (k a b : Cluster) (l : NewWords) (before : HasWords (sight k)) → Rewords k a l before → LeavesWords a b → Rewords k b l before
reworded_on k a b l before r leaves = let w = leaves.words r.after in record { after = w.after; word = λ o. w.same o ∙ r.word o }

or_assoc : (a b c : Bool) → (a || b) || c ≡ a || (b || c)
or_assoc true b c = refl
or_assoc false b c = refl

-- what is issued at a thing's address is a state of that address
issued_there : (u : ObjNo → ℕ) (colours v : ℕ) (x : Thing) → issued_by u colours v x ≤ states (server_of v, address_of v) x
issued_there u colours v x = by x
  where
    at : (r a : ℕ) (b : Bool) → one (is_spot r a v && b) ≤ one (r == server_of v && a == address_of v)
    at r a b = test (is_spot r a v) refl b
      where
        test : (c : Bool) → is_spot r a v ≡ c → (b : Bool) → one (c && b) ≤ one (r == server_of v && a == address_of v)
        test false e b = omega arith
        test true e false = omega arith
        test true e true =
            let server : (r == server_of v) ≡ true = eq-eqb r (server_of v) (sym (same_number (server_of v) r (and_left (server_of v == r) (address_of v == a) e))) in
            let address : (a == address_of v) ≡ true = eq-eqb a (address_of v) (sym (same_number (address_of v) a (and_right (server_of v == r) (address_of v == a) e))) in
            let both : one (r == server_of v && a == address_of v) ≡ 1 = ap₂ (λ i j. one (i && j)) server address in
            omega (arith, both)

    by : (x : Thing) → issued_by u colours v x ≤ states (server_of v, address_of v) x
    by (lies r a c) = at r a (colour_up_to (Some (u c.object)) v)
    by (vacant r a m) = at r a (nat_lt (colour_of v) m)
    by (retired r a) = at r a (nat_lt (colour_of v) colours)
    by _ = omega arith

below_server : (n a : ℕ) (x : Thing) → below (n, a) x ≤ is_server n x
below_server n a (counts r next old started made events) = by (r == n) (nat_lt a next)
  where
    by : (p q : Bool) → one (p && q) ≤ one p
    by true true = omega arith
    by true false = omega arith
    by false q = omega arith
below_server n a _ = omega arith

none_some : (m : ℕ) → m ≡ 0 → some m ≡ false
none_some m e = ap some e

module _ (k : Cluster) (coherent : IsCoherent k) (s : Server) (here : server_at k.servers s.rest.number ≡ Some s) (t : ℕ) (y : ThreadState) (at : thread_in s.threads t ≡ Some y) (c0 : Coloured) (is_coloured : StandsColoured k c0) where
  abbrev n : ℕ
  n = s.rest.number

  abbrev p0 : PartitionState
  p0 = s.rest.partition

  abbrev O : Hand → Type 0
  O = Fits k coherent s here t y at

  abbrev P : Hand → Cluster
  P = put k coherent s here t y at

  abbrev spread : (h : Hand) → O h → HasPlaces (P h)
  spread h g = places k coherent s here t y at h g

  abbrev pub before : HasWords (sight k)
  before = coherent.sound.words.have_words

  abbrev pub q0 : Answers
  q0 = answers_of (sight k)

  abbrev colours : ℕ
  colours = k.options.colours

  -- the words of objects once these were given
  abbrev pub words_by : NewWords → ObjNo → ℕ
  words_by l o = word_after l o (before.word o)

  -- once these words were given: the words of objects, what is issued, that the acts lead to the state in which objects have these words, and what is left of the server and the thread
  pub record Given (h : Hand) (l : NewWords) : Type 0 where
    pub rewords : Rewords k (P h) l before
    pub issues : (v : ℕ) → is_in v (given_words l) || issued (sight k) v ≡ some (tot (issued_by (words_by l) k.options.colours v) (things_of (P h)))
    pub runs : (e : EntryView) → e.server ≡ n → Runs k.options e h.work.acts c0 (recoloured l q0)
    pub blind : (f : Thing → ℕ) → Blind f → tot f (partition_things n h.work.rest.partition) ≡ tot f (partition_things n p0)
    pub frames : SameFrames h.thread.slots y.slots
    pub rest : h.work.rest ≡ record s.rest { partition = h.work.rest.partition }
    pub thread : h.thread ≡ record y { slots = h.thread.slots; temps = h.thread.temps; passed = h.thread.passed }

  -- SUMS, with the hand put back

  abbrev with_hand : Hand → Server
  with_hand h = record { rest = h.work.rest; threads = set_thread s.threads h.thread; events = s.events + 1 }

  -- what is seen differs by the partitions
  put_sums : (f : Thing → ℕ) → Seen f → (h : Hand) → O h → SameFrames h.thread.slots y.slots → h.work.rest ≡ record s.rest { partition = h.work.rest.partition } → f (stands n false h.thread) ≡ f (stands n false y)
      → tot f (things_of (P h)) + tot f (partition_things n p0) ≡ tot f (things_of k) + tot f (partition_things n h.work.rest.partition)
  put_sums f seen h g frames rest same =
      let q = h.work.rest.partition in
      let r : Rest = record s.rest { partition = q } in
      let e = s.events + 1 in
      let x = with_hand h in
      let ts = set_thread s.threads h.thread in
      let servers = tot-server f k.servers n s x here in
      let number : h.thread.number ≡ y.number = g.thread ∙ sym (thread_number s.threads t y at) in
      let there : tot f (all_standing h.work.rest.number ts ++ rest_things h.work.rest.number e h.work.rest) ≡ tot f (all_standing n ts ++ rest_things n e h.work.rest) = ap (λ i. tot f (all_standing i ts ++ rest_things i e h.work.rest)) g.number in
      let whole : tot f (rest_things n e h.work.rest) ≡ tot f (rest_things n e r) = ap (λ z. tot f (rest_things n e z)) rest in
      let marks : marks_of f seen h.thread ≡ marks_of f seen y = ap (λ i. tot f (things_at (slot_things 0 i) 0 h.thread.slots)) number ∙ marks_same f seen 0 y.number 0 h.thread.slots y.slots frames in
      let u = of_partition n e s.rest q (trade_whole (partition_things n p0) (partition_things n q)) in
      omega (
        arith,
        same,
        servers.0,
        servers.1,
        there,
        whole,
        marks,
        u.before f,
        u.after f,
        seen.counted n (length p0.cells) p0.retired s.rest.started s.rest.mutexes.made e,
        seen.counted n (length p0.cells) p0.retired s.rest.started s.rest.mutexes.made s.events,
        seen.counted n (length q.cells) q.retired s.rest.started s.rest.mutexes.made e,
        server_same s f,
        server_same x f,
        thread_seen f seen n false y,
        thread_seen f seen n false h.thread,
        tot-without n f s.threads t y at,
        tot-set n f s.threads t y h.thread at g.thread,
        tot-append f (all_standing n s.threads) (rest_things n s.events s.rest),
        tot-append f (all_standing n ts) (rest_things n e h.work.rest),
      )

  -- so do issued words
  pub issue_sums : (u : ObjNo → ℕ) (v : ℕ) (h : Hand) → O h → SameFrames h.thread.slots y.slots → h.work.rest ≡ record s.rest { partition = h.work.rest.partition }
      → tot (issued_by u colours v) (things_of (P h)) + tot (issued_by u colours v) (partition_things n p0) ≡ tot (issued_by u colours v) (things_of k) + tot (issued_by u colours v) (partition_things n h.work.rest.partition)
  issue_sums u v h g frames rest = put_sums (issued_by u colours v) (issued_seen u colours v) h g frames rest refl

  sums_of : (h : Hand) → O h → Sums (things_of (P h))
  sums_of h g =
      let others = servers_things (others_of k.servers n) in
      let site = puts_back sums_kept n s.events others t s.threads y at h g in
      let left : Sums (server_things (with_hand h) ++ others) = ends_site sums_kept n s.events others None None (put_back s.threads h) site in
      sums_kept.same (server_things (with_hand h) ++ others) (things_of (P h)) (λ f. omega (arith, (tot-server f k.servers n s (with_hand h) here).1, tot-append f (server_things (with_hand h)) others)) left

  -- each address has one state
  pub states_once : (h : Hand) → O h → AtMostOne states (things_of (P h))
  states_once h g a = let sums = sums_of h g in omega (arith, sums.one_state a, sums.servers_differ a.0, at_most (below a) (is_server a.0) (below_server a.0 a.1) (things_of (P h)))

  -- WHAT IS ISSUED

  -- the words that objects have
  pub issued_now : (h : Hand) (l : NewWords) → Given h l → (v : ℕ) → some (tot (issued_by (words_by l) colours v) (things_of (P h))) ≡ issued (sight (P h)) v
  issued_now h l g v = ap some (tot_same (issued_by (words_by l) colours v) (issued_by ((g.rewords).after).word colours v) each (things_of (P h))) ∙ sym (issued_told (P h) (g.rewords).after v)
    where
      each : (x : Thing) → issued_by (words_by l) colours v x ≡ issued_by ((g.rewords).after).word colours v x
      each (lies r a c) = ap (λ w. one (is_spot r a v && colour_up_to (Some w) v)) (sym ((g.rewords).word c.object))
      each _ = refl

  -- the next colour of an object that lies isn't
  pub next_unissued : (h : Hand) → O h → (l : NewWords) → Given h l → (r a : ℕ) (p : BoxPtr) → LiesThere (P h) r a p.object → p.word ≡ words_by l p.object → (recoloured l q0).issued (next_word p.word) ≡ false
  next_unissued h ok l g r a p there now =
      g.issues (next_word p.word) ∙ issued_now h l g (next_word p.word) ∙ ap (λ w. issued (sight (P h)) (next_word w)) (now ∙ sym ((g.rewords).word p.object)) ∙ is_new (P h) (g.rewords).after (states_once h ok) r a p.object there

  -- nor is a word that comes once more
  pub once_more : (h h2 : Hand) → O h2 → (l m : NewWords) → Given h l → (v : ℕ) → tot (issued_by (words_by m) colours v) (things_of (P h2)) ≡ tot (issued_by (words_by l) colours v) (things_of (P h)) + 1 → (recoloured l q0).issued v ≡ false
  once_more h h2 ok l m g v more =
      g.issues v
      ∙ none_some (tot (issued_by (words_by l) colours v) (things_of (P h)))
      (omega (arith, more, states_once h2 ok (server_of v, address_of v), at_most (issued_by (words_by m) colours v) (states (server_of v, address_of v)) (issued_there (words_by m) colours v) (things_of (P h2))))

  -- A POINTER ON THE WAY

  -- its object is named by the word that it has
  abbrev pub named_now : (l : NewWords) (p : BoxPtr) → Pointed k coherent p → p.word ≡ words_by l p.object → Named (recoloured l q0) p.object p.word
  named_now l p pt now = record {
    living = reworded_by l (as_living p.object (Some p.word) false (plain_of pt.there.cell.value, Lies pt.server));
    there = ap (option_map (reworded_by l)) (lives k coherent p pt);
    word = ap (λ w. w == p.word) (ap (word_after l p.object) pt.word ∙ sym now) ∙ number_itself p.word;
    kept = refl;
  }

  -- it lies at the server of its word, or not
  pub lies_so : (p : BoxPtr) (pt : Pointed k coherent p) (r m : ℕ) (b : Bool) → m ≡ r → (server_of p.word == r) ≡ b → lies_at m (Lies pt.server) ≡ b
  lies_so p pt r m b same e = ap₂ (λ i j. i == j) (sym pt.leads.server) same ∙ e

  -- WHAT CHANGES NO WORD

  pub given_start : Given (record { work = begin_work s.rest; thread = y }) []
  given_start = record {
    rewords = reworded_on k k (P h) [] before (record { after = before; word = λ o. refl }) (first_leaves k coherent.sound s here t y at);
    issues = λ v. issued_told k before v ∙ ap some (omega (arith, issue_sums before.word v h ok refl refl));
    runs = λ e own. runs_none k.options e c0 (recoloured [] q0) (none_given c0 q0 (fits (sight k) c0 is_coloured));
    blind = λ f b. refl;
    frames = refl;
    rest = refl;
    thread = refl;
  }
    where
      h : Hand
      h = record { work = begin_work s.rest; thread = y }

      ok : O h
      ok = (first_hand k coherent s here t y at).ok

  -- an act that leaves the state
  pub given_noted : (a : Act) (h : Hand) (l : NewWords) → Given h l → ((e : EntryView) → e.server ≡ n → (d : Coloured) → Answering (recoloured l q0) d → Allowed k.options e d a (recoloured l q0)) → Given (working (note a) h) l
  given_noted a h l g allowed = record {
    rewords = g.rewords;
    issues = g.issues;
    runs = λ e own. runs_more k.options e h.work.acts a c0 (recoloured l q0) (recoloured l q0) (g.runs e own) (allowed e own);
    blind = g.blind;
    frames = g.frames;
    rest = g.rest;
    thread = g.thread;
  }

  pub given_loaded : (sp : Spot) (h : Hand) (l : NewWords) → Given h l → Given (load_at sp h) l
  given_loaded sp h l g = record { rewords = g.rewords; issues = g.issues; runs = g.runs; blind = g.blind; frames = g.frames; rest = g.rest; thread = g.thread }

  -- what is passed
  pub given_passed : (m : ℕ) (h : Hand) → State k coherent s here t y at h → (l : NewWords) → Given h l → Given (passing m h) l
  given_passed m h st l g = record {
    rewords = reworded_on k (P h) (P h2) l before g.rewords (untouched_stays (P h) (P h2) (spread h st.ok) (spread h2 ok2) (seen_alike (P h) (P h2) (spread h st.ok) (spread h2 ok2) refl (hands_alike k coherent s here t y at h h2 st.ok ok2 alike)));
    issues = λ v. g.issues v ∙ ap some (omega (arith, issue_sums (words_by l) v h st.ok g.frames g.rest, issue_sums (words_by l) v h2 ok2 g.frames g.rest));
    runs = g.runs;
    blind = g.blind;
    frames = g.frames;
    rest = g.rest;
    thread = ap (λ (x : ThreadState). record x { passed = m }) g.thread;
  }
    where
      h2 : Hand
      h2 = passing m h

      ok2 : O h2
      ok2 = (passed_state k coherent s here t y at m h st).ok

      alike : HandAlike k.code n [] h h2
      alike = record {
        number = refl;
        named = refl;
        thread = thread_alike n n false false h.thread (record h.thread { passed = m }) [] [] (record { number = refl; taking = refl; slots = λ i. refl; temps = λ i. refl }) (alike_itself (slots_of n h.thread)) (alike_itself (temps_of n h.thread)) (alike_itself (held_if h.thread.gift));
        rest = alike_itself (body_things n h.work.rest);
      }

  -- A WORD COMES

  -- to the object's pointer, of another hand
  pub record Comes (h h2 : Hand) (l : NewWords) (o : ObjNo) (w : ℕ) (a : Act) : Type 0 where
    pub location : Location
    pub rewrites : Rewrites (P h) (P h2) location o w
    pub acts : h2.work.acts ≡ h.work.acts ++ a ∷ []
    pub allowed : (e : EntryView) → e.server ≡ n → (d : Coloured) → Answering (recoloured l q0) d → Allowed k.options e d a (recoloured ((o, w) ∷ l) q0)
    pub issues : (v : ℕ) → (w == v) || some (tot (issued_by (words_by l) k.options.colours v) (things_of (P h))) ≡ some (tot (issued_by (words_by ((o, w) ∷ l)) k.options.colours v) (things_of (P h2)))
    pub blind : (f : Thing → ℕ) → Blind f → tot f (partition_things n h2.work.rest.partition) ≡ tot f (partition_things n h.work.rest.partition)
    pub frames : SameFrames h2.thread.slots h.thread.slots
    pub rest : h2.work.rest ≡ record h.work.rest { partition = h2.work.rest.partition }
    pub thread : h2.thread ≡ record h.thread { slots = h2.thread.slots; temps = h2.thread.temps }

  pub given_word : (h h2 : Hand) (l : NewWords) → Given h l → (o : ObjNo) (w : ℕ) (a : Act) → Comes h h2 l o w a → Given h2 ((o, w) ∷ l)
  given_word h h2 l g o w a c = record {
    rewords = record { after = after.after; word = λ x. by x (same_object x o) refl };
    issues = λ v. or_assoc (w == v) (is_in v (given_words l)) (issued (sight k) v) ∙ ap (λ b. (w == v) || b) (g.issues v) ∙ c.issues v;
    runs = λ e own. subst (λ b. Runs k.options e b c0 (recoloured ((o, w) ∷ l) q0)) (sym c.acts) (runs_more k.options e h.work.acts a c0 (recoloured l q0) (recoloured ((o, w) ∷ l) q0) (g.runs e own) (c.allowed e own));
    blind = λ f b. c.blind f b ∙ g.blind f b;
    frames = c.frames ∙ g.frames;
    rest = c.rest ∙ ap (λ (r : Rest). record r { partition = h2.work.rest.partition }) g.rest;
    thread = c.thread ∙ ap (λ (x : ThreadState). record x { slots = h2.thread.slots; temps = h2.thread.temps }) g.thread ∙ ap (λ m. record y { slots = h2.thread.slots; temps = h2.thread.temps; passed = m }) (sym (ap (λ (x : ThreadState). x.passed) c.thread));
  }
    where
      after : WordsAfter (sight (P h)) (sight (P h2)) o w (g.rewords).after
      after = words_go_on (P h) (P h2) c.location o w c.rewrites (g.rewords).after

      by : (x : ObjNo) (b : Bool) → same_object x o ≡ b → (after.after).word x ≡ (if b then w else word_after l x (before.word x))
      by x true e = ap (after.after).word (named x o e) ∙ after.new
      by x false e = after.others x (λ f. let q : true ≡ false = sym (itself x o f) ∙ e in absurd (cc q)) ∙ (g.rewords).word x

  -- the reference that led there gets its mark, and keeps its word
  pub given_marked : (h h2 : Hand) (l : NewWords) → Given h l → O h → O h2 → (u : Location) (o : ObjNo) (w : ℕ) → Rewrites (P h) (P h2) u o w → w ≡ words_by l o → h2.work ≡ h.work → SameFrames h2.thread.slots h.thread.slots → h2.thread ≡ record h.thread { slots = h2.thread.slots } → Given h2 l
  given_marked h h2 l g ok ok2 u o w r its same frames slots = record {
    rewords = record { after = after.after; word = λ x. by x (same_object x o) refl };
    issues = λ v. g.issues v ∙ ap some (omega (arith, issue_sums (words_by l) v h ok g.frames g.rest, issue_sums (words_by l) v h2 ok2 (frames ∙ g.frames) rest, ap (λ (x : Work). tot (issued_by (words_by l) colours v) (partition_things n x.rest.partition)) same));
    runs = λ e own. subst (λ (x : Work). Runs k.options e x.acts c0 (recoloured l q0)) (sym same) (g.runs e own);
    blind = λ f b. ap (λ (x : Work). tot f (partition_things n x.rest.partition)) same ∙ g.blind f b;
    frames = frames ∙ g.frames;
    rest = rest;
    thread = slots ∙ ap (λ (x : ThreadState). record x { slots = h2.thread.slots }) g.thread ∙ ap₂ (λ ts m. record y { slots = h2.thread.slots; temps = ts; passed = m }) (sym (ap (λ (x : ThreadState). x.temps) slots)) (sym (ap (λ (x : ThreadState). x.passed) slots));
  }
    where
      rest : h2.work.rest ≡ record s.rest { partition = h2.work.rest.partition }
      rest = ap (λ (x : Work). x.rest) same ∙ g.rest ∙ ap (λ (x : Work). record s.rest { partition = x.rest.partition }) (sym same)

      after : WordsAfter (sight (P h)) (sight (P h2)) o w (g.rewords).after
      after = words_go_on (P h) (P h2) u o w r (g.rewords).after

      by : (x : ObjNo) (b : Bool) → same_object x o ≡ b → (after.after).word x ≡ word_after l x (before.word x)
      by x true e = ap (after.after).word (named x o e) ∙ after.new ∙ its ∙ ap (words_by l) (sym (named x o e))
      by x false e = after.others x (λ f. let q : true ≡ false = sym (itself x o f) ∙ e in absurd (cc q)) ∙ (g.rewords).word x
