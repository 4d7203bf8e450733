-- What the acts of an event's entry evict and move: only an eviction evicts, and only a move moves a thread.
use Rattle.std.proofs.Common.{◌≡◌, ◌≤◌, ◌<◌, ℕ, ◌==◌, ◌&&◌, not, nat_lt, Bool, true, false, if◌then◌else◌, List, [], ◌∷◌, Option, Some, None, refl, sym, ap, ◌∙◌, arith}
use Rattle.std.proofs.lemmas.Bool.Decides.{nat_tests}
use Rattle.std.specs.Prelude.{option_map, slice_get}
use Rattle.law_length_runs.specs.Below.law_counts_things.Below.fr_base.Lists.{tot}
use Rattle.law_length_runs.specs.Below.law_counts_things.Below.fr_base.Names.{home_of}
use Rattle.law_length_runs.specs.Below.law_counts_things.Below.fr_base.declared.instruction.Instr.{Instr}
use Rattle.law_length_runs.specs.Below.law_counts_things.Below.fr_base.declared.settings.Options.{Options}
use Rattle.law_length_runs.specs.Below.law_counts_things.Below.read_cache.Cache.{can_evict, evict}
use Rattle.law_length_runs.specs.Below.law_counts_things.Below.thread_state.View.{ThreadState}
use Rattle.law_length_runs.specs.Below.law_counts_things.Below.journal.View.{EntryView}
use Rattle.law_length_runs.specs.Below.law_counts_things.Below.journal.declared.act.Act.{Act}
use Rattle.law_length_runs.specs.Below.law_counts_things.Below.journal.declared.act.Act.TheVariants as act
use Rattle.law_length_runs.specs.Below.law_counts_things.Below.coloured_heap.Lists.{holds}
use Rattle.law_length_runs.specs.Below.law_counts_things.Below.coloured_heap.Heap.{Coloured}
use Rattle.law_length_runs.specs.Below.law_counts_things.Below.coloured_heap.Rules.{is_new, issued_by, rule, allows, is_by, of_run}
use Rattle.law_length_runs.specs.Below.law_counts_things.Below.coloured_heap.Changes.{after_act}
use Rattle.law_length_runs.specs.Below.law_counts_things.Below.coloured_heap.Legal.{is_placed, acts_after, settled, entry_after}
use Rattle.law_length_runs.specs.Below.law_counts_things.Below.coloured_heap.Driven.{cached_at, are_due, departing}
use Rattle.law_length_runs.specs.Below.law_counts_things.Below.server_model.declared.event.What.{What}
use Rattle.law_length_runs.specs.Below.law_counts_things.Below.server_model.declared.event.What.TheVariants.{Step, Deliver, Evict, Migrate}
use Rattle.law_length_runs.specs.Below.law_counts_things.Below.server_model.Servers.{Server, Cluster, server_at}
use Rattle.law_length_runs.specs.Below.law_counts_things.Below.server_model.Work.{Hand, Site, receive, note, with_cache, thread_in, then_some}
use Rattle.law_length_runs.specs.Below.law_counts_things.Below.migration.Packing.{pack_thread}
use Rattle.law_length_runs.specs.Below.law_counts_things.Below.server_model.Moving.{migrate}
use Rattle.law_length_runs.specs.Below.law_counts_things.Below.server_model.Events.{Stepped, begin_work, begin_at, left_by, received, deliver_message, step, step_in, stepped, does}
use Rattle.law_length_runs.specs.Below.law_counts_things.Below.coherent_memory.Names.{other}
use Rattle.law_length_runs.specs.Below.law_counts_things.Below.coherent_memory.Sharing.{other_home}
use Rattle.law_length_runs.specs.Below.law_counts_things.Below.coherent_memory.Coherent.{IsSound}
use Rattle.law_length_runs.specs.Below.law_counts_things.Below.law_counts_sums.Laws.{Gives}
use Rattle.law_length_runs.proofs.Below.law_counts_things.Below.law_counts_sums.Results.{then_gives, map_gives, over_gives, both_give, weaker}
use Rattle.law_length_runs.proofs.Below.law_counts_things.things.Handed.{known}
use Rattle.law_length_runs.proofs.Below.law_counts_limits.sendings.Sent.{evicts, sends_none}
use Rattle.law_length_runs.proofs.Below.law_counts_limits.sendings.Prepares.{IsHome, Good}
use Rattle.law_length_runs.proofs.Below.law_counts_limits.sendings.Steps.{step_sends}
use Rattle.law_length_runs.proofs.Below.law_counts_limits.sendings.Deliveries.{SentSite, message_sends}
use Rattle.law_length_runs.proofs.Below.law_counts_limits.sendings.Events.{events_send_their_acts}
use Rattle.law_length_runs.proofs.worth.Driven.{left_true, right_true}
use Rattle.law_length_runs.proofs.driven.Starting.{acts_of, stepping, few_acts}
use Rattle.law_length_runs.proofs.driven.Marked.{Moves, moving}

-- EVICTIONS

same_home : (a b : ℕ) → other (a == b) ≡ 0 → a ≡ b
same_home a b z = by (a == b) refl z
  where
    by : (c : Bool) → (a == b) ≡ c → other c ≡ 0 → a ≡ b
    by true e z = grind (arith, nat_tests, e)
    by false e z = absurd (cc z)

-- an entry evicts nothing
abbrev Evicts : Server × EntryView → Type 0
Evicts r = tot evicts r.1.acts ≡ 0

module _ (k : Cluster) (number : ℕ) (s : Server) (sound : IsSound k) (here : server_at k.servers number ≡ Some s) where
  home : (t : ℕ) (y : ThreadState) → thread_in s.threads t ≡ Some y → IsHome y
  home t y there = same_home y.home (home_of y.number) (known k sound number s here t y there other_home sound.mutexes_and_tasks.thread_homes)

  step_evicts : (t : ℕ) → Gives Evicts (does k.code k.options s (Step t))
  step_evicts t = by (thread_in s.threads t) refl
    where
      by : (x : Option ThreadState) → thread_in s.threads t ≡ x → Gives Evicts (option_map (stepped s) (then_some (option_map (λ y. record { work = begin_work s.rest; thread = y }) x) (step_in k.code k.options.servers)))
      by None e = tt
      by (Some y) e =
          let h : Hand = record { work = begin_work s.rest; thread = y } in
          over_gives (λ (d : Stepped). Good s.rest d.hand) Evicts (step_in k.code k.options.servers h) (stepped s)
          (then_gives (λ (d : Stepped). Good s.rest d.hand) (slice_get k.code y.pc) (λ i. step k.options.servers i h) (λ i q. step_sends s.rest k.options.servers i h (sends_none s.rest, home t y e))) (λ d g. g.0.none_evicted)

  delivery_evicts : (i : ℕ) → Gives (λ (r : Server × EntryView). Evicts r × (r.1.thread ≡ None)) (does k.code k.options s (Deliver i))
  delivery_evicts i =
      over_gives (SentSite (receive s.rest i)) (λ (r : Server × EntryView). Evicts r × (r.1.thread ≡ None)) (then_some (slice_get s.rest.inbox i) (λ m. deliver_message k.code m (received i s))) (left_by s.events None None)
      (then_gives (SentSite (receive s.rest i)) (slice_get s.rest.inbox i) (λ m. deliver_message k.code m (received i s)) (λ m q. message_sends (receive s.rest i) k.code m (received i s) home (sends_none (receive s.rest i)))) (λ x g. (g.none_evicted, refl))

  -- a step moves nobody
  step_moves : (t : ℕ) → Gives (λ (r : Server × EntryView). tot (acts_of false) r.1.acts ≤ 0) (does k.code k.options s (Step t))
  step_moves t =
      both_give _ _ (λ (r : Server × EntryView). tot (acts_of false) r.1.acts ≤ 0) (does k.code k.options s (Step t)) (events_send_their_acts k number s (Step t) sound here) (stepping k.code k.options s false t) (λ r a l. few_acts false t s r a l)

-- WHAT IS DUE

none_due : (o : Options) (v : EntryView) (acts : List Act) (c : Coloured) → tot evicts acts ≡ 0 → are_due o v acts c ≡ true
none_due o v [] c z = refl
none_due o v (act.Evict w ∷ acts) c z = absurd (omega (arith, z))
none_due o v (act.Make p w ∷ acts) c z = none_due o v acts _ (omega (arith, z))
none_due o v (act.Local p w ∷ acts) c z = none_due o v acts _ (omega (arith, z))
none_due o v (act.Hit p w ∷ acts) c z = none_due o v acts _ (omega (arith, z))
none_due o v (act.Ask p w ∷ acts) c z = none_due o v acts _ (omega (arith, z))
none_due o v (act.Serve p w there ∷ acts) c z = none_due o v acts _ (omega (arith, z))
none_due o v (act.Fill p w ∷ acts) c z = none_due o v acts _ (omega (arith, z))
none_due o v (act.Pull p w ∷ acts) c z = none_due o v acts _ (omega (arith, z))
none_due o v (act.Give p w there ∷ acts) c z = none_due o v acts _ (omega (arith, z))
none_due o v (act.Take p old new ∷ acts) c z = none_due o v acts _ (omega (arith, z))
none_due o v (act.Tint p old new ∷ acts) c z = none_due o v acts _ (omega (arith, z))
none_due o v (act.Renew p old new ∷ acts) c z = none_due o v acts _ (omega (arith, z))
none_due o v (act.Condemn p w ∷ acts) c z = none_due o v acts _ (omega (arith, z))
none_due o v (act.Free p w ∷ acts) c z = none_due o v acts _ (omega (arith, z))
none_due o v (act.AskLock m ∷ acts) c z = none_due o v acts _ (omega (arith, z))
none_due o v (act.Grant m t there ∷ acts) c z = none_due o v acts _ (omega (arith, z))
none_due o v (act.GiveBack m ∷ acts) c z = none_due o v acts _ (omega (arith, z))
none_due o v (act.AskDup m ∷ acts) c z = none_due o v acts _ (omega (arith, z))
none_due o v (act.Dupped m t there ∷ acts) c z = none_due o v acts _ (omega (arith, z))
none_due o v (act.LetGo x ∷ acts) c z = none_due o v acts _ (omega (arith, z))
none_due o v (act.Start t there ∷ acts) c z = none_due o v acts _ (omega (arith, z))
none_due o v (act.AskJoin t ∷ acts) c z = none_due o v acts _ (omega (arith, z))
none_due o v (act.Answer t asker there ∷ acts) c z = none_due o v acts _ (omega (arith, z))
none_due o v (act.Finish t ∷ acts) c z = none_due o v acts _ (omega (arith, z))
none_due o v (act.Depart t there ∷ acts) c z = none_due o v acts _ (omega (arith, z))

-- WHO MOVES

none_departs : (acts : List Act) → tot (acts_of false) acts ≤ 0 → departing acts ≡ []
none_departs [] z = refl
none_departs (act.Depart t there ∷ acts) z = absurd (omega (arith, z))
none_departs (act.Evict w ∷ acts) z = none_departs acts (omega (arith, z))
none_departs (act.Make p w ∷ acts) z = none_departs acts (omega (arith, z))
none_departs (act.Local p w ∷ acts) z = none_departs acts (omega (arith, z))
none_departs (act.Hit p w ∷ acts) z = none_departs acts (omega (arith, z))
none_departs (act.Ask p w ∷ acts) z = none_departs acts (omega (arith, z))
none_departs (act.Serve p w there ∷ acts) z = none_departs acts (omega (arith, z))
none_departs (act.Fill p w ∷ acts) z = none_departs acts (omega (arith, z))
none_departs (act.Pull p w ∷ acts) z = none_departs acts (omega (arith, z))
none_departs (act.Give p w there ∷ acts) z = none_departs acts (omega (arith, z))
none_departs (act.Take p old new ∷ acts) z = none_departs acts (omega (arith, z))
none_departs (act.Tint p old new ∷ acts) z = none_departs acts (omega (arith, z))
none_departs (act.Renew p old new ∷ acts) z = none_departs acts (omega (arith, z))
none_departs (act.Condemn p w ∷ acts) z = none_departs acts (omega (arith, z))
none_departs (act.Free p w ∷ acts) z = none_departs acts (omega (arith, z))
none_departs (act.AskLock m ∷ acts) z = none_departs acts (omega (arith, z))
none_departs (act.Grant m t there ∷ acts) z = none_departs acts (omega (arith, z))
none_departs (act.GiveBack m ∷ acts) z = none_departs acts (omega (arith, z))
none_departs (act.AskDup m ∷ acts) z = none_departs acts (omega (arith, z))
none_departs (act.Dupped m t there ∷ acts) z = none_departs acts (omega (arith, z))
none_departs (act.LetGo x ∷ acts) z = none_departs acts (omega (arith, z))
none_departs (act.Start t there ∷ acts) z = none_departs acts (omega (arith, z))
none_departs (act.AskJoin t ∷ acts) z = none_departs acts (omega (arith, z))
none_departs (act.Answer t asker there ∷ acts) z = none_departs acts (omega (arith, z))
none_departs (act.Finish t ∷ acts) z = none_departs acts (omega (arith, z))

-- an act of an entry without a thread that is allowed starts and moves none
unmoved : (o : Options) (v : EntryView) (b : Bool) → v.thread ≡ None → (c : Coloured) (a : Act) → allows o v c a ≡ true → acts_of b a ≡ 0
unmoved o v b none c (act.Depart t there) ok =
    let by_it : is_by v t ≡ true = left_true (is_by v t) (of_run o there) (left_true (is_by v t && of_run o there) (not (there == v.server)) (right_true (is_new o c (issued_by (act.Depart t there))) (rule o v c (act.Depart t there)) ok)) in
    absurd (cc (sym (ap (holds (λ u. u == t)) none) ∙ by_it))
unmoved o v b none c (act.Start t there) ok = absurd (nobody v.thread none (right_true (is_new o c (issued_by (act.Start t there))) (rule o v c (act.Start t there)) ok))
  where
    nobody : (x : Option ℕ) → x ≡ None → rule o (record v { thread = x }) c (act.Start t there) ≡ true → ⊥
    nobody None e h = cc h
    nobody (Some u) e h = cc e
unmoved o v b none c (act.Evict w) ok = refl
unmoved o v b none c (act.Make p w) ok = refl
unmoved o v b none c (act.Local p w) ok = refl
unmoved o v b none c (act.Hit p w) ok = refl
unmoved o v b none c (act.Ask p w) ok = refl
unmoved o v b none c (act.Serve p w there) ok = refl
unmoved o v b none c (act.Fill p w) ok = refl
unmoved o v b none c (act.Pull p w) ok = refl
unmoved o v b none c (act.Give p w there) ok = refl
unmoved o v b none c (act.Take p old new) ok = refl
unmoved o v b none c (act.Tint p old new) ok = refl
unmoved o v b none c (act.Renew p old new) ok = refl
unmoved o v b none c (act.Condemn p w) ok = refl
unmoved o v b none c (act.Free p w) ok = refl
unmoved o v b none c (act.AskLock m) ok = refl
unmoved o v b none c (act.Grant m t there) ok = refl
unmoved o v b none c (act.GiveBack m) ok = refl
unmoved o v b none c (act.AskDup m) ok = refl
unmoved o v b none c (act.Dupped m t there) ok = refl
unmoved o v b none c (act.LetGo x) ok = refl
unmoved o v b none c (act.AskJoin t) ok = refl
unmoved o v b none c (act.Answer t asker there) ok = refl
unmoved o v b none c (act.Finish t) ok = refl

all_unmoved : (o : Options) (v : EntryView) (b : Bool) → v.thread ≡ None → (acts : List Act) (c c2 : Coloured) → acts_after o v acts c ≡ Some c2 → tot (acts_of b) acts ≡ 0
all_unmoved o v b none [] c c2 e = refl
all_unmoved o v b none (a ∷ acts) c c2 e = by (allows o v c a) refl e (all_unmoved o v b none acts (after_act v c a) c2)
  where
    by : (q : Bool) → allows o v c a ≡ q → (if q then acts_after o v acts (after_act v c a) else None) ≡ Some c2 → (acts_after o v acts (after_act v c a) ≡ Some c2 → tot (acts_of b) acts ≡ 0) → tot (acts_of b) (a ∷ acts) ≡ 0
    by true q h go = let first = unmoved o v b none c a q in let rest = go h in omega (arith, first, rest)
    by false q h go = absurd (cc h)

-- nor do those of such an entry that is legal
pub legal_unmoved : (o : Options) (v : EntryView) (b : Bool) (c c2 : Coloured) → v.thread ≡ None → entry_after o c v ≡ Some c2 → tot (acts_of b) v.acts ≡ 0
legal_unmoved o v b c c2 none e = by (is_placed o c v) e
  where
    of : (x : Option Coloured) → acts_after o v v.acts c ≡ x → settled v x ≡ Some c2 → tot (acts_of b) v.acts ≡ 0
    of None q h = absurd (cc h)
    of (Some y) q h = all_unmoved o v b none v.acts c y q

    by : (q : Bool) → settled v (if q then acts_after o v v.acts c else None) ≡ Some c2 → tot (acts_of b) v.acts ≡ 0
    by true h = of (acts_after o v v.acts c) refl h
    by false h = absurd (cc h)

-- ENTRIES

-- the thread that an event moves
abbrev pub movers : What → List ℕ
movers (Migrate t target) = t ∷ []
movers w = []

-- from a state from which it is legal, its evictions are due, and it moves that thread alone
abbrev pub Shape : Options → Coloured → What → EntryView → Type 0
Shape o c w v = (c2 : Coloured) → entry_after o c v ≡ Some c2 → (are_due o v v.acts c ≡ true) × (departing v.acts ≡ movers w)

module _ (k : Cluster) (number : ℕ) (s : Server) (sound : IsSound k) (here : server_at k.servers number ≡ Some s) (c : Coloured) where
  abbrev Shaped : What → Server × EntryView → Type 0
  Shaped w r = Shape k.options c w r.1

  pub step_shape : (t : ℕ) → Gives (Shaped (Step t)) (does k.code k.options s (Step t))
  step_shape t =
      both_give Evicts (λ (r : Server × EntryView). tot (acts_of false) r.1.acts ≤ 0) (Shaped (Step t)) (does k.code k.options s (Step t)) (step_evicts k number s sound here t) (step_moves k number s sound here t)
      (λ r a b c2 q. (none_due k.options r.1 r.1.acts c a, none_departs r.1.acts b))

  pub delivery_shape : (i : ℕ) → Gives (Shaped (Deliver i)) (does k.code k.options s (Deliver i))
  delivery_shape i =
      weaker (λ (r : Server × EntryView). Evicts r × (r.1.thread ≡ None)) (Shaped (Deliver i)) (does k.code k.options s (Deliver i)) (delivery_evicts k number s sound here i)
      (λ r a c2 q. (none_due k.options r.1 r.1.acts c a.0, none_departs r.1.acts (let z = legal_unmoved k.options r.1 false c c2 a.1 q in omega (arith, z))))

  pub evict_shape : (w : ℕ) → k.options.cache < cached_at c s.rest.number → Gives (Shaped (Evict w)) (does k.code k.options s (Evict w))
  evict_shape w l = by (can_evict s.rest.cache w)
    where
      due : (nat_lt k.options.cache (cached_at c s.rest.number) && true) ≡ true
      due = let so : nat_lt k.options.cache (cached_at c s.rest.number) ≡ true = grind (arith, nat_tests, l) in ap (λ b. b && true) so

      by : (q : Bool) → Gives (Shaped (Evict w)) (option_map (left_by s.events None None) (option_map (λ x. record (begin_at s) { work = x }) (if q then Some (note (act.Evict w) (with_cache (evict s.rest.cache w) (begin_work s.rest))) else None)))
      by true = λ c2 q. (due, refl)
      by false = tt

  pub move_shape : (t target : ℕ) → Gives (Shaped (Migrate t target)) (does k.code k.options s (Migrate t target))
  move_shape t target =
      weaker (Moves t) (Shaped (Migrate t target)) (does k.code k.options s (Migrate t target)) (moving k.code k.options s t target) (λ r a c2 q. (none_due k.options r.1 r.1.acts c a.1, a.0))

-- a move's acts start nobody
pub acts_alone : (code : List Instr) (o : Options) (s : Server) (t target : ℕ) → Gives (λ (r : Server × EntryView). (r.1.done ≡ None) × (tot (acts_of true) r.1.acts ≡ 0)) (does code o s (Migrate t target))
acts_alone code o s t target =
    over_gives (λ (x : Site). tot (acts_of true) x.work.acts ≡ 0) (λ (r : Server × EntryView). (r.1.done ≡ None) × (tot (acts_of true) r.1.acts ≡ 0)) (migrate t target (begin_at s)) (left_by s.events (Some t) None)
    (then_gives (λ (x : Site). tot (acts_of true) x.work.acts ≡ 0) (thread_in s.threads t) _ (λ y q. map_gives (λ (x : Site). tot (acts_of true) x.work.acts ≡ 0) (pack_thread (record y { moved_since_step = true }) s.rest.cache) _ (λ p z. refl))) (λ x g. (refl, g))
