-- What the step of a thread leaves, told by its result: the sums of the cluster with the messages handed over, and so its own thread, cells and messages.
use Rattle.std.proofs.Common.{◌≡◌, ℕ, ◌+◌, ◌-◌, ◌≤◌, ◌==◌, ◌&&◌, Bool, true, false, ◌++◌, Option, Some, None, refl, ap, subst, ◌∙◌, arith}
use Rattle.std.specs.Prelude.{slice_get, option_map, length, take, drop}
use Rattle.law_walks_others.proofs.Below.fr_typing.PlaceLemmas.{eq_cases}
use Rattle.law_walks_others.specs.Below.fr_base.Names.{same_object}
use Rattle.law_walks_others.specs.Below.fr_base.declared.name.ObjNo.{ObjNo}
use Rattle.law_walks_others.specs.Below.fr_base.declared.instruction.Instr.{Instr}
use Rattle.law_walks_others.specs.Below.heap_partition.Same.{same_owned}
use Rattle.law_walks_others.specs.Below.heap_partition.declared.value.Cell.{Cell}
use Rattle.law_walks_others.specs.Below.heap_partition.declared.value.Owned.{Owned}
use Rattle.law_walks_others.specs.Below.thread_state.View.{ThreadState}
use Rattle.law_walks_others.specs.Below.thread_state.declared.value.Value.TheVariants as value
use Rattle.law_walks_others.specs.Below.journal.View.{EntryView}
use Rattle.law_walks_others.specs.Below.server_model.declared.event.Event.{Event}
use Rattle.law_walks_others.specs.Below.server_model.declared.event.What.{What}
use Rattle.law_walks_others.specs.Below.server_model.declared.event.What.TheVariants.{Step, Deliver, Evict, Migrate}
use Rattle.law_walks_others.specs.Below.server_model.Servers.{Server, Cluster, server_at}
use Rattle.law_walks_others.specs.Below.server_model.Work.{Hand, thread_in, without_thread, then_some}
use Rattle.law_walks_others.specs.Below.server_model.Clusters.{with_server, hand_over_newer, done_at, apply}
use Rattle.law_walks_others.specs.Below.server_model.Events.{Stepped, enabled, begin_work, step, step_in, stepped, does}
use Rattle.law_walks_others.specs.Below.coherent_memory.Names.{tot, one, if_so, Among}
use Rattle.law_walks_others.specs.Below.coherent_memory.Things.{Thing, lies, flies, thread_things, server_things, servers_things, things_of}
use Rattle.law_walks_others.specs.Below.coherent_memory.Follow.{Standing, Ground, thread_at, cell_of, slot_of, value_of}
use Rattle.law_walks_others.specs.Below.coherent_memory.Sight.{sight}
use Rattle.law_walks_others.proofs.Below.coherent_memory.Names.{and_left, and_right}
use Rattle.law_walks_others.proofs.Below.coherent_memory.Sums.{tot-append}
use Rattle.law_walks_others.specs.Below.coherent_types.ClusterTypes.{IsCoherent}
use Rattle.law_words_ends.specs.Below.law_words_paths.words.Reworded.{HasPlaces}
use Rattle.law_words_ends.proofs.Below.law_words_paths.words.Standing.{CellOf, lying, flying, cell_found}
use Rattle.law_walks_others.specs.Below.law_counts_sums.Laws.{Gives, GoTo, FewEvents}
use Rattle.law_walks_others.proofs.Below.law_counts_sums.Results.{then_gives, map_gives, over_gives, both_give, test_gives, given_by}
use Rattle.law_walks_others.proofs.Below.law_counts_sums.Bags.{all_standing, rest_things, server_same, thread_number, tot-set}
use Rattle.law_walks_others.proofs.Below.law_counts_sums.Events.{others_of, tot-server}
use Rattle.law_walks_others.proofs.Below.law_counts_sums.Applied.{go_with}
use Rattle.law_walks_others.proofs.Below.law_counts_sums.Handing.{hand_over_newer_law}
use Rattle.law_walks_others.proofs.Below.law_counts_sums.Sending.{each_event_sends}
use Rattle.law_walks_others.proofs.Below.law_heap_still.events.Addresses.{in_place}
use Rattle.law_walks_others.proofs.Below.law_heap_still.events.Leaving.{others, placed_here}
use Rattle.law_walks_others.proofs.Below.law_heap_still.events.Tests.{objects}
use Rattle.law_walks_others.proofs.Below.law_heap_still.events.Told.{told, same_told, at_thread, thread_told, found}
use Rattle.law_words_ends.proofs.Below.law_counts_things.things.Goes.{Goes, thread_goes}
use Rattle.law_walks_others.proofs.Below.law_results_reads.Known.{Steps}
use Rattle.law_walks_others.proofs.Below.law_counts_waiting.waits.Found.{weighing}
use Rattle.law_walks_others.proofs.pointers.Cells.{Seeing}
use Rattle.law_walks_others.proofs.pointers.Clusters.{goes_number}
use Rattle.law_walks_others.proofs.pointers.Commits.{EndsStep}
use Rattle.law_walks_others.proofs.pointers.Still.{shows}
use Rattle.law_walks_others.proofs.pointers.Tests.{owneds, same_value, values}
use Rattle.law_walks_others.proofs.pointers.Whole.{least, step_leaves}

any_gives : {X : Type 0} (P : X → Type 0) (o : Option X) → ((x : X) → P x) → Gives P o
any_gives P None f = tt
any_gives P (Some x) f = f x

-- AT ITS SERVER

module _ (k : Cluster) (n t : ℕ) (s : Server) (y : ThreadState) (i : Instr) (z : Steps k n t s y i) where
  abbrev h0 : Hand
  h0 = record { work = begin_work s.rest; thread = y }

  -- the server and the thread keep their numbers
  abbrev pub Numbered : Stepped → Type 0
  Numbered d = (d.hand.work.rest.number ≡ s.rest.number) × (d.hand.thread.number ≡ t)

  abbrev blank : Seeing
  blank = record { cells = λ q o v. 0; threads = λ r b u. 0; messages = λ r m. 0 }

  pub numbers_stay : Gives Numbered (step k.options.servers i h0)
  numbers_stay =
      both_give (EndsStep blank s.rest.number (least k n t s y i z blank (λ o h r v. refl))) (λ (d : Stepped). Goes k.code y d.hand.thread) Numbered (step k.options.servers i h0)
      (step_leaves k n t s y i z blank (λ o h r v. refl) k.options.servers (in_place s.rest.number s.events s.rest (others k z.coherent.sound n s z.here) (placed_here k z.coherent.sound n s z.here)))
      (thread_goes k.code k.options.servers i y z.code s.rest h0 refl) (λ d a g. (a.0, goes_number g ∙ thread_number s.threads t y z.at))

-- a step at its server, with its result
pub record StepsTo (k : Cluster) (number : ℕ) (server : Server) (t : ℕ) (r : Server × EntryView) : Type 0 where
  pub thread : ThreadState
  pub instruction : Instr
  pub steps : Steps k number t server thread instruction
  pub result : Stepped
  pub is : step k.options.servers instruction (record { work = begin_work server.rest; thread = thread }) ≡ Some result
  pub left : r.0 ≡ (stepped server result).0
  pub done : r.1.done ≡ result.names
  pub number_is : result.hand.work.rest.number ≡ server.rest.number
  pub named : result.hand.thread.number ≡ t

module _ (k : Cluster) (coherent : IsCoherent k) (few : FewEvents k) (n : ℕ) (s : Server) (here : server_at k.servers n ≡ Some s) where
  abbrev Then : What → Server × EntryView → Type 0
  Then what r = (t : ℕ) → what ≡ Step t → StepsTo k n s t r

  same_step : {t u : ℕ} → Step t ≡ Step u → t ≡ u
  same_step e = cc

  pub server_steps : (what : What) → enabled k.options s what ≡ true → Gives (Then what) (does k.code k.options s what)
  server_steps (Step t) able = by (thread_in s.threads t) refl
    where
      at : (y : ThreadState) → thread_in s.threads t ≡ Some y → (o : Option Instr) → slice_get k.code y.pc ≡ o → Gives (Then (Step t)) (option_map (stepped s) (then_some o (λ i. step k.options.servers i (record { work = begin_work s.rest; thread = y }))))
      at y q None e = tt
      at y q (Some i) e =
          let z : Steps k n t s y i = record { coherent = coherent; few = few; here = here; on = able; at = q; code = e } in
          map_gives (Then (Step t)) (step k.options.servers i (record { work = begin_work s.rest; thread = y })) (stepped s) (λ d is u f.
          let numbered = given_by (Numbered k n t s y i z) (step k.options.servers i (record { work = begin_work s.rest; thread = y })) d (numbers_stay k n t s y i z) is in
          subst (λ v. StepsTo k n s v (stepped s d)) (same_step f) (record { thread = y; instruction = i; steps = z; result = d; is = is; left = refl; done = refl; number_is = numbered.0; named = numbered.1 }))

      by : (o : Option ThreadState) → thread_in s.threads t ≡ o → Gives (Then (Step t)) (option_map (stepped s) (then_some (option_map (λ y. record { work = begin_work s.rest; thread = y }) o) (step_in k.code k.options.servers)))
      by None q = tt
      by (Some y) q = at y q (slice_get k.code y.pc) refl
  server_steps (Deliver i) able = any_gives (Then (Deliver i)) (does k.code k.options s (Deliver i)) (λ r t e. absurd (cc e))
  server_steps (Evict w) able = any_gives (Then (Evict w)) (does k.code k.options s (Evict w)) (λ r t e. absurd (cc e))
  server_steps (Migrate t target) able = any_gives (Then (Migrate t target)) (does k.code k.options s (Migrate t target)) (λ r u e. absurd (cc e))

-- IN ITS CLUSTER

-- the step that led to a cluster, and the sums there
pub record Own (k c : Cluster) (v : EntryView) (t : ℕ) : Type 0 where
  pub number : ℕ
  pub server : Server
  pub thread : ThreadState
  pub instruction : Instr
  pub steps : Steps k number t server thread instruction
  pub result : Stepped
  pub is : step k.options.servers instruction (record { work = begin_work server.rest; thread = thread }) ≡ Some result
  pub done : v.done ≡ result.names
  pub number_is : result.hand.work.rest.number ≡ server.rest.number
  pub named : result.hand.thread.number ≡ t
  pub sums : (f : Thing → ℕ) → tot f (things_of c) ≡ tot f (server_things (stepped server result).0) + tot f (servers_things (others_of k.servers number))

module _ (k : Cluster) (e : Event) (coherent : IsCoherent k) (few : FewEvents k) where
  abbrev pub OwnIn : Cluster × EntryView → Type 0
  OwnIn d = (t : ℕ) → e.what ≡ Step t → Own k d.0 d.1 t

  abbrev Sends : Server → Server × EntryView → Type 0
  Sends s r = GoTo (with_server k.servers e.server r.0) (drop (length s.rest.outbox) r.0.rest.outbox)

  handed : (s : Server) → server_at k.servers e.server ≡ Some s → (r : Server × EntryView) → Sends s r → (t : ℕ) → StepsTo k e.server s t r
      → Own k (record k { servers = hand_over_newer e.server (length s.rest.outbox) r.0 k.servers }) r.1 t
  handed s here r go t u = record {
    number = e.server;
    server = s;
    thread = u.thread;
    instruction = u.instruction;
    steps = u.steps;
    result = u.result;
    is = u.is;
    done = u.done;
    number_is = u.number_is;
    named = u.named;
    sums = λ f. over f ∙ (tot-server f k.servers e.server s r.0 here).1 ∙ ap (λ q. tot f (server_things q) + tot f (servers_things (others_of k.servers e.server))) u.left;
  }
    where
      over : (f : Thing → ℕ) → tot f (servers_things (hand_over_newer e.server (length s.rest.outbox) r.0 k.servers)) ≡ tot f (servers_things (with_server k.servers e.server r.0))
      over f =
          let older = length s.rest.outbox in
          hand_over_newer_law f e.server older s r.0 k.servers here (go_with k.servers e.server r.0 (take older r.0.rest.outbox) (drop older r.0.rest.outbox) go)

  pub own_step : Gives OwnIn (apply k e)
  own_step =
      then_gives OwnIn (server_at k.servers e.server) _ (λ s here.
      over_gives (λ r. Sends s r × ((t : ℕ) → e.what ≡ Step t → StepsTo k e.server s t r)) OwnIn (done_at k e.what s) _
      (both_give (Sends s) (λ r. (t : ℕ) → e.what ≡ Step t → StepsTo k e.server s t r) (λ r. Sends s r × ((t : ℕ) → e.what ≡ Step t → StepsTo k e.server s t r)) (done_at k e.what s) (each_event_sends k e coherent.sound few s here)
      (test_gives (λ r. (t : ℕ) → e.what ≡ Step t → StepsTo k e.server s t r) (enabled k.options s e.what) (does k.code k.options s e.what) (λ able. server_steps k coherent few e.server s here e.what able)) (λ r a b. (a, b)))
      (λ r u t q. handed s here r u.0 t (u.1 t q)))

-- WHAT IS THERE

-- a cell that shows that value
truly : (b : Bool) → 1 ≤ one b → b ≡ true
truly true l = refl
truly false l = absurd (omega (arith, l))

pub shown_there : (c : Cluster) → HasPlaces c → (o : ObjNo) (v : Owned) → 1 ≤ tot (shows o v) (things_of c) → value_of (cell_of (sight c).ground.cells o) ≡ Some (value.Own v)
shown_there c after o v l = let r = weighing (shows o v) (things_of c) l in by r.thing r.among r.weighs
  where
    it : (d : Cell) (y : Thing) → CellOf d y → Among y (things_of c) → 1 ≤ one (same_object d.object o && same_owned d.value v) → value_of (cell_of (sight c).ground.cells o) ≡ Some (value.Own v)
    it d y is h l =
        let all = truly (same_object d.object o && same_owned d.value v) l in
        let object : d.object ≡ o = objects.tells d.object o (and_left (same_object d.object o) (same_owned d.value v) all) in
        let value_is : d.value ≡ v = owneds.tells d.value v (and_right (same_object d.object o) (same_owned d.value v) all) in
        ap value_of (subst (λ q. cell_of (sight c).ground.cells q ≡ Some d) object (cell_found d y (things_of c) (after.home_of_each d.object) is h)) ∙ ap (λ u. Some (value.Own u)) value_is

    by : (y : Thing) → Among y (things_of c) → 1 ≤ shows o v y → value_of (cell_of (sight c).ground.cells o) ≡ Some (value.Own v)
    by (lies s a d) h l = it d (lies s a d) (lying s a) h l
    by (flies u d) h l = it d (flies u d) (flying u) h l
    by _ h l = absurd (omega (arith, l))

module _ (k c : Cluster) (v : EntryView) (t : ℕ) (o : Own k c v t) (after : HasPlaces c) where
  abbrev m : ℕ
  m = o.server.rest.number

  abbrev pub hand : Hand
  hand = o.result.hand

  -- the thread that stepped
  abbrev pub me : Standing
  me = record { server = o.server.rest.number; packed = false; thread = o.result.hand.thread }

  abbrev G2 : Ground
  G2 = (sight c).ground

  abbrev s2 : Server
  s2 = (stepped o.server o.result).0

  pub parts : (f : Thing → ℕ) → tot f (things_of c) ≡ (tot f (thread_things m false hand.thread) + tot f (all_standing m (without_thread o.server.threads t)) + tot f (rest_things m (o.server.events + 1) hand.work.rest)) + tot f (servers_things (others_of k.servers o.number))
  parts f =
      let z = o.steps in
      let whole : tot f (server_things s2) ≡ tot f (all_standing m s2.threads ++ rest_things m s2.events s2.rest) = subst (λ u. tot f (server_things s2) ≡ tot f (all_standing u s2.threads ++ rest_things u s2.events s2.rest)) o.number_is (server_same s2 f) in
      omega (arith, o.sums f, whole, tot-append f (all_standing m s2.threads) (rest_things m s2.events s2.rest), tot-set m f o.server.threads t o.thread hand.thread z.at o.named)

  -- no count tells who has that number from the thread that stepped
  mine : (g : Standing → ℕ) → g me ≤ told g (thread_at G2.threads t)
  mine g =
      let a = parts (at_thread g t) in
      let b = thread_told g t (things_of c) (after.numbers_differ t) in
      let one_is : if_so (hand.thread.number == t) (g me) ≡ g me = subst (λ u. if_so (hand.thread.number == u) (g me) ≡ g me) o.named (eq_cases (λ q. if_so q (g me) ≡ g me) hand.thread.number hand.thread.number (λ e. refl) (λ ne. absurd (ne refl))) in
      omega (arith, a, b, one_is)

  same_counts : (x : Standing) → thread_at G2.threads t ≡ Some x → (g : Standing → ℕ) → g x ≡ g me
  same_counts x e g =
      let less : (f : Standing → ℕ) → f me ≤ f x = λ f. (let a = mine f in let b : told f (thread_at G2.threads t) ≡ f x = ap (told f) e in omega (arith, a, b)) in
      let one_way = less g in
      let other_way = less (λ u. (g x + g me) - g u) in
      omega (arith, one_way, other_way)

  pub it_is : (x : Standing) → Among x G2.threads → x.thread.number ≡ t → (g : Standing → ℕ) → g x ≡ g me
  it_is x among e g = same_counts x (subst (λ u. thread_at G2.threads u ≡ Some x) e (found x (things_of c) (after.numbers_differ x.thread.number) among)) g

  -- its slots
  pub slot_is : (i : ℕ) → slot_of (thread_at G2.threads t) i ≡ slice_get hand.thread.slots i
  slot_is i = by (thread_at G2.threads t) refl
    where
      by : (q : Option Standing) → thread_at G2.threads t ≡ q → slot_of q i ≡ slice_get hand.thread.slots i
      by None e = let a = mine (λ u. 1) in let b : told (λ (u : Standing). 1) (thread_at G2.threads t) ≡ 0 = ap (told (λ (u : Standing). 1)) e in absurd (omega (arith, a, b))
      by (Some x) e = same_told same_value values (slice_get x.thread.slots i) (slice_get hand.thread.slots i) (λ f. same_counts x e (λ u. told f (slice_get u.thread.slots i)))
