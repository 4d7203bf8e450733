-- What a step that is done leaves of its cluster, once messages are handed over: what such a weight sees is no less, and its own thread waits for no home.
use Rattle.std.proofs.Common.{◌≡◌, ℕ, ◌+◌, ◌≤◌, Bool, true, false, List, [], ◌∷◌, ◌++◌, Option, Some, None, refl, sym, ap, subst, ◌∙◌, arith}
use Rattle.std.specs.Prelude.{slice_get, option_map, length, take, drop}
use Rattle.law_counts_asking.specs.Below.fr_base.declared.label.Plain.{Plain}
use Rattle.law_counts_asking.specs.Below.fr_base.declared.name.ObjNo.{ObjNo}
use Rattle.law_counts_asking.specs.Below.fr_base.declared.step.Fresh.{Fresh}
use Rattle.law_counts_asking.specs.Below.fr_base.declared.instruction.Instr.{Instr}
use Rattle.law_counts_asking.specs.Below.thread_state.View.{ThreadState}
use Rattle.law_counts_asking.specs.Below.journal.View.{EntryView}
use Rattle.law_counts_asking.specs.Below.server_model.declared.event.Event.{Event}
use Rattle.law_counts_asking.specs.Below.server_model.declared.event.What.{What}
use Rattle.law_counts_asking.specs.Below.server_model.declared.event.What.TheVariants.{Step, Deliver, Evict, Migrate}
use Rattle.law_counts_asking.specs.Below.server_model.Servers.{Server, Cluster, server_at}
use Rattle.law_counts_asking.specs.Below.server_model.Work.{Hand, thread_in, without_thread, set_thread, then_some}
use Rattle.law_counts_asking.specs.Below.server_model.Clusters.{with_server, hand_over_newer, done_at, apply}
use Rattle.law_counts_asking.specs.Below.server_model.Events.{Stepped, enabled, begin_work, step, step_in, stepped, left_by, does}
use Rattle.law_counts_asking.specs.Below.coherent_memory.Names.{tot}
use Rattle.law_counts_asking.specs.Below.coherent_memory.Things.{Thing, stands, thread_things, server_things, servers_things, things_of}
use Rattle.law_counts_asking.proofs.Below.coherent_memory.Sums.{tot-append}
use Rattle.law_counts_asking.specs.Below.coherent_types.ClusterTypes.{IsCoherent}
use Rattle.law_counts_asking.specs.Below.law_counts_sums.Laws.{Gives, GoTo, FewEvents}
use Rattle.law_counts_asking.proofs.Below.law_counts_sums.Results.{then_gives, over_gives, both_give, test_gives}
use Rattle.law_counts_asking.proofs.Below.law_counts_sums.Bags.{all_standing, rest_things, server_same, thread_number, tot-without, tot-set}
use Rattle.law_counts_asking.proofs.Below.law_counts_sums.Events.{tot-server}
use Rattle.law_counts_asking.proofs.Below.law_counts_sums.Applied.{go_with}
use Rattle.law_counts_asking.proofs.Below.law_counts_sums.Handing.{hand_over_newer_law}
use Rattle.law_counts_asking.proofs.Below.law_counts_sums.Sending.{each_event_sends}
use Rattle.law_words_asked.specs.Below.law_heap_still.events.Shows.{Sign, an_object, a_thread, ShownThread, shown_thread, has_both, sign_of}
use Rattle.law_words_asked.proofs.Below.law_heap_still.events.Addresses.{in_place}
use Rattle.law_words_asked.proofs.Below.law_heap_still.events.Leaving.{others, placed_here}
use Rattle.law_counts_asking.proofs.Below.law_counts_things.things.Goes.{Goes, on, waits_pair, is_over, asks_cell, asks_home, gets_cell, gets_gift, goes_pair, thread_goes}
use Rattle.law_counts_asking.specs.Below.law_words_paths.paths.HeapStore.{HasPaths}
use Rattle.law_counts_asking.proofs.Below.law_results_reads.Known.{Steps, paths}
use Rattle.law_counts_waiting.proofs.waits.Amounts.{SeesStanding, rest_seen, thread_seen}
use Rattle.law_counts_waiting.proofs.waits.Commits.{is_calm, EndsStep}
use Rattle.law_counts_waiting.proofs.waits.Steps.{step_leaves, least}
use Rattle.law_counts_waiting.proofs.waits.Written.{Written, written}

-- a weight that sees threads and cells alone, nothing of that thread, and nothing of what that thread writes through stars
pub record Weight (k : Cluster) (c : HasPaths k) (t : ℕ) : Type 0 where
  pub weight : Sign → ℕ
  pub sees : SeesStanding weight
  pub own : (z : ShownThread) (b : Bool) → z.number ≡ t → weight (a_thread z b) ≡ 0
  pub apart : (o : ObjNo) → Written k c t o → (a : Plain) → weight (an_object o a) ≡ 0

-- the thread that stepped stands there, and calls no home
pub record Stepping (t server : ℕ) (b : List Thing) : Type 0 where
  pub thread : ThreadState
  pub number : thread.number ≡ t
  pub calm : is_calm thread.phase ≡ true
  pub there : (f : Thing → ℕ) → f (stands server false thread) ≤ tot f b

-- a step that is done leaves no less to such weights
pub record Leaves (k : Cluster) (c : HasPaths k) (t server : ℕ) (a b : List Thing) : Type 0 where
  pub much : (w : Weight k c t) → tot (λ x. w.weight (sign_of x)) a ≤ tot (λ x. w.weight (sign_of x)) b
  pub stepping : Stepping t server b

-- the same of the thread that steps
pub record Done (k : Cluster) (what : What) (a b : List Thing) : Type 0 where
  pub thread : ℕ
  pub is : what ≡ Step thread
  pub paths : HasPaths k
  pub server : ℕ
  pub leaves : Leaves k paths thread server a b

-- of each weight, and so of all
all_give : {A X : Type 0} (P : A → X → Type 0) (o : Option X) → ((a : A) → Gives (P a) o) → Gives (λ x. (a : A) → P a x) o
all_give P None g = tt
all_give P (Some x) g = λ a. g a

-- a thread keeps its number
goes_number : {code : List Instr} {y y2 : ThreadState} → Goes code y y2 → y2.number ≡ y.number
goes_number (on i at o pc q passed walk g same) = same.number
goes_number (waits_pair cs pc ds other a b at m q passed walk g same) = same.number
goes_number (is_over o at pc q passed walk slots temps g same) = same.number
goes_number (asks_cell i w at f pc q g same) = same.number
goes_number (asks_home i p at a pc q g passed walk same) = same.number
goes_number (gets_cell w was q pc g same) = same.number
goes_number (gets_gift was q pc passed walk temps shares same) = same.number
goes_number (goes_pair a b was q pc g passed walk same) = same.number

-- AT ITS SERVER

module _ (k : Cluster) (n t : ℕ) (s : Server) (y : ThreadState) (i : Instr) (z : Steps k n t s y i) where
  abbrev h0 : Hand
  h0 = record { work = begin_work s.rest; thread = y }

  abbrev m : ℕ
  m = s.rest.number

  named : y.number ≡ t
  named = thread_number s.threads t y z.at

  abbrev AllEnd : Stepped → Type 0
  AllEnd d = (w : Weight k (paths k n t s y i z) t) → EndsStep w.weight w.sees m (least k n t s y i z w.weight w.sees) d

  all_end : Gives AllEnd (step k.options.servers i h0)
  all_end =
      all_give (λ (w : Weight k (paths k n t s y i z) t) (d : Stepped). EndsStep w.weight w.sees m (least k n t s y i z w.weight w.sees) d) (step k.options.servers i h0) (λ w.
      step_leaves k n t s y i z w.weight w.sees k.options.servers (in_place m s.events s.rest (others k z.coherent.sound n s z.here) (placed_here k z.coherent.sound n s z.here)) (λ v d through o located a. w.apart o (subst (λ u. Written k (paths k n t s y i z) u o) named (written k n t s y i z v d through o located)) a))

  -- a weight that sees nothing at all
  blank : Weight k (paths k n t s y i z) t
  blank = record { weight = λ x. 0; sees = record { none = refl; values = λ p v. refl; branches = λ u b. refl; counts = λ a b c. refl }; own = λ u b e. refl; apart = λ o h a. refl }

  module _ (d : Stepped) (ends : AllEnd d) (numbered : d.hand.thread.number ≡ t) (names : Fresh) (done : d.names ≡ Some names) where
    ended : (w : Weight k (paths k n t s y i z) t) → Rattle.law_counts_waiting.proofs.waits.Commits.Ends w.weight w.sees m (least k n t s y i z w.weight w.sees) d.hand
    ended w = subst (λ o. Rattle.law_counts_waiting.proofs.waits.Commits.EndsBy w.weight w.sees m (least k n t s y i z w.weight w.sees) o d.hand) done (ends w)

    abbrev s2 : Server
    s2 = (stepped s d).0

    same_number : s2.rest.number ≡ m
    same_number = (ended blank).0.0

    parts : (f : Thing → ℕ) → tot f (server_things s2) ≡ tot f (thread_things m false d.hand.thread) + tot f (all_standing m (without_thread s.threads t)) + tot f (rest_things m s2.events s2.rest)
    parts f =
        let whole : tot f (server_things s2) ≡ tot f (all_standing m s2.threads ++ rest_things m s2.events s2.rest) = subst (λ u. tot f (server_things s2) ≡ tot f (all_standing u s2.threads ++ rest_things u s2.events s2.rest)) same_number (server_same s2 f) in
        omega (arith, whole, tot-append f (all_standing m s2.threads) (rest_things m s2.events s2.rest), tot-set m f s.threads t y d.hand.thread z.at numbered)

    leaves : Leaves k (paths k n t s y i z) t m (server_things s) (server_things s2)
    leaves = record {
      much = λ w.
          let f : Thing → ℕ = λ x. w.weight (sign_of x) in
          let e = ended w in
          let none : f (stands m false y) ≡ 0 = w.own (shown_thread y) (has_both y.phase) named in
          omega (
            arith,
            e.0.1,
            none,
            parts f,
            server_same s f,
            tot-append f (all_standing m s.threads) (rest_things m s.events s.rest),
            tot-without m f s.threads t y z.at,
            thread_seen w.weight w.sees m false y,
            rest_seen w.weight w.sees m s.events s.rest,
            rest_seen w.weight w.sees m s2.events s2.rest,
          );
      stepping = record { thread = d.hand.thread; number = numbered; calm = (ended blank).1; there = λ f. omega (arith, parts f) };
    }

  -- where a plain step is done
  abbrev DoneAt : Server × EntryView → Type 0
  DoneAt r = (names : Fresh) → r.1.done ≡ Some names → Done k (Step t) (server_things s) (server_things r.0)

  steps_so : Gives DoneAt (option_map (stepped s) (step k.options.servers i h0))
  steps_so =
      over_gives (λ (d : Stepped). AllEnd d × (d.hand.thread.number ≡ t)) DoneAt (step k.options.servers i h0) (stepped s)
      (both_give AllEnd (λ (d : Stepped). Goes k.code y d.hand.thread) (λ (d : Stepped). AllEnd d × (d.hand.thread.number ≡ t)) (step k.options.servers i h0) all_end (thread_goes k.code k.options.servers i y z.code s.rest h0 refl)
      (λ d a g. (a, goes_number g ∙ named)))
      (λ d u names e. record { thread = t; is = refl; paths = paths k n t s y i z; server = m; leaves = leaves d u.0 u.1 names e })

module _ (k : Cluster) (coherent : IsCoherent k) (few : FewEvents k) (n : ℕ) (s : Server) (here : server_at k.servers n ≡ Some s) where
  abbrev Then : What → Server × EntryView → Type 0
  Then what r = (names : Fresh) → r.1.done ≡ Some names → Done k what (server_things s) (server_things r.0)

  none_done : (what : What) {Y : Type 0} (o : Option Y) (f : Y → Server × EntryView) → ((y : Y) → (f y).1.done ≡ None) → Gives (Then what) (option_map f o)
  none_done what None f e = tt
  none_done what (Some y) f e = λ names q. absurd (cc (sym (e y) ∙ q))

  server_done : (what : What) → enabled k.options s what ≡ true → Gives (Then what) (does k.code k.options s what)
  server_done (Step t) able = by (thread_in s.threads t) refl
    where
      at : (y : ThreadState) → thread_in s.threads t ≡ Some y → (o : Option Instr) → slice_get k.code y.pc ≡ o → Gives (Then (Step t)) (option_map (stepped s) (then_some o (λ i. step k.options.servers i (record { work = begin_work s.rest; thread = y }))))
      at y q None e = tt
      at y q (Some i) e = steps_so k n t s y i (record { coherent = coherent; few = few; here = here; on = able; at = q; code = e })

      by : (o : Option ThreadState) → thread_in s.threads t ≡ o → Gives (Then (Step t)) (option_map (stepped s) (then_some (option_map (λ y. record { work = begin_work s.rest; thread = y }) o) (step_in k.code k.options.servers)))
      by None q = tt
      by (Some y) q = at y q (slice_get k.code y.pc) refl
  server_done (Deliver i) able = none_done (Deliver i) _ (left_by s.events None None) (λ x. refl)
  server_done (Evict w) able = none_done (Evict w) _ (left_by s.events None None) (λ x. refl)
  server_done (Migrate t target) able = none_done (Migrate t target) _ (left_by s.events (Some t) None) (λ x. refl)

-- IN ITS CLUSTER

module _ (k : Cluster) (e : Event) (coherent : IsCoherent k) (few : FewEvents k) where
  abbrev DoneIn : Cluster × EntryView → Type 0
  DoneIn d = (names : Fresh) → d.1.done ≡ Some names → Done k e.what (things_of k) (things_of d.0)

  abbrev Sends : Server → Server × EntryView → Type 0
  Sends s r = GoTo (with_server k.servers e.server r.0) (drop (length s.rest.outbox) r.0.rest.outbox)

  handed : (s : Server) → server_at k.servers e.server ≡ Some s → (r : Server × EntryView) → Sends s r → Done k e.what (server_things s) (server_things r.0)
      → Done k e.what (things_of k) (servers_things (hand_over_newer e.server (length s.rest.outbox) r.0 k.servers))
  handed s here r go u = record {
    thread = u.thread;
    is = u.is;
    paths = u.paths;
    server = u.server;
    leaves = record {
      much = λ w.
          let f : Thing → ℕ = λ x. w.weight (sign_of x) in
          let t = tot-server f k.servers e.server s r.0 here in
          omega (arith, u.leaves.much w, over f, t.0, t.1);
      stepping = record {
        thread = u.leaves.stepping.thread;
        number = u.leaves.stepping.number;
        calm = u.leaves.stepping.calm;
        there = λ f. omega (arith, u.leaves.stepping.there f, over f, (tot-server f k.servers e.server s r.0 here).1);
      };
    };
  }
    where
      over : (f : Thing → ℕ) → tot f (servers_things (hand_over_newer e.server (length s.rest.outbox) r.0 k.servers)) ≡ tot f (servers_things (with_server k.servers e.server r.0))
      over f =
          let older = length s.rest.outbox in
          hand_over_newer_law f e.server older s r.0 k.servers here (go_with k.servers e.server r.0 (take older r.0.rest.outbox) (drop older r.0.rest.outbox) go)

  pub step_done : Gives DoneIn (apply k e)
  step_done =
      then_gives DoneIn (server_at k.servers e.server) _ (λ s here.
      over_gives (λ r. Sends s r × Then k coherent few e.server s here e.what r) DoneIn (done_at k e.what s) _
      (both_give (Sends s) (Then k coherent few e.server s here e.what) (λ r. Sends s r × Then k coherent few e.server s here e.what r) (done_at k e.what s) (each_event_sends k e coherent.sound few s here)
      (test_gives (Then k coherent few e.server s here e.what) (enabled k.options s e.what) (does k.code k.options s e.what) (λ able. server_done k coherent few e.server s here e.what able)) (λ r a b. (a, b)))
      (λ r u names q. handed s here r u.0 (u.1 names q)))
