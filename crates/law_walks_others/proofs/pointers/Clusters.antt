-- After the step of a thread a weight that sees cells and threads, words included, sees no less, but for that thread and for what it writes.
use Rattle.std.proofs.Common.{◌≡◌, ℕ, ◌+◌, ◌≤◌, Bool, true, false, List, ◌++◌, Option, Some, None, refl, subst, ◌∙◌, arith}
use Rattle.std.specs.Prelude.{slice_get, option_map, length, take, drop}
use Rattle.law_words_values.specs.Below.fr_base.declared.name.ObjNo.{ObjNo}
use Rattle.law_words_values.specs.Below.fr_base.declared.instruction.Instr.{Instr}
use Rattle.law_words_values.specs.Below.heap_partition.declared.value.Owned.{Owned}
use Rattle.law_words_values.specs.Below.thread_state.View.{ThreadState}
use Rattle.law_words_values.specs.Below.journal.View.{EntryView}
use Rattle.law_words_values.specs.Below.server_model.declared.event.Event.{Event}
use Rattle.law_words_values.specs.Below.server_model.declared.event.What.{What}
use Rattle.law_words_values.specs.Below.server_model.declared.event.What.TheVariants.{Step, Deliver, Evict, Migrate}
use Rattle.law_words_values.specs.Below.server_model.Servers.{Server, Cluster, server_at}
use Rattle.law_words_values.specs.Below.server_model.Work.{Hand, thread_in, without_thread, then_some}
use Rattle.law_words_values.specs.Below.server_model.Clusters.{with_server, hand_over_newer, done_at, apply}
use Rattle.law_words_values.specs.Below.server_model.Events.{Stepped, enabled, begin_work, step, step_in, stepped, does}
use Rattle.law_words_values.specs.Below.coherent_memory.Names.{tot}
use Rattle.law_words_values.specs.Below.coherent_memory.Things.{Thing, thread_things, server_things, servers_things, things_of}
use Rattle.law_words_values.proofs.Below.coherent_memory.Sums.{tot-append}
use Rattle.law_words_values.specs.Below.coherent_types.ClusterTypes.{IsCoherent}
use Rattle.law_words_values.specs.Below.law_counts_sums.Laws.{Gives, GoTo, FewEvents}
use Rattle.law_words_values.proofs.Below.law_counts_sums.Results.{then_gives, over_gives, both_give, test_gives, weaker}
use Rattle.law_words_values.proofs.Below.law_counts_sums.Bags.{all_standing, rest_things, server_same, thread_number, tot-without, tot-set}
use Rattle.law_words_values.proofs.Below.law_counts_sums.Events.{tot-server}
use Rattle.law_words_values.proofs.Below.law_counts_sums.Applied.{go_with}
use Rattle.law_words_values.proofs.Below.law_counts_sums.Handing.{hand_over_newer_law}
use Rattle.law_words_values.proofs.Below.law_counts_sums.Sending.{each_event_sends}
use Rattle.law_words_values.proofs.Below.law_heap_still.events.Addresses.{in_place}
use Rattle.law_words_values.proofs.Below.law_heap_still.events.Leaving.{others, placed_here}
use Rattle.law_words_values.proofs.Below.law_counts_things.things.Goes.{Goes, on, waits_pair, is_over, asks_cell, asks_home, gets_cell, gets_gift, goes_pair, thread_goes}
use Rattle.law_words_values.specs.Below.law_words_paths.paths.HeapStore.{HasPaths}
use Rattle.law_words_values.proofs.Below.law_results_reads.Known.{Steps, paths}
use Rattle.law_counts_waiting.proofs.waits.Written.{Written}
use Rattle.law_walks_others.proofs.pointers.Cells.{Seeing, cell_weight, rest_seen, thread_seen}
use Rattle.law_walks_others.proofs.pointers.Commits.{EndsStep}
use Rattle.law_walks_others.proofs.pointers.Whole.{least, step_leaves}

-- the weight sees nothing of that thread, and nothing of what that thread writes
pub record Unseen (k : Cluster) (p : HasPaths k) (t : ℕ) (see : Seeing) : Type 0 where
  pub thread : (s : ℕ) (b : Bool) (y : ThreadState) → y.number ≡ t → see.threads s b y ≡ 0
  pub written : (o : ObjNo) → Written k p t o → (r : Option ℕ) (v : Owned) → see.cells r o v ≡ 0

-- such weights see no less afterwards
abbrev pub SeesOn : (k : Cluster) → HasPaths k → ℕ → List Thing → List Thing → Type 0
SeesOn k p t a b = (see : Seeing) → Unseen k p t see → tot (cell_weight see) a ≤ tot (cell_weight see) b

-- the same, with the places of its threads
abbrev pub Seen : (k : Cluster) → ℕ → List Thing → List Thing → Type 0
Seen k t a b = (p : HasPaths k) × SeesOn k p t a b

-- of each weight, and so of all
all_give : {A X : Type 0} (P : A → X → Type 0) (o : Option X) → ((a : A) → Gives (P a) o) → Gives (λ x. (a : A) → P a x) o
all_give P None g = tt
all_give P (Some x) g = λ a. g a

any_gives : {X : Type 0} (P : X → Type 0) (o : Option X) → ((x : X) → P x) → Gives P o
any_gives P None f = tt
any_gives P (Some x) f = f x

-- a thread keeps its number
pub goes_number : {code : List Instr} {y y2 : ThreadState} → Goes code y y2 → y2.number ≡ y.number
goes_number (on i at o pc q passed walk g same) = same.number
goes_number (waits_pair cs pc ds other a b at m q passed walk g same) = same.number
goes_number (is_over o at pc q passed walk slots temps g same) = same.number
goes_number (asks_cell i w at f pc q g same) = same.number
goes_number (asks_home i p at a pc q g passed walk same) = same.number
goes_number (gets_cell w was q pc g same) = same.number
goes_number (gets_gift was q pc passed walk temps shares same) = same.number
goes_number (goes_pair a b was q pc g passed walk same) = same.number

-- AT ITS SERVER

module _ (k : Cluster) (n t : ℕ) (s : Server) (y : ThreadState) (i : Instr) (z : Steps k n t s y i) where
  abbrev h0 : Hand
  h0 = record { work = begin_work s.rest; thread = y }

  abbrev m : ℕ
  m = s.rest.number

  abbrev p : HasPaths k
  p = paths k n t s y i z

  named : y.number ≡ t
  named = thread_number s.threads t y z.at

  -- a weight of that kind
  abbrev Sees : Type 0
  Sees = (see : Seeing) × Unseen k p t see

  own : (w : Sees) (o : ObjNo) → Written k p y.number o → (r : Option ℕ) (v : Owned) → w.0.cells r o v ≡ 0
  own w o h r v = let u = w.1 in u.written o (subst (λ b. Written k p b o) named h) r v

  abbrev AllEnd : Stepped → Type 0
  AllEnd d = (w : Sees) → EndsStep w.0 m (least k n t s y i z w.0 (own w)) d

  all_end : Gives AllEnd (step k.options.servers i h0)
  all_end =
      all_give (λ (w : Sees) (d : Stepped). EndsStep w.0 m (least k n t s y i z w.0 (own w)) d) (step k.options.servers i h0) (λ w.
      step_leaves k n t s y i z w.0 (own w) k.options.servers (in_place m s.events s.rest (others k z.coherent.sound n s z.here) (placed_here k z.coherent.sound n s z.here)))

  -- a weight that sees nothing at all
  blank : Sees
  blank = (record { cells = λ q o v. 0; threads = λ r b u. 0; messages = λ r m. 0 }, record { thread = λ r b u e. refl; written = λ o h q v. refl })

  module _ (d : Stepped) (ends : AllEnd d) (numbered : d.hand.thread.number ≡ t) where
    abbrev s2 : Server
    s2 = (stepped s d).0

    same_number : s2.rest.number ≡ m
    same_number = (ends blank).0

    parts : (f : Thing → ℕ) → tot f (server_things s2) ≡ tot f (thread_things m false d.hand.thread) + tot f (all_standing m (without_thread s.threads t)) + tot f (rest_things m s2.events s2.rest)
    parts f =
        let whole : tot f (server_things s2) ≡ tot f (all_standing m s2.threads ++ rest_things m s2.events s2.rest) = subst (λ u. tot f (server_things s2) ≡ tot f (all_standing u s2.threads ++ rest_things u s2.events s2.rest)) same_number (server_same s2 f) in
        omega (arith, whole, tot-append f (all_standing m s2.threads) (rest_things m s2.events s2.rest), tot-set m f s.threads t y d.hand.thread z.at numbered)

    leaves : SeesOn k p t (server_things s) (server_things s2)
    leaves see unseen =
        let f : Thing → ℕ = cell_weight see in
        let e = ends (see, unseen) in
        let none : see.threads m false y ≡ 0 = unseen.thread m false y named in
        omega (
          arith,
          e.1,
          none,
          parts f,
          server_same s f,
          tot-append f (all_standing m s.threads) (rest_things m s.events s.rest),
          tot-without m f s.threads t y z.at,
          thread_seen see m false y,
          rest_seen see m s.events s.rest,
          rest_seen see m s2.events s2.rest,
        )

  abbrev Sees_on : Server × EntryView → Type 0
  Sees_on r = SeesOn k p t (server_things s) (server_things r.0)

  pub steps_so : Gives Sees_on (option_map (stepped s) (step k.options.servers i h0))
  steps_so =
      over_gives (λ (d : Stepped). AllEnd d × (d.hand.thread.number ≡ t)) Sees_on (step k.options.servers i h0) (stepped s)
      (both_give AllEnd (λ (d : Stepped). Goes k.code y d.hand.thread) (λ (d : Stepped). AllEnd d × (d.hand.thread.number ≡ t)) (step k.options.servers i h0) all_end (thread_goes k.code k.options.servers i y z.code s.rest h0 refl)
      (λ d a g. (a, goes_number g ∙ named))) (λ d u. leaves d u.0 u.1)

module _ (k : Cluster) (coherent : IsCoherent k) (few : FewEvents k) (n : ℕ) (s : Server) (here : server_at k.servers n ≡ Some s) where
  abbrev pub Then : What → Server × EntryView → Type 0
  Then what r = (t : ℕ) → what ≡ Step t → Seen k t (server_things s) (server_things r.0)

  same_step : {t u : ℕ} → Step t ≡ Step u → t ≡ u
  same_step e = cc

  none_done : (what : What) (o : Option (Server × EntryView)) → ((t : ℕ) → what ≡ Step t → ⊥) → Gives (Then what) o
  none_done what o f = any_gives (Then what) o (λ r t e. absurd (f t e))

  server_done : (what : What) → enabled k.options s what ≡ true → Gives (Then what) (does k.code k.options s what)
  server_done (Step t) able = by (thread_in s.threads t) refl
    where
      at : (y : ThreadState) → thread_in s.threads t ≡ Some y → (o : Option Instr) → slice_get k.code y.pc ≡ o → Gives (Then (Step t)) (option_map (stepped s) (then_some o (λ i. step k.options.servers i (record { work = begin_work s.rest; thread = y }))))
      at y q None e = tt
      at y q (Some i) e =
          let z : Steps k n t s y i = record { coherent = coherent; few = few; here = here; on = able; at = q; code = e } in
          weaker (λ (r : Server × EntryView). SeesOn k (paths k n t s y i z) t (server_things s) (server_things r.0)) (Then (Step t)) (option_map (stepped s) (step k.options.servers i (record { work = begin_work s.rest; thread = y })))
          (steps_so k n t s y i z) (λ r g u f. subst (λ v. Seen k v (server_things s) (server_things r.0)) (same_step f) (paths k n t s y i z, g))

      by : (o : Option ThreadState) → thread_in s.threads t ≡ o → Gives (Then (Step t)) (option_map (stepped s) (then_some (option_map (λ y. record { work = begin_work s.rest; thread = y }) o) (step_in k.code k.options.servers)))
      by None q = tt
      by (Some y) q = at y q (slice_get k.code y.pc) refl
  server_done (Deliver i) able = none_done (Deliver i) (does k.code k.options s (Deliver i)) (λ t e. cc)
  server_done (Evict w) able = none_done (Evict w) (does k.code k.options s (Evict w)) (λ t e. cc)
  server_done (Migrate t target) able = none_done (Migrate t target) (does k.code k.options s (Migrate t target)) (λ u e. cc)

-- IN ITS CLUSTER

module _ (k : Cluster) (e : Event) (coherent : IsCoherent k) (few : FewEvents k) where
  abbrev pub SeenIn : Cluster × EntryView → Type 0
  SeenIn d = (t : ℕ) → e.what ≡ Step t → Seen k t (things_of k) (things_of d.0)

  abbrev Sends : Server → Server × EntryView → Type 0
  Sends s r = GoTo (with_server k.servers e.server r.0) (drop (length s.rest.outbox) r.0.rest.outbox)

  handed : (s : Server) → server_at k.servers e.server ≡ Some s → (r : Server × EntryView) → Sends s r → (t : ℕ) → Seen k t (server_things s) (server_things r.0)
      → Seen k t (things_of k) (servers_things (hand_over_newer e.server (length s.rest.outbox) r.0 k.servers))
  handed s here r go t u = (u.0, λ see unseen. (let b = tot-server (cell_weight see) k.servers e.server s r.0 here in omega (arith, u.1 see unseen, over (cell_weight see), b.0, b.1)))
    where
      over : (f : Thing → ℕ) → tot f (servers_things (hand_over_newer e.server (length s.rest.outbox) r.0 k.servers)) ≡ tot f (servers_things (with_server k.servers e.server r.0))
      over f =
          let older = length s.rest.outbox in
          hand_over_newer_law f e.server older s r.0 k.servers here (go_with k.servers e.server r.0 (take older r.0.rest.outbox) (drop older r.0.rest.outbox) go)

  pub step_sees : Gives SeenIn (apply k e)
  step_sees =
      then_gives SeenIn (server_at k.servers e.server) _ (λ s here.
      over_gives (λ r. Sends s r × Then k coherent few e.server s here e.what r) SeenIn (done_at k e.what s) _
      (both_give (Sends s) (Then k coherent few e.server s here e.what) (λ r. Sends s r × Then k coherent few e.server s here e.what r) (done_at k e.what s) (each_event_sends k e coherent.sound few s here)
      (test_gives (Then k coherent few e.server s here e.what) (enabled k.options s e.what) (does k.code k.options s e.what) (λ able. server_done k coherent few e.server s here e.what able)) (λ r a b. (a, b)))
      (λ r u t q. handed s here r u.0 t (u.1 t q)))
