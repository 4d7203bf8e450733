-- An entry of a step names its thread and has names for the threads that its acts start; other entries start none.
use Rattle.std.proofs.Common.{◌≡◌, ◌≤◌, ℕ, true, List, [], ◌∷◌, length, Option, Some, None, refl, arith}
use Rattle.std.specs.Prelude.{⊤, ◌&&◌}
use Rattle.law_runs_right.specs.Below.law_counts_things.Below.fr_base.Lists.{tot, one}
use Rattle.law_runs_right.specs.Below.law_counts_things.Below.fr_base.declared.step.Fresh.{Fresh}
use Rattle.law_runs_right.specs.Below.law_counts_things.Below.fr_base.declared.step.Fresh.TheVariants as fresh
use Rattle.law_runs_right.specs.Below.law_counts_things.Below.fr_base.declared.settings.Options.{Options}
use Rattle.law_runs_right.specs.Below.law_counts_things.Below.journal.View.{EntryView}
use Rattle.law_runs_right.specs.Below.law_counts_things.Below.journal.Journals.{IsNamed, order}
use Rattle.law_runs_right.specs.Below.law_counts_things.Below.journal.declared.act.Act.{Act}
use Rattle.law_runs_right.specs.Below.law_counts_things.Below.journal.declared.act.Act.TheVariants as act
use Rattle.law_runs_right.specs.Below.law_counts_things.Below.coloured_heap.Lists.{holds}
use Rattle.law_runs_right.specs.Below.law_counts_things.Below.coloured_heap.Heap.{Coloured}
use Rattle.law_runs_right.specs.Below.law_counts_things.Below.coloured_heap.Legal.{entry_after}
use Rattle.law_runs_right.specs.Below.law_counts_things.Below.coloured_heap.Driven.{are_due, departing, may_depart, resting, driven_from}
use Rattle.law_runs_right.specs.Below.law_counts_things.Below.server_model.declared.event.Event.{Event}
use Rattle.law_runs_right.specs.Below.law_counts_things.Below.server_model.declared.event.What.{What}
use Rattle.law_runs_right.specs.Below.law_counts_things.Below.server_model.declared.event.What.TheVariants.{Step, Deliver, Evict, Migrate}
use Rattle.law_runs_right.specs.Below.law_counts_things.Below.server_model.Servers.{Server, Cluster, server_at}
use Rattle.law_runs_right.specs.Below.law_counts_things.Below.server_model.Events.{stepped, left_by, does}
use Rattle.law_runs_right.specs.Below.law_counts_things.Below.server_model.Clusters.{apply}
use Rattle.law_runs_right.specs.Below.law_counts_things.Below.coherent_memory.Coherent.{IsSound}
use Rattle.law_runs_right.specs.Below.law_counts_things.Below.law_counts_sums.Laws.{Gives}
use Rattle.law_runs_right.proofs.Below.law_counts_things.Below.law_counts_sums.Results.{map_gives, both_give, weaker}
use Rattle.law_runs_right.proofs.Below.law_counts_limits.sendings.Events.{events_send_their_acts}
use Rattle.law_runs_right.specs.Below.law_length_runs.worth.Driving.{plain_steps}
use Rattle.law_runs_right.proofs.Below.law_length_runs.worth.Driven.{right_true}
use Rattle.law_runs_right.specs.Below.law_length_runs.asked.Resting.{is_start, starts_in}
use Rattle.law_length_programs.specs.orders.Orders.{started}
use Rattle.law_length_programs.specs.orders.Orders as orders
use Rattle.law_runs_right.proofs.Below.law_length_runs.driven.Starting.{acts_of, named, stepping, few_acts}
use Rattle.law_runs_right.proofs.Below.law_length_runs.driven.Shapes.{legal_unmoved, acts_alone}
use Rattle.law_runs_right.proofs.Below.law_length_runs.driven.Driving.{entry_by}

-- EVENTS

-- of an entry that is legal from some state: where it has a plain step, it names a thread, and its acts start no more threads than it has names for
abbrev pub IsFine : Options → EntryView → Type 0
IsFine o v = IsNamed v.done v.thread × ((c c2 : Coloured) → entry_after o c v ≡ Some c2 → tot (acts_of true) v.acts ≤ named v.done)

step_named : (d : Option Fresh) (t : ℕ) → IsNamed d (Some t)
step_named None t = tt
step_named (Some names) t = tt

module _ (k : Cluster) (number : ℕ) (s : Server) (sound : IsSound k) (here : server_at k.servers number ≡ Some s) where
  abbrev Fine : Server × EntryView → Type 0
  Fine r = IsFine k.options r.1

  step_fine : (t : ℕ) → Gives Fine (does k.code k.options s (Step t))
  step_fine t =
      both_give (λ (r : Server × EntryView). IsNamed r.1.done r.1.thread) (λ (r : Server × EntryView). tot (acts_of true) r.1.acts ≤ named r.1.done) Fine (does k.code k.options s (Step t))
      (map_gives (λ (r : Server × EntryView). IsNamed r.1.done r.1.thread) _ (stepped s) (λ d q. step_named d.names d.hand.thread.number))
      (both_give _ _ (λ (r : Server × EntryView). tot (acts_of true) r.1.acts ≤ named r.1.done) (does k.code k.options s (Step t)) (events_send_their_acts k number s (Step t) sound here) (stepping k.code k.options s true t) (λ r a l. few_acts true t s r a l))
      (λ r a b. (a, λ c c2 q. b))

  event_fine : (w : What) → Gives Fine (does k.code k.options s w)
  event_fine (Step t) = step_fine t
  event_fine (Deliver i) = map_gives Fine _ (left_by s.events None None) (λ x q. (tt, λ c c2 e. (let z = legal_unmoved k.options (left_by s.events None None x).1 true c c2 refl e in omega (arith, z))))
  event_fine (Evict w) = map_gives Fine _ (left_by s.events None None) (λ x q. (tt, λ c c2 e. (let z = legal_unmoved k.options (left_by s.events None None x).1 true c c2 refl e in omega (arith, z))))
  event_fine (Migrate t target) = weaker (λ (r : Server × EntryView). (r.1.done ≡ None) × (tot (acts_of true) r.1.acts ≡ 0)) Fine (does k.code k.options s (Migrate t target)) (acts_alone k.code k.options s t target) (λ r a. (none_named r.1.done r.1.thread a.0, λ c c2 e. (let z = a.1 in omega (arith, z))))
    where
      none_named : (d : Option Fresh) (t : Option ℕ) → d ≡ None → IsNamed d t
      none_named None t e = tt
      none_named (Some names) t e = absurd (cc e)

pub entry_fine : (k : Cluster) (e : Event) → IsSound k → Gives (λ (d : Cluster × EntryView). IsFine k.options d.1) (apply k e)
entry_fine k e sound = entry_by k e (IsFine k.options) (λ s here. event_fine k e.server s sound here e.what)

-- JOURNALS

abbrev pub AreFine : Options → List EntryView → Type 0
AreFine o [] = ⊤
AreFine o (v ∷ vs) = IsFine o v × AreFine o vs

same_start : (a : Act) → one (is_start a) ≡ acts_of true a
same_start (act.Start t there) = refl
same_start a = refl

all_starts : (acts : List Act) → tot (λ a. one (is_start a)) acts ≡ tot (acts_of true) acts
all_starts [] = refl
all_starts (a ∷ acts) = omega (arith, same_start a, all_starts acts)

same_names : (f : Fresh) → named (Some f) ≡ orders.named f
same_names fresh.None = refl
same_names (fresh.Thread t) = refl
same_names (fresh.Threads t u) = refl
same_names (fresh.Mutex m) = refl

-- what a journal's order tells
pub record Told (vs : List EntryView) : Type 0 where
  pub steps : plain_steps vs ≡ length (order vs)
  pub threads : starts_in vs ≤ started (order vs)

one_told : (v : EntryView) (vs : List EntryView) → IsNamed v.done v.thread → tot (acts_of true) v.acts ≤ named v.done → Told vs → Told (v ∷ vs)
one_told v vs n l t = by v.thread v.done n l
  where
    by : (x : Option ℕ) (d : Option Fresh) → IsNamed d x → tot (acts_of true) v.acts ≤ named d → Told (record v { thread = x; done = d } ∷ vs)
    by None None n l = record { steps = omega (arith, t.steps); threads = omega (arith, t.threads, l, all_starts v.acts) }
    by (Some u) None n l = record { steps = omega (arith, t.steps); threads = omega (arith, t.threads, l, all_starts v.acts) }
    by None (Some names) n l = absurd n
    by (Some u) (Some names) n l = record { steps = omega (arith, t.steps); threads = omega (arith, t.threads, l, all_starts v.acts, same_names names) }

pub journal_told : (o : Options) (c : Coloured) (moved : List ℕ) (vs : List EntryView) → AreFine o vs → driven_from o c moved vs ≡ true → Told vs
journal_told o c moved [] a d = record { steps = refl; threads = omega arith }
journal_told o c moved (v ∷ vs) a d = by (entry_after o c v) refl (right_true (are_due o v v.acts c && may_depart moved (departing v.acts)) (holds (λ after. driven_from o after (resting v moved) vs) (entry_after o c v)) d) (λ c2 q. journal_told o c2 (resting v moved) vs a.1 q)
  where
    by : (x : Option Coloured) → entry_after o c v ≡ x → holds (λ after. driven_from o after (resting v moved) vs) x ≡ true → ((c2 : Coloured) → driven_from o c2 (resting v moved) vs ≡ true → Told vs) → Told (v ∷ vs)
    by None q h go = absurd (cc h)
    by (Some c2) q h go = one_told v vs a.0.0 (a.0.1 c c2 q) (go c2 h)
