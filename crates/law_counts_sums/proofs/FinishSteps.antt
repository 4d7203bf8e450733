-- The delivery of a `finished`, from a server to its cluster.
use Rattle.std.proofs.Common.{◌≡◌, ℕ, zero, suc, ◌+◌, ◌≤◌, ◌==◌, Bool, true, false, if◌then◌else◌, List, [], ◌∷◌, ◌++◌, Option, Some, None, refl, subst, arith}
use Rattle.std.specs.Prelude.{slice_get, option_map}
use Rattle.coherent_memory.proofs.Below.fr_typing.PlaceLemmas.{eq_cases}
use Rattle.coherent_memory.specs.Below.heap_partition.declared.value.Owned.{Owned}
use Rattle.coherent_memory.specs.Below.join_home.Tasks.{Task, in_pair, task_in, without_task}
use Rattle.coherent_memory.specs.Below.server_msgs.declared.message.Message.{Message}
use Rattle.coherent_memory.specs.Below.server_msgs.declared.message.Message.TheVariants as message
use Rattle.coherent_memory.specs.Below.journal.View.{EntryView}
use Rattle.coherent_memory.specs.Below.server_model.declared.event.Event.{Event}
use Rattle.coherent_memory.specs.Below.server_model.declared.event.What.{What}
use Rattle.coherent_memory.specs.Below.server_model.declared.event.What.TheVariants.{Step, Deliver, Evict, Migrate}
use Rattle.coherent_memory.specs.Below.server_model.Servers.{Server, Cluster, server_at}
use Rattle.coherent_memory.specs.Below.server_model.Work.{thread_in, then_some}
use Rattle.coherent_memory.specs.Below.server_model.Events.{received, does}
use Rattle.coherent_memory.specs.Below.server_model.Clusters.{act_at}
use Rattle.coherent_memory.specs.Names.{tot, other, if_so, some}
use Rattle.coherent_memory.specs.Things.{Thing, sent, noted, task_things, server_things, things_of}
use Rattle.coherent_memory.specs.Sight.{Sight, sight}
use Rattle.coherent_memory.specs.Naming.{rising, numbers_of, servers_wrong, pinned_parcel}
use Rattle.coherent_memory.specs.Walking.{sum_threads}
use Rattle.coherent_memory.specs.OneHeap.{is_branch}
use Rattle.coherent_memory.specs.Rooted.{is_unit, other_result}
use Rattle.coherent_memory.specs.Coherent.{Holds, branches_give_unit, parts_are_typed}
use Rattle.law_counts_sums.specs.Kinds.{Kind, finished, message_kind, instr_kind, kind_at, kind_of}
use Rattle.law_counts_sums.specs.Sums.{Sums}
use Rattle.law_counts_sums.specs.Laws.{Gives, LeavesWithResults}
use Rattle.law_counts_sums.proofs.Trades.{Trade, Same, tot-append}
use Rattle.law_counts_sums.proofs.Results.{weaker}
use Rattle.law_counts_sums.proofs.Rules.{Kept}
use Rattle.law_counts_sums.proofs.RulesKeep.{sums_kept}
use Rattle.law_counts_sums.proofs.Bags.{all_standing, rest_things, of_receiving, of_tasks, server_same}
use Rattle.law_counts_sums.proofs.Events.{Left, delivers, acts_beside}
use Rattle.law_counts_sums.proofs.TaskMessages.{all_tasks, tot-gone, note_rule}
use Rattle.law_counts_sums.proofs.Finished.{finishes}

some_same : {a b : Kind} → Some a ≡ Some b → a ≡ b
some_same e = cc

-- the notes of a server stand by rising number
pub notes_rise : (k : Sight) (m n : ℕ) (ss : List Server) (s : Server) → servers_wrong k m ss ≡ 0 → server_at ss n ≡ Some s → rising (numbers_of (λ t. t.thread) s.rest.tasks) ≡ 0
notes_rise k m n [] s z h = absurd (cc h)
notes_rise k m n (x ∷ ss) s z h =
    eq_cases (λ b. (if b then Some x else server_at ss n) ≡ Some s → rising (numbers_of (λ t. t.thread) s.rest.tasks) ≡ 0) x.rest.number n
    (λ q d. let same : x ≡ s = cc in subst (λ (y : Server). rising (numbers_of (λ t. t.thread) y.rest.tasks) ≡ 0) same (omega (arith, z)))
    (λ ne d. notes_rise k (m + 1) n ss s (omega (arith, z)) d) h

pub task_number : (xs : List Task) (t : ℕ) (x : Task) → task_in xs t ≡ Some x → x.thread ≡ t
task_number [] t x e = absurd (cc e)
task_number (y ∷ xs) t x e =
    eq_cases (λ b. (if b then Some y else task_in xs t) ≡ Some x → x.thread ≡ t) y.thread t
    (λ q d. let same : y ≡ x = cc in subst (λ (z : Task). z.thread ≡ t) same q)
    (λ ne d. task_number xs t x d) e

some_true : (m : ℕ) → 1 ≤ m → some m ≡ true
some_true zero l = absurd (omega (arith, l))
some_true (suc m) l = refl

-- the weight of a note of a branch, whatever its name
some_weight : (g : Thing → ℕ) (b : List Thing) (x : Thing) (u : ℕ) → ((f : Thing → ℕ) → f x ≤ tot f b) → g x ≡ if_so (u == u) 1 → some (tot g b) ≡ true
some_weight g b x u has q =
    let w : if_so (u == u) 1 ≡ 1 = eq_cases (λ b. if_so b 1 ≡ 1) u u (λ e. refl) (λ ne. absurd (ne refl)) in
    some_true (tot g b) (omega (arith, has g, q, w))

unit_where : (b : Bool) (v : Owned) → b ≡ true → if_so b (other (is_unit v)) ≡ 0 → is_unit v ≡ true
unit_where false v e z = absurd (cc e)
unit_where true v e z = by (is_unit v) z
  where
    by : (c : Bool) → other c ≡ 0 → c ≡ true
    by true y = refl
    by false y = absurd (cc y)

module _ (c : Cluster) (others : List Thing) (s : Server) (same : Same (things_of c) (server_things s ++ others)) where
  -- what a server has of its rest, the cluster has
  has_rest : (f : Thing → ℕ) → tot f (rest_things s.rest.number s.events s.rest) ≤ tot f (things_of c)
  has_rest f =
      let standing = all_standing s.rest.number s.threads in
      omega (arith, same f, tot-append f (server_things s) others, server_same s f, tot-append f standing (rest_things s.rest.number s.events s.rest))

  pub unit_result : (i u : ℕ) (v : Owned) → slice_get s.rest.inbox i ≡ Some (message.Finished u v) → Holds c branches_give_unit → (x : Task) (p : ℕ) → task_in s.rest.tasks u ≡ Some x → x.state ≡ in_pair p false → is_unit v ≡ true
  unit_result i u v q units x p found z =
      let n = s.rest.number in
      let e = s.events in
      let f = other_result (sight c) in
      let none : tot f (things_of c) ≡ 0 = units in
      let sent_none : f (sent n (message.Finished u v)) ≡ 0 = omega (arith, none, has_rest f, (of_receiving n e s.rest i (message.Finished u v) q).before f) in
      let ts = without_task s.rest.tasks u in
      let gone : Trade (all_tasks n s.rest.tasks) (task_things n 0 x) [] (all_tasks n ts) = record { rest = all_tasks n ts; before = λ f. tot-gone f n s.rest.tasks u x found; after = λ f. omega arith } in
      let has : (f : Thing → ℕ) → f (noted n x) ≤ tot f (things_of c) = λ f. omega (arith, has_rest f, (of_tasks n e s.rest ts gone).before f, note_rule n x (in_pair p false) z f) in
      let has_note : (f : Thing → ℕ) → f (noted n (record { thread = u; state = in_pair p false })) ≤ tot f (things_of c) = λ f.
      let numbered = subst (λ i. f (noted n (record { thread = i; state = x.state })) ≤ tot f (things_of c)) (task_number s.rest.tasks u x found) (has f) in
      subst (λ z2. f (noted n (record { thread = u; state = z2 })) ≤ tot f (things_of c)) z numbered in
      let branch : is_branch (sight c) u ≡ true = some_weight _ (things_of c) (noted n (record { thread = u; state = in_pair p false })) u has_note refl in
      unit_where (is_branch (sight c) u) v branch sent_none

  module _ {K : List Thing → Type 0} (k : Kept K) (g : K (server_things s ++ others)) (units : Holds c branches_give_unit) (rises : rising (numbers_of (λ t. t.thread) s.rest.tasks) ≡ 0) where
    delivering : (i : ℕ) → kind_at c (Deliver i) s ≡ Some finished → Gives (Left k others) (does c.code c.options s (Deliver i))
    delivering i q = by (slice_get s.rest.inbox i) refl q
      where
        comes_in : (m : Message) → slice_get s.rest.inbox i ≡ Some m → message_kind m ≡ finished → Gives (Left k others) (does c.code c.options s (Deliver i))
        comes_in (message.Finished u v) h e =
            delivers k c.code c.options others s i (message.Finished u v) h
            (finishes k s.rest.number s.events others u v (received i s) (record { rise = rises; unit = unit_result i u v h units })) g
        comes_in (message.Release r) h e = absurd (cc e)
        comes_in _ h e = absurd (cc e)

        by : (m : Option Message) → slice_get s.rest.inbox i ≡ m → option_map message_kind m ≡ Some finished → Gives (Left k others) (does c.code c.options s (Deliver i))
        by None h e = absurd (cc e)
        by (Some m) h e = comes_in m h (some_same e)

    no_step : (t : ℕ) → kind_at c (Step t) s ≡ Some finished → ⊥
    no_step t q = by (thread_in s.threads t) q
      where
        of_instr : (i : Rattle.coherent_memory.specs.Below.fr_base.declared.instruction.Instr.Instr) → instr_kind i ≡ finished → ⊥
        of_instr (Rattle.coherent_memory.specs.Below.fr_base.declared.instruction.Instr.TheVariants.Discard) e = absurd (cc e)
        of_instr _ e = absurd (cc e)

        at : (i : Option Rattle.coherent_memory.specs.Below.fr_base.declared.instruction.Instr.Instr) → option_map instr_kind i ≡ Some finished → ⊥
        at None e = absurd (cc e)
        at (Some i) e = of_instr i (some_same e)

        by : (x : Option Rattle.coherent_memory.specs.Below.thread_state.View.ThreadState) → then_some x (λ y. option_map instr_kind (slice_get c.code y.pc)) ≡ Some finished → ⊥
        by None e = absurd (cc e)
        by (Some y) e = at (slice_get c.code y.pc) e

    doing : (w : What) → kind_at c w s ≡ Some finished → Gives (Left k others) (does c.code c.options s w)
    doing (Step t) q = absurd (no_step t q)
    doing (Deliver i) q = delivering i q
    doing (Evict w) q = absurd (cc q)
    doing (Migrate t target) q = absurd (cc q)

pub finished_keeps : {K : List Thing → Type 0} → Kept K → (c : Cluster) (e : Event) → kind_of c e ≡ Some finished → K (things_of c) → Holds c branches_give_unit → Holds c parts_are_typed → Gives (λ (d : Cluster × EntryView). K (things_of d.0)) (act_at c e)
finished_keeps k c e q g units typed =
    acts_beside k c e (λ s h others same.
    let parts : servers_wrong (sight c) 0 c.servers + sum_threads (sight c) pinned_parcel ≡ 0 = typed in
    let rises = notes_rise (sight c) 0 e.server c.servers s (omega (arith, parts)) h in
    doing c others s same k (k.same _ _ same g) units rises e.what (subst (λ x. then_some x (kind_at c e.what) ≡ Some finished) h q))

pub finished_leaves : LeavesWithResults finished (λ c. Sums (things_of c))
finished_leaves c e q g units typed = finished_keeps sums_kept c e q g units typed

pub finished_part : (Part : Cluster → Type 0) → ((c : Cluster) → Sums (things_of c) → Part c) → LeavesWithResults finished Part
finished_part Part has c e q g units typed =
    weaker (λ (d : Cluster × EntryView). Sums (things_of d.0)) (λ (d : Cluster × EntryView). Part d.0) (act_at c e) (finished_leaves c e q g units typed) (λ d u. has d.0 u)
