-- An event of a proved kind leaves the sums.
use Rattle.std.proofs.Common.{◌≡◌, ℕ, List, ◌++◌, Option, Some, None, refl, subst}
use Rattle.std.specs.Prelude.{slice_get, option_map}
use Rattle.coherent_memory.specs.Below.fr_base.declared.instruction.Instr.{Instr}
use Rattle.coherent_memory.specs.Below.thread_state.View.{ThreadState}
use Rattle.coherent_memory.specs.Below.server_msgs.declared.message.Message.{Message}
use Rattle.coherent_memory.specs.Below.journal.View.{EntryView}
use Rattle.coherent_memory.specs.Below.server_model.declared.event.Event.{Event}
use Rattle.coherent_memory.specs.Below.server_model.declared.event.What.{What}
use Rattle.coherent_memory.specs.Below.server_model.declared.event.What.TheVariants.{Step, Deliver, Evict, Migrate}
use Rattle.coherent_memory.specs.Below.server_model.Servers.{Server, Cluster}
use Rattle.coherent_memory.specs.Below.server_model.Work.{thread_in, then_some}
use Rattle.coherent_memory.specs.Below.server_model.Clusters.{act_at}
use Rattle.coherent_memory.specs.Below.server_model.Events.{received, does}
use Rattle.coherent_memory.specs.Things.{Thing, server_things, things_of}
use Rattle.law_counts_sums.specs.Kinds.{Kind, message_kind, instr_kind, kind_at, kind_of}
use Rattle.law_counts_sums.specs.Sums.{Sums}
use Rattle.coherent_memory.specs.Coherent.{OneHome, OneOwner, Users}
use Rattle.law_counts_sums.specs.Laws.{Gives, Leaves, OneState, SharesCounted, OneTaskValue, NumbersDiffer, ServersDiffer}
use Rattle.law_counts_sums.proofs.Proved.{IsProvedKind, IsSpending}
use Rattle.law_counts_sums.proofs.Rules.{Kept, Spends}
use Rattle.law_counts_sums.proofs.Results.{weaker}
use Rattle.law_counts_sums.proofs.RulesKeep.{sums_kept, sums_spend}
use Rattle.law_counts_sums.proofs.Events.{Left, acts, delivers, evicts_keep}
use Rattle.law_counts_sums.proofs.Messages.{message_keeps}
use Rattle.law_counts_sums.proofs.Migrations.{migrates_keep}
use Rattle.law_counts_sums.proofs.Steps.{steps_keep}

some_same : {a b : Kind} → Some a ≡ Some b → b ≡ a
some_same e = cc

some_same2 : {a b : Kind} → Some a ≡ Some b → a ≡ b
some_same2 e = cc

proved_as : (a b : Kind) → Some a ≡ Some b → IsProvedKind b → IsProvedKind a
proved_as a b q p = subst IsProvedKind (some_same q) p

module _ {K : List Thing → Type 0} (k : Kept K) (c : Cluster) (others : List Thing) (s : Server) (g : K (server_things s ++ others)) (kind : Kind) (p : IsProvedKind kind) (sp : IsSpending kind → Spends K) where
  stepping : (t : ℕ) → kind_at c (Step t) s ≡ Some kind → (x : ThreadState) (i : Instr) → thread_in s.threads t ≡ Some x → slice_get c.code x.pc ≡ Some i → IsProvedKind (instr_kind i) × (IsSpending (instr_kind i) → Spends K)
  stepping t q x i h r =
      let a : option_map instr_kind (slice_get c.code x.pc) ≡ Some kind = subst (λ y. then_some y (λ z. option_map instr_kind (slice_get c.code z.pc)) ≡ Some kind) h q in
      let b : Some (instr_kind i) ≡ Some kind = subst (λ y. option_map instr_kind y ≡ Some kind) r a in
      (proved_as (instr_kind i) kind b p, λ z. sp (subst IsSpending (some_same2 b) z))

  delivering : (i : ℕ) → kind_at c (Deliver i) s ≡ Some kind → Gives (Left k others) (does c.code c.options s (Deliver i))
  delivering i q = by (slice_get s.rest.inbox i) refl q
    where
      by : (m : Option Message) → slice_get s.rest.inbox i ≡ m → option_map message_kind m ≡ Some kind → Gives (Left k others) (does c.code c.options s (Deliver i))
      by None h r = absurd (cc r)
      by (Some m) h r = delivers k c.code c.options others s i m h (message_keeps k s.rest.number s.events others c.code m (proved_as (message_kind m) kind r p) (λ z. sp (subst IsSpending (some_same2 r) z)) (received i s)) g

  pub doing : (w : What) → kind_at c w s ≡ Some kind → Gives (Left k others) (does c.code c.options s w)
  doing (Step t) q = steps_keep k c.code c.options others s t (stepping t q) g
  doing (Deliver i) q = delivering i q
  doing (Evict w) q = evicts_keep k c.code c.options others s w g
  doing (Migrate t target) q = migrates_keep k c.code c.options others s t target g

-- whatever the rules keep
pub kept_leaves : {K : List Thing → Type 0} → Kept K → (kind : Kind) → IsProvedKind kind → (IsSpending kind → Spends K) → (c : Cluster) (e : Event) → kind_of c e ≡ Some kind → K (things_of c) → Gives (λ (d : Cluster × EntryView). K (things_of d.0)) (act_at c e)
kept_leaves k kind p sp c e q b =
    acts k c e (λ s h others g. doing k c others s g kind p sp e.what (subst (λ x. then_some x (kind_at c e.what) ≡ Some kind) h q)) b

pub proved_leave : (kind : Kind) → IsProvedKind kind → Leaves kind (λ c. Sums (things_of c))
proved_leave kind p c e q b = kept_leaves sums_kept kind p (λ z. sums_spend) c e q b

-- and each part of them
pub part_leaves : (kind : Kind) → IsProvedKind kind → (Part : Cluster → Type 0) → ((c : Cluster) → Sums (things_of c) → Part c) → Leaves kind Part
part_leaves kind p Part has c e q b = weaker (λ (d : Cluster × EntryView). Sums (things_of d.0)) (λ (d : Cluster × EntryView). Part d.0) (act_at c e) (proved_leave kind p c e q b) (λ d g. has d.0 g)

-- PART BY PART

pub home_leaves : (kind : Kind) → IsProvedKind kind → Leaves kind OneHome
home_leaves kind p = part_leaves kind p OneHome (λ c g. record { home_of_each = g.home_of_each })

pub owner_leaves : (kind : Kind) → IsProvedKind kind → Leaves kind OneOwner
owner_leaves kind p = part_leaves kind p OneOwner (λ c g. record { owner_of_each = g.owner_of_each })

pub states_leave : (kind : Kind) → IsProvedKind kind → Leaves kind OneState
states_leave kind p = part_leaves kind p OneState (λ c g. g.one_state)

pub users_leave : (kind : Kind) → IsProvedKind kind → Leaves kind Users
users_leave kind p = part_leaves kind p Users (λ c g. record { users_counted = g.users_counted })

pub shares_leave : (kind : Kind) → IsProvedKind kind → Leaves kind SharesCounted
shares_leave kind p = part_leaves kind p SharesCounted (λ c g. g.shares_counted)

pub tasks_leave : (kind : Kind) → IsProvedKind kind → Leaves kind OneTaskValue
tasks_leave kind p = part_leaves kind p OneTaskValue (λ c g. g.one_task_value)

pub threads_leave : (kind : Kind) → IsProvedKind kind → Leaves kind NumbersDiffer
threads_leave kind p = part_leaves kind p NumbersDiffer (λ c g. g.numbers_differ)

pub servers_leave : (kind : Kind) → IsProvedKind kind → Leaves kind ServersDiffer
servers_leave kind p = part_leaves kind p ServersDiffer (λ c g. g.servers_differ)
