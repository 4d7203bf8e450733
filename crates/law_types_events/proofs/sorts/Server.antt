-- A step that is done leaves the values of its server's threads, and of those in messages, so that they suit their entries, whoever sees what of each thread.
use Rattle.std.proofs.Common.{◌≡◌, ℕ, not, Bool, true, Option, Some, None, refl, sym, ap, subst, ◌∙◌}
use Rattle.std.specs.Prelude.{slice_get, option_map}
use Rattle.law_types_still.specs.Below.fr_base.declared.name.ObjNo.{ObjNo}
use Rattle.law_types_still.specs.Below.fr_base.declared.instruction.Instr.{Instr}
use Rattle.law_types_still.specs.Below.thread_state.View.{ThreadState, is_over}
use Rattle.law_types_still.specs.Below.journal.View.{EntryView}
use Rattle.law_types_still.specs.Below.server_model.declared.event.What.{What}
use Rattle.law_types_still.specs.Below.server_model.declared.event.What.TheVariants.{Step, Deliver, Evict, Migrate}
use Rattle.law_types_still.specs.Below.server_model.Servers.{Server, Cluster, server_at}
use Rattle.law_types_still.specs.Below.server_model.Work.{Hand, Site, thread_in, then_some, beside_threads}
use Rattle.law_types_still.specs.Below.server_model.Moving.{migrate}
use Rattle.law_types_still.specs.Below.server_model.Events.{Stepped, enabled, begin_work, begin_at, left_by, deliver, evict_copy, step, step_in, stepped, does}
use Rattle.law_types_still.specs.Below.coherent_memory.Names.{tot, if_so}
use Rattle.law_types_still.specs.Below.coherent_memory.Things.{server_things}
use Rattle.law_types_still.specs.Below.coherent_memory.Follow.{Standing}
use Rattle.law_types_still.specs.Below.coherent_types.ClusterTypes.{IsCoherent, entry_wrong}
use Rattle.law_types_still.specs.Below.law_counts_sums.Laws.{Gives, FewEvents}
use Rattle.law_types_still.proofs.Below.law_counts_sums.Results.{map_gives, over_gives, both_give}
use Rattle.law_types_still.proofs.Below.law_counts_sums.KnownSound.{on_standing}
use Rattle.law_types_still.proofs.Below.law_counts_things.things.Mail.{Mailed, Replies, Requests}
use Rattle.law_types_still.proofs.Below.law_counts_things.things.Threads.{set_all, found_all, Parcel, Held}
use Rattle.law_types_still.proofs.Below.law_counts_things.things.Handed.{Stood, InParcel, from_server, to_server}
use Rattle.law_types_events.proofs.Below.law_results_reads.Known.{Steps, goes}
use Rattle.law_types_still.specs.Below.fr_code.CodeTypes.{Table}
use Rattle.law_types_events.proofs.sorts.Suited.{unsuited_of}
use Rattle.law_types_events.proofs.sorts.Steps.{IsDone, step_suits, Done}

-- answers are no parcels, nor are requests
replies : (Q : ℕ → ThreadState → Type 0) → Replies (Parcel Q)
replies Q = record { fetched = λ s w c t. tt; moved = λ s w c t. tt; granted = λ s m v t. tt; dupped = λ s m t. tt; joined = λ s u v t. tt; drop = λ w o. tt; release = λ m. tt; let_go = λ u. tt }

pub requests : (Q : ℕ → ThreadState → Type 0) (n : ℕ) (y : ThreadState) (i : Instr) → Requests (Parcel Q) n y i
requests Q n y i = record { replies = replies Q; fetch = λ p e. tt; move = λ p e. tt; lock = λ m. tt; dup = λ m. tt; unlock = λ m v. tt; join = λ u. tt; finished = λ o e v. tt }

-- what of a thread that isn't over doesn't suit its entry, where this is what is seen of each thread
abbrev pub unsuited_by : Table → (ℕ → ObjNo → Bool) → Standing → ℕ
unsuited_by table S x = if_so (not (is_over x.thread.phase)) (entry_wrong (unsuited_of (S x.thread.number) x.thread) (table x.thread.pc))

module _ (k : Cluster) (co : IsCoherent k) (few : FewEvents k) (number : ℕ) (s : Server) (here : server_at k.servers number ≡ Some s) (S : ℕ → ObjNo → Bool) where
  abbrev f : Standing → ℕ
  f = unsuited_by co.types.table S

  abbrev n : ℕ
  n = s.rest.number

  abbrev pub There : Server × EntryView → Type 0
  There r = IsDone r.1.done → tot (on_standing f) (server_things r.0) ≡ 0

  abbrev pub Posted : Stepped → Type 0
  Posted d = Mailed (Parcel (InParcel f)) n s.rest.outbox d.hand.work.rest

  -- an event that does no plain step
  undone : (t : Option ℕ) (o : Option Site) → Gives There (option_map (left_by s.events t None) o)
  undone t o = map_gives There o (left_by s.events t None) (λ x q is. absurd (is refl))

  -- a thread that steps
  abbrev pub stepper : (t : ℕ) (y : ThreadState) (i : Instr) → enabled k.options s (Step t) ≡ true → thread_in s.threads t ≡ Some y → slice_get k.code y.pc ≡ Some i → Steps k number t s y i
  stepper t y i on q e = record { coherent = co; few = few; here = here; on = on; at = q; code = e }

  -- what a thread sends that steps has what is wanted
  abbrev pub SendsOf : ℕ → Type 0
  SendsOf t = (y : ThreadState) (i : Instr) → enabled k.options s (Step t) ≡ true → thread_in s.threads t ≡ Some y → slice_get k.code y.pc ≡ Some i → Mailed (Parcel (InParcel f)) n s.rest.outbox s.rest
      → Gives Posted (step k.options.servers i (record { work = begin_work s.rest; thread = y }))

  -- a step
  stepping : (t : ℕ) → SendsOf t → enabled k.options s (Step t) ≡ true → tot (on_standing f) (server_things s) ≡ 0 → Gives There (does k.code k.options s (Step t))
  stepping t sends able none = by (thread_in s.threads t) refl
    where
      held : Held (Stood f n) (InParcel f) n s.rest.outbox s
      held = from_server f s none

      at : (y : ThreadState) → thread_in s.threads t ≡ Some y → (i : Option Instr) → slice_get k.code y.pc ≡ i
          → Gives There (option_map (stepped s) (then_some i (λ x. step k.options.servers x (record { work = begin_work s.rest; thread = y }))))
      at y q None e = tt
      at y q (Some i) e =
          let h : Hand = record { work = begin_work s.rest; thread = y } in
          let z : Steps k number t s y i = stepper t y i able q e in
          let w : entry_wrong (unsuited_of (S y.number) y) (co.types.table y.pc) ≡ 0 = sym (ap (λ b. if_so (not b) (entry_wrong (unsuited_of (S y.number) y) (co.types.table y.pc))) (goes k number t s y i z).going) ∙ found_all (Stood f n) s.threads t y held.standing q in
          over_gives (λ (d : Stepped). Done (S y.number) k number t s y i z w d × Posted d) There (step k.options.servers i h) (stepped s)
          (both_give (Done (S y.number) k number t s y i z w) Posted _ (step k.options.servers i h) (step_suits (S y.number) k number t s y i z w) (sends y i able q e held.mail) (λ d a b. (a, b)))
          (λ d u is.
          let done = u.0 is in
          let weightless : Stood f n d.hand.thread = subst (λ m. if_so (not (is_over d.hand.thread.phase)) (entry_wrong (unsuited_of (S m) d.hand.thread) (co.types.table d.hand.thread.pc)) ≡ 0) (sym done.1) done.0 in
          to_server f n s.rest.outbox (stepped s d).0 (record { standing = set_all (Stood f n) s.threads d.hand.thread held.standing weightless; mail = u.1 }))

      by : (x : Option ThreadState) → thread_in s.threads t ≡ x → Gives There (option_map (stepped s) (then_some (option_map (λ y. record { work = begin_work s.rest; thread = y }) x) (step_in k.code k.options.servers)))
      by None q = tt
      by (Some y) q = at y q (slice_get k.code y.pc) refl

  -- whatever is done
  pub at_server : (w : What) → ((t : ℕ) → w ≡ Step t → SendsOf t) → enabled k.options s w ≡ true → tot (on_standing f) (server_things s) ≡ 0 → Gives There (does k.code k.options s w)
  at_server (Step t) sends on none = stepping t (sends t refl) on none
  at_server (Deliver i) sends on none = undone None (deliver k.code i s)
  at_server (Evict c) sends on none = undone None (beside_threads (evict_copy c) (begin_at s))
  at_server (Migrate t target) sends on none = undone (Some t) (migrate t target (begin_at s))
