-- A step that is done leaves the holders of its server's threads right, and of those in messages, by the exact types afterwards.
use Rattle.std.proofs.Common.{◌≡◌, ◌≢◌, inl, inr, ℕ, zero, suc, ◌+◌, not, true, false, length, List, [], ◌∷◌, Option, Some, None, refl, sym, ap, subst, ◌∙◌, arith}
use Rattle.std.specs.Prelude.{slice_get, option_map}
use Rattle.std.specs.List.{AllByRecursion}
use Rattle.law_types_events.specs.Below.fr_base.declared.place.Lval.{Lval}
use Rattle.law_types_events.specs.Below.fr_base.declared.instruction.Instr.{Instr}
use Rattle.law_types_events.proofs.Below.fr_typing.PlaceLemmas.{eq_cases}
use Rattle.law_types_events.specs.Below.fr_store.Keys.{Key, slot_k, temp_k}
use Rattle.law_types_events.specs.Below.fr_store.Store.{Place}
use Rattle.law_types_events.specs.Below.fr_store.Typed.{refers, KeyTypes}
use Rattle.law_types_events.specs.Below.law_plain_values.acts.Keeps.{OnReferences, rests, binds, takes, lends, puts, CameFrom, KeepsReferences}
use Rattle.law_types_events.specs.Below.thread_state.View.{ThreadState, new_thread}
use Rattle.law_types_events.specs.Below.thread_state.declared.value.Value.{Value}
use Rattle.law_types_events.specs.Below.thread_state.declared.value.Value.TheVariants as value
use Rattle.law_types_events.specs.Below.journal.View.{EntryView}
use Rattle.law_types_events.specs.Below.server_model.declared.event.Event.{Event}
use Rattle.law_types_events.specs.Below.server_model.declared.event.What.{What}
use Rattle.law_types_events.specs.Below.server_model.declared.event.What.TheVariants.{Step, Deliver, Evict, Migrate}
use Rattle.law_types_events.specs.Below.server_model.Servers.{Server, Cluster, server_at}
use Rattle.law_types_events.specs.Below.server_model.Start.{next_thread}
use Rattle.law_types_events.specs.Below.server_model.Work.{Hand, Site, thread_in, then_some, beside_threads}
use Rattle.law_types_events.specs.Below.server_model.Moving.{migrate}
use Rattle.law_types_events.specs.Below.server_model.Events.{Stepped, enabled, begin_work, begin_at, left_by, deliver, evict_copy, step, step_in, stepped, does}
use Rattle.law_types_events.specs.Below.coherent_memory.Names.{tot, if_so}
use Rattle.law_types_events.specs.Below.coherent_memory.Things.{things_of}
use Rattle.law_types_events.specs.Below.coherent_memory.Follow.{Standing, threads_in}
use Rattle.law_types_events.specs.Below.coherent_memory.Sight.{sight}
use Rattle.law_types_events.specs.Below.coherent_types.ClusterTypes.{IsCoherent, astray_of}
use Rattle.law_types_events.specs.Below.law_counts_sums.Laws.{Gives, FewEvents}
use Rattle.law_types_events.proofs.Below.law_counts_sums.Results.{map_gives, over_gives, both_give}
use Rattle.law_types_events.proofs.Below.law_counts_sums.KnownSound.{on_standing}
use Rattle.law_types_events.proofs.Below.law_counts_sums.Bags.{thread_number}
use Rattle.law_types_events.proofs.Below.law_counts_things.things.Goes.{Goes, thread_goes}
use Rattle.law_types_events.proofs.Below.law_counts_things.things.Mail.{AreCaptured, BeginsBy, Mailed, step_tells}
use Rattle.law_types_events.proofs.Below.law_counts_things.things.Threads.{Parcel, Held}
use Rattle.law_types_events.proofs.Below.law_counts_things.things.Handed.{Stood, InParcel, from_server, to_server}
use Rattle.law_types_events.proofs.Below.law_results_reads.Known.{Steps, standing, goes}
use Rattle.law_types_events.proofs.Below.law_types_still.heap.Following.{HasHeap}
use Rattle.law_types_events.proofs.Below.law_types_still.heap.Leads.{each_none}
use Rattle.law_types_events.specs.heap.States.{LeavesReferences}
use Rattle.law_types_events.proofs.sorts.Starts.{Light, all_light}
use Rattle.law_types_events.proofs.sorts.Steps.{IsDone, goes_number}
use Rattle.law_types_events.proofs.sorts.Server.{requests}
use Rattle.law_types_events.proofs.holders.Holding.{holder_of, held}
use Rattle.law_types_events.proofs.holders.Came.{on_of}
use Rattle.law_types_events.proofs.holders.Traced.{all_lent, AreRight, right_lent, leads_right, slots_right, temps_right}
use Rattle.law_types_events.proofs.holders.Acts.{kept_by}
use Rattle.law_types_events.proofs.holders.Rows.{traces}
use Rattle.law_types_events.proofs.holders.Beside.{set_beside, beside, nothing_else, without, There}
use Rattle.law_types_events.proofs.holders.Steps.{StepCame, step_came}

-- holders of a thread that are off by these exact types
abbrev pub off_by : KeyTypes → Standing → ℕ
off_by exact x = all_lent exact x.thread.number (slot_k x.thread.number) 0 x.thread.slots + all_lent exact x.thread.number (temp_k x.thread.number) 0 x.thread.temps

-- OTHER THREADS

-- a mutable reference at a key of another thread had its exact type there
came_other : (on : OnReferences) (t n : ℕ) (E : KeyTypes) (k : Key) (u : Place) → ((i : ℕ) → k ≡ slot_k t i → ⊥) → ((i : ℕ) → k ≡ temp_k t i → ⊥) → CameFrom on t n E k u → E k ≡ refers true u
came_other rests t n E k u slot temp e = e
came_other binds t n E k u slot temp (inl e) = e
came_other binds t n E k u slot temp (inr e) = absurd (slot n e.0)
came_other (takes p) t n E k u slot temp (inl e) = e
came_other (takes p) t n E k u slot temp (inr e) = absurd (temp e.0 e.1)
came_other (lends p) t n E k u slot temp (inl e) = e
came_other (lends p) t n E k u slot temp (inr e) = absurd (temp e.0 e.1)
came_other (puts p) t n E k u slot temp (inl e) = e.0
came_other (puts p) t n E k u slot temp (inr e) = absurd (slot p.slot e.0)

thread_of_slot : {t u i j : ℕ} → slot_k t i ≡ slot_k u j → t ≡ u
thread_of_slot e = cc

thread_of_temp : {t u i j : ℕ} → temp_k t i ≡ temp_k u j → t ≡ u
thread_of_temp e = cc

no_slot : {t u i j : ℕ} → temp_k t i ≡ slot_k u j → ⊥
no_slot e = cc

no_temp : {t u i j : ℕ} → slot_k t i ≡ temp_k u j → ⊥
no_temp e = cc

module _ (on : OnReferences) (t n : ℕ) (E after : KeyTypes) (kept : KeepsReferences on t n E after) (u : ℕ) (other : u ≢ t) where
  slots_other : (vs : List Value) → AreRight E u (slot_k u) vs → AreRight after u (slot_k u) vs
  slots_other vs right j w p e f = right j w p e (came_other on t n E (slot_k u j) p (λ i q. other (thread_of_slot q)) (λ i q. no_temp q) (kept (slot_k u j) p f))

  temps_other : (vs : List Value) → AreRight E u (temp_k u) vs → AreRight after u (temp_k u) vs
  temps_other vs right j w p e f = right j w p e (came_other on t n E (temp_k u j) p (λ i q. no_slot q) (λ i q. other (thread_of_temp q)) (kept (temp_k u j) p f))

  -- so of its holders none is off
  pub other_off : (g : _) (x : ThreadState) → x.number ≡ u → astray_of E g x ≡ 0 → off_by after (record { server = 0; packed = false; thread = x }) ≡ 0
  other_off g x same z =
      let slots = right_lent after x.number (slot_k x.number) x.slots (subst (λ m. AreRight after m (slot_k m) x.slots) (sym same) (slots_other x.slots (subst (λ m. AreRight E m (slot_k m) x.slots) same (leads_right E x.number (slot_k x.number) g x.slots (omega (arith, z)))))) in
      let temps = right_lent after x.number (temp_k x.number) x.temps (subst (λ m. AreRight after m (temp_k m) x.temps) (sym same) (temps_other x.temps (subst (λ m. AreRight E m (temp_k m) x.temps) same (leads_right E x.number (temp_k x.number) g x.temps (omega (arith, z)))))) in
      omega (arith, slots, temps)

-- THREADS THAT START

light_none : (v : Value) (w : Lval) → Light v → holder_of v ≡ Some w → ⊥
light_none (value.Mut r) w l e = cc
light_none value.Gone w l e = cc
light_none (value.Own x) w l e = cc
light_none (value.SharedSlot i) w l e = cc
light_none (value.MutSlot i) w l e = cc
light_none (value.Shared r) w l e = cc
light_none (value.Held m) w l e = cc

all_none : (vs : List Value) → AllByRecursion Light vs → (j : ℕ) (w : Lval) → held vs j ≡ Some w → ⊥
all_none [] a j w e = absurd cc
all_none (v ∷ vs) a zero w e = light_none v w a.0 e
all_none (v ∷ vs) a (suc j) w e = all_none vs a.1 j w e

new_off : (after : KeyTypes) (u pc : ℕ) (vs : List Value) → AreCaptured vs → off_by after (record { server = 0; packed = true; thread = new_thread u pc vs }) ≡ 0
new_off after u pc vs c =
    let slots = right_lent after u (slot_k u) vs (λ j w p e f. absurd (all_none vs (all_light vs c) j w e)) in
    omega (arith, slots)

-- UNDER A PREMISE

pub under : {X : Type 0} (Q : Type 0) (P : X → Type 0) (x : Option X) → (Q → Gives P x) → Gives (λ a. Q → P a) x
under Q P None h = tt
under Q P (Some a) h = h

-- AN EVENT AT ITS SERVER

module _ (k : Cluster) (e : Event) (co : IsCoherent k) (few : FewEvents k) (c : HasHeap k) (table : c.table ≡ co.types.table) (typing : c.typing.exact ≡ co.types.typing.exact) (after : KeyTypes) where
  abbrev E : KeyTypes
  E = c.typing.exact

  abbrev f : Standing → ℕ
  f = off_by after

  -- a plain step is done that leaves mutable references these exact types
  pub record Sort (r : EntryView) : Type 0 where
    pub is_done : IsDone r.done
    pub refs : LeavesReferences k r E after

  abbrev Leaves : Server × EntryView → Type 0
  Leaves r = There (on_standing f) Sort k e r

  undone : (s : Server) (t : Option ℕ) (o : Option Site) → Gives Leaves (option_map (left_by s.events t None) o)
  undone s t o = map_gives Leaves o (left_by s.events t None) (λ x q sort. absurd (sort.is_done refl))

  module _ (s : Server) (here : server_at k.servers e.server ≡ Some s) (t : ℕ) (on : enabled k.options s (Step t) ≡ true) (y : ThreadState) (q : thread_in s.threads t ≡ Some y) (i : Instr) (code : slice_get k.code y.pc ≡ Some i) where
    abbrev n : ℕ
    n = s.rest.number

    abbrev z : Steps k e.server t s y i
    z = record { coherent = co; few = few; here = here; on = on; at = q; code = code }

    abbrev x : Standing
    x = standing k e.server t s y i z

    abbrev h0 : Hand
    h0 = record { work = begin_work s.rest; thread = y }

    abbrev Mails : Type 0
    Mails = Mailed (Parcel (InParcel f)) n s.rest.outbox s.rest

    abbrev Posted : Stepped → Type 0
    Posted d = Mailed (Parcel (InParcel f)) n s.rest.outbox d.hand.work.rest

    -- what it sends
    sends : Mails → Gives Posted (step k.options.servers i h0)
    sends mail =
        let begins : BeginsBy (Parcel (InParcel f)) k.options.servers s.rest i = λ pc vs r at cs d g. new_off after (next_thread r) pc vs cs in
        step_tells (Parcel (InParcel f)) k.options.servers i s.rest y (requests (InParcel f) n y i) begins h0 (record { mail = mail; begun = refl; named = refl; at_home = refl })

    -- the others
    others_off : KeepsReferences (on_of i) y.number (length y.slots) E after → tot (beside f y.number) (threads_in (things_of k)) ≡ 0
    others_off kept =
        each_none (λ w. astray_of co.types.typing.exact (sight k).ground w.thread) (beside f y.number) (threads_in (things_of k))
        (λ w a none.
        eq_cases (λ b. if_so (not b) (f w) ≡ 0) w.thread.number y.number (λ same. refl)
        (λ ne. other_off (on_of i) y.number (length y.slots) E after kept w.thread.number ne (sight k).ground w.thread refl (subst (λ g. astray_of g (sight k).ground w.thread ≡ 0) (sym typing) none))) co.types.lead

    -- the thread itself
    mine_off : KeepsReferences (on_of i) y.number (length y.slots) E after → (d : Stepped) → IsDone d.names → StepCame k e.server t s y i z d → d.hand.thread.number ≡ y.number → Stood f n d.hand.thread
    mine_off kept d done came same =
        let tr = traces k co c table typing x (goes k e.server t s y i z) i code in
        let u = d.hand.thread in
        let slots = right_lent after y.number (slot_k y.number) u.slots (slots_right (on_of i) y.number E after y.slots y.temps u.slots u.temps tr kept (came done)) in
        let temps = right_lent after y.number (temp_k y.number) u.temps (temps_right (on_of i) y.number E after y.slots y.temps u.slots u.temps tr kept (came done)) in
        subst (λ m. all_lent after m (slot_k m) 0 u.slots + all_lent after m (temp_k m) 0 u.temps ≡ 0) (sym same) (omega (arith, slots, temps))

    leaves : (d : Stepped) → StepCame k e.server t s y i z d → Goes k.code y d.hand.thread → (Mails → Posted d) → Leaves (stepped s d)
    leaves d came going mails sort =
        let same = goes_number going in
        let number : y.number ≡ t = thread_number s.threads t y q in
        let kept = kept_by k c x (goes k e.server t s y i z) i code (stepped s d).1 E after sort.refs (ap Some same) in
        let rest = nothing_else f t k co.sound e.server s here y q (subst (λ m. tot (beside f m) (threads_in (things_of k)) ≡ 0) number (others_off kept)) in
        let held : Held (Stood f n) (InParcel f) n s.rest.outbox (without s t) = from_server f (without s t) rest.0 in
        let threads = set_beside (Stood f n) s.threads t y d.hand.thread q (same ∙ number) held.standing (mine_off kept d sort.is_done came same) in
        (to_server f n s.rest.outbox (stepped s d).0 (record { standing = threads; mail = mails held.mail }), rest.1)

    steps : Gives Leaves (option_map (stepped s) (step k.options.servers i h0))
    steps =
        over_gives (λ (d : Stepped). (StepCame k e.server t s y i z d × Goes k.code y d.hand.thread) × (Mails → Posted d)) Leaves (step k.options.servers i h0) (stepped s)
        (both_give (λ (d : Stepped). StepCame k e.server t s y i z d × Goes k.code y d.hand.thread) (λ (d : Stepped). Mails → Posted d) (λ (d : Stepped). (StepCame k e.server t s y i z d × Goes k.code y d.hand.thread) × (Mails → Posted d)) (step k.options.servers i h0)
        (both_give (StepCame k e.server t s y i z) (λ (d : Stepped). Goes k.code y d.hand.thread) (λ (d : Stepped). StepCame k e.server t s y i z d × Goes k.code y d.hand.thread) (step k.options.servers i h0) (step_came k e.server t s y i z) (thread_goes k.code k.options.servers i y code s.rest h0 refl) (λ d a b. (a, b)))
        (under Mails Posted (step k.options.servers i h0) sends) (λ d a b. (a, b)))
        (λ d u. leaves d u.0.0 u.0.1 u.1)

  stepping : (s : Server) → server_at k.servers e.server ≡ Some s → (t : ℕ) → enabled k.options s (Step t) ≡ true → Gives Leaves (does k.code k.options s (Step t))
  stepping s here t on = by (thread_in s.threads t) refl
    where
      at : (y : ThreadState) → thread_in s.threads t ≡ Some y → (i : Option Instr) → slice_get k.code y.pc ≡ i
          → Gives Leaves (option_map (stepped s) (then_some i (λ j. step k.options.servers j (record { work = begin_work s.rest; thread = y }))))
      at y q None code = tt
      at y q (Some i) code = steps s here t on y q i code

      by : (o : Option ThreadState) → thread_in s.threads t ≡ o → Gives Leaves (option_map (stepped s) (then_some (option_map (λ y. record { work = begin_work s.rest; thread = y }) o) (step_in k.code k.options.servers)))
      by None q = tt
      by (Some y) q = at y q (slice_get k.code y.pc) refl

  -- whatever is done
  pub at_server : (s : Server) → server_at k.servers e.server ≡ Some s → (w : What) → enabled k.options s w ≡ true → Gives Leaves (does k.code k.options s w)
  at_server s here (Step t) on = stepping s here t on
  at_server s here (Deliver i) on = undone s None (deliver k.code i s)
  at_server s here (Evict a) on = undone s None (beside_threads (evict_copy a) (begin_at s))
  at_server s here (Migrate t target) on = undone s (Some t) (migrate t target (begin_at s))
