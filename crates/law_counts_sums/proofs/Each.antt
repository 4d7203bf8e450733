-- Each event of a sound cluster leaves the sums, of whatever kind it is.
use Rattle.std.proofs.Common.{◌≡◌, ℕ, ◌*◌, ◌≤◌, nat_le, Bool, true, false, List, Option, Some, None, refl, subst, arith}
use Rattle.std.specs.Prelude.{slice_get, option_map}
use Rattle.std.proofs.lemmas.Bool.Decides.{nat_tests}
use Rattle.coherent_memory.specs.Below.fr_base.declared.instruction.Instr.{Instr}
use Rattle.coherent_memory.specs.Below.thread_state.View.{ThreadState}
use Rattle.coherent_memory.specs.Below.server_msgs.declared.message.Message.{Message}
use Rattle.coherent_memory.specs.Below.journal.View.{EntryView}
use Rattle.coherent_memory.specs.Below.server_model.declared.event.Event.{Event}
use Rattle.coherent_memory.specs.Below.server_model.declared.event.What.{What}
use Rattle.coherent_memory.specs.Below.server_model.declared.event.What.TheVariants.{Step, Deliver, Evict, Migrate}
use Rattle.coherent_memory.specs.Below.server_model.Servers.{Server, Cluster}
use Rattle.coherent_memory.specs.Below.server_model.Work.{thread_in, then_some}
use Rattle.coherent_memory.specs.Below.server_model.Events.{begin_work, received, deliver_message, step_in, stepped, left_by, does}
use Rattle.coherent_memory.specs.Below.server_model.Clusters.{act_at}
use Rattle.coherent_memory.specs.Names.{tot, other}
use Rattle.coherent_memory.specs.Things.{Thing, things_of}
use Rattle.coherent_memory.specs.Sight.{sight}
use Rattle.coherent_memory.specs.Naming.{events_of, many_names}
use Rattle.coherent_memory.specs.Coherent.{IsSound, Holds, few_names}
use Rattle.law_counts_sums.specs.Kinds.{Kind, finished, step_box, step_spawn, step_par, message_kind, instr_kind, kind_at, kind_of}
use Rattle.law_counts_sums.specs.Sums.{Sums}
use Rattle.law_counts_sums.specs.Laws.{Gives, FewEvents, NamesLeft, EachEventLeaves}
use Rattle.law_counts_sums.proofs.Results.{weaker}
use Rattle.law_counts_sums.proofs.RulesKeep.{sums_kept}
use Rattle.law_counts_sums.proofs.Bags.{counts_of}
use Rattle.law_counts_sums.proofs.Events.{Left, tot-server, acts_beside}
use Rattle.law_counts_sums.proofs.Sound.{sound_has_sums}
use Rattle.law_counts_sums.proofs.AllKinds.{proved_leave}
use Rattle.law_counts_sums.proofs.BoxSteps.{box_leaves}
use Rattle.law_counts_sums.proofs.StartSteps.{starts_leave}
use Rattle.law_counts_sums.proofs.FinishSteps.{finished_leaves}

-- NAMES ARE LEFT

pub at_most : (m n : ℕ) → other (nat_le m n) ≡ 0 → m ≤ n
at_most m n = by (nat_le m n) refl
  where
    by : (b : Bool) → nat_le m n ≡ b → other b ≡ 0 → m ≤ n
    by true e z = grind (arith, nat_tests, e)
    by false e z = absurd (cc z)

pub names_left : (k : Cluster) → Holds k few_names → FewEvents k → NamesLeft k
names_left k few l n s h =
    let f = many_names (events_of (sight k)) in
    let none : tot f (things_of k) ≡ 0 = few in
    let here : f (counts_of s.rest.number s.events s.rest) ≡ 0 = omega (arith, none, (tot-server f k.servers n s s h).0) in
    let started : s.rest.started ≤ 2 * events_of (sight k) = at_most s.rest.started (2 * events_of (sight k)) (omega (arith, here)) in
    omega (arith, started, l)

-- AN EVENT WITHOUT A KIND HAS NO RESULT

module _ (c : Cluster) (others : List Thing) (s : Server) where
  abbrev Ok : Option (Server × EntryView) → Type 0
  Ok r = Gives (Left sums_kept others) r

  no_step : (t : ℕ) → kind_at c (Step t) s ≡ None → Ok (does c.code c.options s (Step t))
  no_step t = by (thread_in s.threads t)
    where
      at : (y : ThreadState) (i : Option Instr) → option_map instr_kind i ≡ None → Ok (option_map (stepped s) (then_some i (λ x. Rattle.coherent_memory.specs.Below.server_model.Events.step c.options.servers x (record { work = begin_work s.rest; thread = y }))))
      at y None q = tt
      at y (Some i) q = absurd (cc q)

      by : (x : Option ThreadState) → then_some x (λ y. option_map instr_kind (slice_get c.code y.pc)) ≡ None → Ok (option_map (stepped s) (then_some (option_map (λ y. record { work = begin_work s.rest; thread = y }) x) (step_in c.code c.options.servers)))
      by None q = tt
      by (Some y) q = at y (slice_get c.code y.pc) q

  no_message : (i : ℕ) → kind_at c (Deliver i) s ≡ None → Ok (does c.code c.options s (Deliver i))
  no_message i = by (slice_get s.rest.inbox i)
    where
      by : (m : Option Message) → option_map message_kind m ≡ None → Ok (option_map (left_by s.events None None) (then_some m (λ x. deliver_message c.code x (received i s))))
      by None q = tt
      by (Some m) q = absurd (cc q)

  nothing : (w : What) → kind_at c w s ≡ None → Ok (does c.code c.options s w)
  nothing (Step t) q = no_step t q
  nothing (Deliver i) q = no_message i q
  nothing (Evict w) q = absurd (cc q)
  nothing (Migrate t target) q = absurd (cc q)

-- EACH KIND

module _ (k : Cluster) (e : Event) (sound : IsSound k) (few : FewEvents k) where
  of_kind : (kind : Kind) → kind_of k e ≡ Some kind → Gives (λ d. Sums (things_of d.0)) (act_at k e)
  of_kind finished q = finished_leaves k e q (sound_has_sums k sound) sound.rooted.branches_give_unit sound.parts.parts_are_typed
  of_kind step_box q = box_leaves k e q (sound_has_sums k sound) sound.names.objects_made
  of_kind step_spawn q = starts_leave step_spawn tt k e q (sound_has_sums k sound) sound.names.names_counted (names_left k sound.names.few_names few)
  of_kind step_par q = starts_leave step_par tt k e q (sound_has_sums k sound) sound.names.names_counted (names_left k sound.names.few_names few)
  of_kind kind q = proved_leave kind tt k e q (sound_has_sums k sound)

  each : Gives (λ d. Sums (things_of d.0)) (act_at k e)
  each = by (kind_of k e) refl
    where
      by : (o : Option Kind) → kind_of k e ≡ o → Gives (λ d. Sums (things_of d.0)) (act_at k e)
      by None q = acts_beside sums_kept k e (λ s h others same. nothing k others s e.what (subst (λ x. then_some x (kind_at k e.what) ≡ None) h q))
      by (Some kind) q = of_kind kind q

pub each_event_leaves : EachEventLeaves (λ c. Sums (things_of c))
each_event_leaves k e sound few = each k e sound few

pub each_part : (Part : Cluster → Type 0) → ((c : Cluster) → Sums (things_of c) → Part c) → EachEventLeaves Part
each_part Part has k e sound few = weaker (λ (d : Cluster × EntryView). Sums (things_of d.0)) (λ (d : Cluster × EntryView). Part d.0) (act_at k e) (each k e sound few) (λ d u. has d.0 u)
