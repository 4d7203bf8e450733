-- What was issued is issued after a step that makes no object: where words rise, no object comes and no place of a word is lost.
use Rattle.std.proofs.Common.{◌≡◌, inr, ℕ, ◌+◌, ◌≤◌, true, nat_lt, Some, option_map, refl, sym, ap, subst, arith}
use Rattle.std.specs.Prelude.{slice_get}
use Rattle.law_words_issued.specs.Below.fr_base.declared.name.ObjNo.{ObjNo}
use Rattle.law_words_issued.specs.Below.fr_base.declared.instruction.Instr.{Instr}
use Rattle.law_words_issued.specs.Below.global_addr.Words.{colour_of}
use Rattle.law_words_issued.specs.Below.journal.View.{EntryView}
use Rattle.law_words_issued.specs.Below.owner_box.View.{PartitionState}
use Rattle.law_words_issued.specs.Below.thread_state.View.{ThreadState}
use Rattle.law_words_issued.specs.Below.server_model.declared.event.Event.{Event}
use Rattle.law_words_issued.specs.Below.server_model.declared.event.What.TheVariants.{Step}
use Rattle.law_words_issued.specs.Below.server_model.Servers.{Server, Cluster, server_at}
use Rattle.law_words_issued.specs.Below.server_model.Work.{Hand, thread_in, then_some}
use Rattle.law_words_issued.specs.Below.server_model.Events.{Stepped, enabled, begin_work, step, step_in, stepped, does}
use Rattle.law_words_issued.specs.Below.server_model.Clusters.{with_server, done_at, act_at, apply}
use Rattle.law_words_issued.specs.Below.coherent_memory.Names.{tot, one}
use Rattle.law_words_issued.specs.Below.coherent_memory.Things.{Thing, lies, partition_things, servers_things, things_of}
use Rattle.law_words_issued.specs.Below.coherent_memory.Sight.{issued, sight}
use Rattle.law_words_issued.specs.Below.coherent_memory.Coherent.{IsSound}
use Rattle.law_words_issued.proofs.Below.coherent_memory.Words.{itself}
use Rattle.law_words_issued.specs.Below.law_counts_sums.Laws.{Gives, FewEvents}
use Rattle.law_words_issued.proofs.Below.law_counts_sums.Sound.{sound_has_sums}
use Rattle.law_words_issued.proofs.Below.law_counts_sums.Results.{over_gives, test_gives, both_give}
use Rattle.law_words_issued.proofs.Below.law_counts_sums.Events.{others_of, tot-server}
use Rattle.law_words_issued.proofs.Below.law_counts_sums.Applied.{handed_on}
use Rattle.law_words_issued.proofs.Below.law_counts_sums.Sending.{each_event_sends}
use Rattle.law_words_issued.proofs.Below.law_heap_still.events.Addresses.{InPlace, in_place}
use Rattle.law_words_issued.proofs.Below.law_heap_still.events.Leaving.{others, placed_here}
use Rattle.law_words_issued.proofs.stands.Elsewhere.{SeesAddresses, partition_alone}
use Rattle.law_walks_own.specs.Below.law_words_kept.prepared.Requests.{WordsRise}
use Rattle.law_walks_own.proofs.Below.law_words_ends.arrivals.Each.{words_rise}
use Rattle.law_words_issued.specs.stays.Issued.{MakesNoObject, StepsKeepWhatWasIssued}
use Rattle.law_words_issued.proofs.stays.Places.{spotted, spotted_sees, lying, lying_sees, onward_itself}
use Rattle.law_words_issued.proofs.stays.Walk.{Well, step_goes}
use Rattle.law_words_issued.proofs.stays.Rising.{weighs, still_issued, states_differ}

-- AFTER THE STEP

-- a cluster after another one: no object lies there that didn't, and no word below the limit loses its place
pub record GoesOn (k c : Cluster) : Type 0 where
  pub options : c.options ≡ k.options
  pub lay : (o : ObjNo) → tot (lying o) (things_of c) ≤ tot (lying o) (things_of k)
  pub keeps : (w : ℕ) → nat_lt (colour_of w) k.options.colours ≡ true → tot (spotted k.options.colours w) (things_of k) ≤ tot (spotted k.options.colours w) (things_of c)

module _ (k : Cluster) (number t : ℕ) (s : Server) (y : ThreadState) (i : Instr) (sound : IsSound k) (few : FewEvents k) (here : server_at k.servers number ≡ Some s) (at : thread_in s.threads t ≡ Some y) (code : slice_get k.code y.pc ≡ Some i) (no : MakesNoObject i) where
  abbrev n : ℕ
  n = s.rest.number

  abbrev C : ℕ
  C = k.options.colours

  abbrev e : Event
  e = record { server = number; what = Step t }

  abbrev p : PartitionState
  p = s.rest.partition

  placed : InPlace n p
  placed = in_place n s.events s.rest (others k sound number s here) (placed_here k sound number s here)

  abbrev Then : Server × EntryView → Type 0
  Then r = Well C n p r.0.rest

  abbrev h0 : Hand
  h0 = record { work = begin_work s.rest; thread = y }

  stepping : Gives Then (does k.code k.options s (Step t))
  stepping =
      subst (λ o. Gives Then (option_map (stepped s) (then_some (option_map (λ x. record { work = begin_work s.rest; thread = x }) o) (step_in k.code k.options.servers)))) (sym at)
      (subst (λ o. Gives Then (option_map (stepped s) (then_some o (λ x. step k.options.servers x h0)))) (sym code)
      (over_gives (λ (d : Stepped). Well C n p d.hand.work.rest) Then (step k.options.servers i h0) (stepped s) (step_goes C n p k.options.servers i no h0 (refl, onward_itself C n p placed)) (λ d u. u)))

  -- a weight of addresses is that of the partition
  both : (f : Thing → ℕ) → SeesAddresses f → (r : Server) → r.rest.number ≡ n
      → (rest : ℕ) × ((tot f (things_of k) ≡ tot f (partition_things n p) + rest) × (tot f (things_of (record k { servers = with_server k.servers number r })) ≡ tot f (partition_things n r.rest.partition) + rest))
  both f sees r same =
      let x = tot-server f k.servers number s r here in
      let there : tot f (partition_things r.rest.number r.rest.partition) ≡ tot f (partition_things n r.rest.partition) = ap (λ m. tot f (partition_things m r.rest.partition)) same in
      (tot f (servers_things (others_of k.servers number)), (omega (arith, x.0, partition_alone f sees s), omega (arith, x.1, there, partition_alone f sees r)))

  acted : Gives (λ (x : Cluster × EntryView). GoesOn k x.0) (act_at k e)
  acted =
      subst (λ o. Gives (λ (x : Cluster × EntryView). GoesOn k x.0) (then_some o (λ s2. option_map (λ x. (record k { servers = with_server k.servers number x.0 }, x.1)) (done_at k (Step t) s2)))) (sym here)
      (over_gives Then (λ (x : Cluster × EntryView). GoesOn k x.0) (done_at k (Step t) s) _ (test_gives Then (enabled k.options s (Step t)) (does k.code k.options s (Step t)) (λ on. stepping))
      (λ r u. record {
        options = refl;
        lay = λ o. (let x = both (lying o) (lying_sees o) r.0 u.0 in let on = u.1 in omega (arith, (x.1).0, (x.1).1, on.lay o));
        keeps = λ w low. (let x = both (spotted C w) (spotted_sees C w) r.0 u.0 in let on = u.1 in omega (arith, (x.1).0, (x.1).1, on.keeps w low));
      }))

  pub step_goes_on : Gives (λ (x : Cluster × EntryView). GoesOn k x.0) (apply k e)
  step_goes_on =
      handed_on (GoesOn k) (λ c a b same g. record {
        options = g.options;
        lay = λ o. (let before = g.lay o in omega (arith, same (lying o), before));
        keeps = λ w low. (let before = g.keeps w low in omega (arith, same (spotted C w), before));
      }) k e (each_event_sends k e sound few) acted

-- THE LAW

pub steps_keep_issued : StepsKeepWhatWasIssued
steps_keep_issued k number t s y i coherent few here at code plain =
    let e : Event = record { server = number; what = Step t } in
    both_give (λ (d : Cluster × EntryView). WordsRise k d.0) (λ (d : Cluster × EntryView). GoesOn k d.0) (λ (d : Cluster × EntryView). (w : ℕ) → nat_lt (colour_of w) k.options.colours ≡ true → issued (sight k) w ≡ true → issued (sight d.0) w ≡ true) (apply k e)
    (words_rise k e coherent few) (step_goes_on k number t s y i coherent.sound few here at code plain)
    (λ d rise goes.
    still_issued k d.0 rise (states_differ k (sound_has_sums k coherent.sound)) goes.options
    (λ r a c h. inr (omega (arith, goes.lay c.object, weighs (lying c.object) (lies r a c) (things_of d.0) h, ap one (itself c.object c.object refl)))) goes.keeps)
