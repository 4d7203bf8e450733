-- What becomes of objects at a server becomes of them once messages are handed over; and copies are right after a step whose hand tells it.
use Rattle.std.proofs.Common.{◌≡◌, ℕ, true, Option, Some, None, refl, sym, subst}
use Rattle.std.specs.Prelude.{option_map, length, take, drop as drop_first, slice_get}
use Rattle.law_copies_kept.specs.Below.fr_base.declared.instruction.Instr.{Instr}
use Rattle.law_copies_kept.specs.Below.journal.View.{EntryView}
use Rattle.law_copies_kept.specs.Below.thread_state.View.{ThreadState}
use Rattle.law_copies_kept.specs.Below.server_model.declared.event.Event.{Event}
use Rattle.law_copies_kept.specs.Below.server_model.declared.event.What.TheVariants.{Step}
use Rattle.law_copies_kept.specs.Below.server_model.Servers.{Server, Cluster, server_at}
use Rattle.law_copies_kept.specs.Below.server_model.Work.{Hand, thread_in, then_some}
use Rattle.law_copies_kept.specs.Below.server_model.Events.{enabled, begin_work, Stepped, step, step_in, stepped, does}
use Rattle.law_copies_kept.specs.Below.server_model.Clusters.{with_server, hand_over_newer, done_at, apply}
use Rattle.law_copies_kept.specs.Below.coherent_memory.Things.{things_of}
use Rattle.law_copies_kept.specs.Below.coherent_memory.Coherent.{IsSound}
use Rattle.law_copies_kept.specs.Below.law_words_paths.words.Reworded.{HasPlaces}
use Rattle.law_copies_kept.specs.Below.law_counts_sums.Laws.{Gives, GoTo, FewEvents}
use Rattle.law_copies_kept.proofs.Below.law_counts_sums.Results.{over_gives, test_gives, both_give}
use Rattle.law_copies_kept.proofs.Below.law_counts_sums.Applied.{go_with}
use Rattle.law_copies_kept.proofs.Below.law_counts_sums.Sending.{each_event_sends}
use Rattle.law_copies_kept.proofs.Below.law_words_kept.stays.Alike.{Alike}
use Rattle.law_copies_kept.proofs.Below.law_words_kept.stays.Sites.{handed_over}
use Rattle.law_copies_kept.proofs.Below.law_counts_things.things.Mail.{Mailed}
use Rattle.law_copies_kept.proofs.Below.law_counts_things.things.Messages.{Light}
use Rattle.law_copies_kept.proofs.Below.law_words_values.carried.Hands.{ThereBy, put}
use Rattle.law_copies_kept.proofs.copies.Clean.{all_goes}
use Rattle.law_copies_kept.proofs.references.Asked.{asking}
use Rattle.law_copies_kept.proofs.references.Kept.{places_after, step_asks}
use Rattle.law_copies_kept.specs.objects.Fresh.{LeavesRight}
use Rattle.law_copies_kept.proofs.objects.Turned.{none_or_idle, none_idle}
use Rattle.law_copies_kept.proofs.hidden.Settled.{Settled, settled_on, settled_right}

module _ (k : Cluster) (s : Server) (t : ℕ) (sound : IsSound k) (few : FewEvents k) (here : server_at k.servers s.rest.number ≡ Some s) where
  abbrev n : ℕ
  n = s.rest.number

  abbrev IsSettled : Cluster → Cluster → Type 0
  IsSettled a b = Settled k b sound.words.have_words

  abbrev Settles : Cluster × EntryView → Type 0
  Settles d = Settled k d.0 sound.words.have_words

  abbrev SettlesThere : Cluster × EntryView → Type 0
  SettlesThere d = HasPlaces d.0 → Settles d

  handed : (o : Option (Server × EntryView)) → Gives (ThereBy IsSettled k s) o → Gives (λ (r : Server × EntryView). GoTo (with_server k.servers n r.0) (drop_first (length s.rest.outbox) r.0.rest.outbox)) o
      → Gives SettlesThere (option_map (λ r. (record k { servers = hand_over_newer n (length s.rest.outbox) r.0 k.servers }, r.1)) o)
  handed None a g = tt
  handed (Some r) a g = λ places.
      let older = length s.rest.outbox in
      let mid : Cluster = record k { servers = with_server k.servers n r.0 } in
      let end : Cluster = record k { servers = hand_over_newer n older r.0 k.servers } in
      let alike : Alike k.code (things_of mid) (things_of end) = handed_over n older s r.0 k.servers here (go_with k.servers n r.0 (take older r.0.rest.outbox) (drop_first older r.0.rest.outbox) g) in
      settled_on k mid end a.1 places sound.words.have_words a.0 (all_goes.seen mid end a.1 places refl alike)

  pub then_settled : (enabled k.options s (Step t) ≡ true → Gives (ThereBy IsSettled k s) (does k.code k.options s (Step t))) → Gives Settles (apply k (record { server = n; what = Step t }))
  then_settled f =
      both_give SettlesThere (λ (d : Cluster × EntryView). HasPlaces d.0) Settles (apply k (record { server = n; what = Step t }))
      (subst (λ o. Gives SettlesThere (then_some o (λ x. option_map (λ d. (record k { servers = hand_over_newer n (length x.rest.outbox) d.0 k.servers }, d.1)) (done_at k (Step t) x)))) (sym here)
      (handed (done_at k (Step t) s) (test_gives (ThereBy IsSettled k s) (enabled k.options s (Step t)) (does k.code k.options s (Step t)) f) (each_event_sends k (record { server = n; what = Step t }) sound few s here)))
      (places_after k (record { server = n; what = Step t }) sound few) (λ d a c. a c)

-- BY A STEP'S HAND

module _ (k : Cluster) (sound : IsSound k) (few : FewEvents k) (s : Server) (here : server_at k.servers s.rest.number ≡ Some s) (t : ℕ) (y : ThreadState) (at : thread_in s.threads t ≡ Some y) (i : Instr) (code : slice_get k.code y.pc ≡ Some i) where
  abbrev e : Event
  e = record { server = s.rest.number; what = Step t }

  abbrev start : Hand
  start = record { work = begin_work s.rest; thread = y }

  abbrev Put : Hand → Cluster
  Put = put k sound s here t y at

  -- nothing is asked for that may not be
  abbrev pub Sends : Stepped → Type 0
  Sends d = Mailed (Light (asking (none_or_idle k))) s.rest.number s.rest.outbox d.hand.work.rest

  abbrev pub Starts : Type 0
  Starts = Mailed (Light (asking (none_or_idle k))) s.rest.number s.rest.outbox s.rest

  -- what its hand tells, and that each thread, object and owner has its place
  abbrev pub Left : Stepped → Type 0
  Left d = Settled k (Put d.hand) sound.words.have_words × HasPlaces (Put d.hand)

  at_server : Gives Left (step k.options.servers i start) → Gives (ThereBy (λ a b. Settled k b sound.words.have_words) k s) (does k.code k.options s (Step t))
  at_server g =
      subst (λ o. Gives There (option_map (stepped s) (then_some (option_map (λ v. record { work = begin_work s.rest; thread = v }) o) (step_in k.code k.options.servers)))) (sym at)
      (subst (λ o. Gives There (option_map (stepped s) (then_some o (λ j. step k.options.servers j start)))) (sym code) (over_gives Left There (step k.options.servers i start) (stepped s) g (λ d q. q)))
    where
      There : Server × EntryView → Type 0
      There = ThereBy (λ a b. Settled k b sound.words.have_words) k s

  pub settled_by : (enabled k.options s (Step t) ≡ true → Gives Left (step k.options.servers i start)) → (enabled k.options s (Step t) ≡ true → Starts → Gives Sends (step k.options.servers i start)) → LeavesRight k e
  settled_by go asks =
      settled_right k e sound few (then_settled k s t sound few here (λ on. at_server (go on))) (step_asks k s.rest.number t s y i sound few here at code (none_or_idle k) (none_idle k sound) (λ on mail. asks on mail))
