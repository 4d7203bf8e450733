-- What becomes of objects at a server becomes of them once messages are handed over.
use Rattle.std.proofs.Common.{◌≡◌, ℕ, true, Option, Some, None, refl, sym, subst}
use Rattle.std.specs.Prelude.{option_map, length, take, drop as drop_first}
use Rattle.law_copies_kept.specs.Below.journal.View.{EntryView}
use Rattle.law_copies_kept.specs.Below.server_model.declared.event.What.TheVariants.{Step}
use Rattle.law_copies_kept.specs.Below.server_model.Servers.{Server, Cluster, server_at}
use Rattle.law_copies_kept.specs.Below.server_model.Work.{then_some}
use Rattle.law_copies_kept.specs.Below.server_model.Events.{enabled, does}
use Rattle.law_copies_kept.specs.Below.server_model.Clusters.{with_server, hand_over_newer, done_at, apply}
use Rattle.law_copies_kept.specs.Below.coherent_memory.Things.{things_of}
use Rattle.law_copies_kept.specs.Below.coherent_memory.Coherent.{IsSound}
use Rattle.law_words_borrows.specs.Below.law_words_paths.words.Reworded.{HasPlaces}
use Rattle.law_copies_kept.specs.Below.law_counts_sums.Laws.{Gives, GoTo, FewEvents}
use Rattle.law_copies_kept.proofs.Below.law_counts_sums.Results.{test_gives, both_give}
use Rattle.law_copies_kept.proofs.Below.law_counts_sums.Applied.{go_with}
use Rattle.law_copies_kept.proofs.Below.law_counts_sums.Sending.{each_event_sends}
use Rattle.law_words_borrows.proofs.Below.law_words_kept.stays.Alike.{Alike}
use Rattle.law_words_borrows.proofs.Below.law_words_kept.stays.Sites.{handed_over}
use Rattle.law_words_borrows.proofs.Below.law_words_values.carried.Hands.{ThereBy}
use Rattle.law_copies_kept.proofs.copies.Clean.{all_goes}
use Rattle.law_copies_kept.proofs.references.Kept.{places_after}
use Rattle.law_copies_kept.proofs.objects.Turned.{Turned, turned_on}

module _ (k : Cluster) (s : Server) (t : ℕ) (sound : IsSound k) (few : FewEvents k) (here : server_at k.servers s.rest.number ≡ Some s) where
  abbrev n : ℕ
  n = s.rest.number

  -- each object turned, or what it was
  abbrev pub IsTurned : Cluster → Cluster → Type 0
  IsTurned a b = Turned k b sound.words.have_words

  abbrev Turns : Cluster × EntryView → Type 0
  Turns d = Turned k d.0 sound.words.have_words

  abbrev TurnsThere : Cluster × EntryView → Type 0
  TurnsThere d = HasPlaces d.0 → Turns d

  handed : (o : Option (Server × EntryView)) → Gives (ThereBy IsTurned k s) o → Gives (λ (r : Server × EntryView). GoTo (with_server k.servers n r.0) (drop_first (length s.rest.outbox) r.0.rest.outbox)) o
      → Gives TurnsThere (option_map (λ r. (record k { servers = hand_over_newer n (length s.rest.outbox) r.0 k.servers }, r.1)) o)
  handed None a g = tt
  handed (Some r) a g = λ places.
      let older = length s.rest.outbox in
      let mid : Cluster = record k { servers = with_server k.servers n r.0 } in
      let end : Cluster = record k { servers = hand_over_newer n older r.0 k.servers } in
      let alike : Alike k.code (things_of mid) (things_of end) = handed_over n older s r.0 k.servers here (go_with k.servers n r.0 (take older r.0.rest.outbox) (drop_first older r.0.rest.outbox) g) in
      turned_on k mid end a.1 places sound.words.have_words a.0 (all_goes.seen mid end a.1 places refl alike)

  pub then_turned : (enabled k.options s (Step t) ≡ true → Gives (ThereBy IsTurned k s) (does k.code k.options s (Step t))) → Gives Turns (apply k (record { server = n; what = Step t }))
  then_turned f =
      both_give TurnsThere (λ (d : Cluster × EntryView). HasPlaces d.0) Turns (apply k (record { server = n; what = Step t }))
      (subst (λ o. Gives TurnsThere (then_some o (λ x. option_map (λ d. (record k { servers = hand_over_newer n (length x.rest.outbox) d.0 k.servers }, d.1)) (done_at k (Step t) x)))) (sym here)
      (handed (done_at k (Step t) s) (test_gives (ThereBy IsTurned k s) (enabled k.options s (Step t)) (does k.code k.options s (Step t)) f) (each_event_sends k (record { server = n; what = Step t }) sound few s here)))
      (places_after k (record { server = n; what = Step t }) sound few) (λ d a c. a c)
