-- After an event that issues no word each word that stands had been issued, and addresses are as they were, with its messages handed over.
use Rattle.std.proofs.Common.{◌≡◌, ℕ, ◌≤◌, true, Option, Some, None, refl, ap, arith}
use Rattle.std.specs.Prelude.{option_map}
use Rattle.law_walks_own.specs.Below.journal.View.{EntryView}
use Rattle.law_walks_own.specs.Below.law_walks_others.Below.owner_box.View.{PartitionState}
use Rattle.law_walks_own.specs.Below.server_model.declared.event.Event.{Event}
use Rattle.law_walks_own.specs.Below.server_model.Servers.{Server, Cluster, server_at}
use Rattle.law_walks_own.specs.Below.server_model.Work.{then_some}
use Rattle.law_walks_own.specs.Below.server_model.Events.{enabled, does}
use Rattle.law_walks_own.specs.Below.server_model.Clusters.{with_server, done_at, apply}
use Rattle.law_walks_own.specs.Below.coherent_memory.Names.{tot, other}
use Rattle.law_walks_own.specs.Below.coherent_memory.Things.{Thing, partition_things, server_things, things_of}
use Rattle.law_walks_own.specs.Below.coherent_memory.Sight.{issued, sight}
use Rattle.law_walks_own.specs.Below.coherent_memory.Placing.{words}
use Rattle.law_walks_own.specs.Below.coherent_memory.Words.{HasWords}
use Rattle.law_walks_own.specs.Below.coherent_memory.Coherent.{IsSound, Holds, are_issued}
use Rattle.law_walks_own.specs.Below.law_counts_sums.Laws.{Gives, FewEvents}
use Rattle.law_walks_own.proofs.Below.law_counts_sums.Results.{over_gives, test_gives, weaker}
use Rattle.law_walks_own.proofs.Below.law_counts_sums.KnownSound.{server_known}
use Rattle.law_walks_own.proofs.Below.law_counts_sums.Events.{tot-server}
use Rattle.law_walks_own.proofs.Below.law_counts_sums.Applied.{handed_on}
use Rattle.law_walks_own.proofs.Below.law_counts_sums.Sending.{each_event_sends}
use Rattle.law_walks_own.specs.Below.law_words_paths.words.Unmoved.{WordsStay}
use Rattle.law_walks_own.proofs.Below.law_counts_things.names.Sums.{base_of, server_from, server_to}
use Rattle.law_words_issued.proofs.stands.Addresses.{same_itself}
use Rattle.law_words_issued.proofs.stands.Elsewhere.{partition_alone, same_weight}
use Rattle.law_words_issued.proofs.stands.Issued.{issuing, sees_addresses, issued_kept}
use Rattle.law_words_issued.proofs.stands.Words.{only, only_sums}
use Rattle.law_words_issued.proofs.stands.Does.{ServerKept}

module _ (k : Cluster) (e : Event) (sound : IsSound k) (few : FewEvents k) where
  -- a word that wasn't issued before weighs something
  abbrev pub was : ℕ → ℕ
  was w = other (issued (sight k) w)

  abbrev pub at : ℕ → Thing → ℕ
  at w = issuing k.options.colours (sight k).pointers w

  issued_before : tot (words was) (things_of k) ≡ 0
  issued_before = sound.words.are_issued

  -- all words that stand had been issued, and no address where one had been is lost
  pub record After (c : Cluster) : Type 0 where
    pub stand : tot (words was) (things_of c) ≡ 0
    pub addresses : (w : ℕ) → tot (at w) (things_of k) ≤ tot (at w) (things_of c)
    pub options : c.options ≡ k.options

  module _ (s : Server) (here : server_at k.servers e.server ≡ Some s) where
    -- what it names had been issued, and its addresses are those of a partition that keeps what had been issued
    pub record Good (r : Server × EntryView) : Type 0 where
      pub partition : PartitionState
      pub kept : ServerKept (only was) (base_of s) partition r.0
      pub grows : (w : ℕ) → tot (at w) (partition_things s.rest.number s.rest.partition) ≤ tot (at w) (partition_things s.rest.number partition)

    -- the same addresses do
    pub same_good : (r : Server × EntryView) → ServerKept (only was) (base_of s) s.rest.partition r.0 → Good r
    same_good r g = record { partition = s.rest.partition; kept = g; grows = λ w. omega arith }

    pub fits : ServerKept (only was) (base_of s) s.rest.partition s
    fits =
        let known = server_known k sound few e.server s here in
        let part = known.partition in
        let from = server_from (only was) s part.addresses part.small (omega (arith, only_sums was (server_things s), issued_before, (tot-server (words was) k.servers e.server s s here).0)) in
        ((from.0, same_itself s.rest.partition), from.1)

    leaves : (r : Server × EntryView) → Good r → After (record k { servers = with_server k.servers e.server r.0 })
    leaves r g =
        let kept = g.kept in
        let all = kept.0 in
        let rest = all.0 in
        let number : r.0.rest.number ≡ s.rest.number = rest.numbered in record {
          stand =
              let both = tot-server (words was) k.servers e.server s r.0 here in
              omega (arith, both.0, both.1, issued_before, only_sums was (server_things r.0), server_to (only was) (base_of s) r.0 (rest, kept.1));
          addresses = λ w.
              let f = at w in
              let sees = sees_addresses k.options.colours (sight k).pointers w in
              let both = tot-server f k.servers e.server s r.0 here in
              let there : tot f (partition_things r.0.rest.number r.0.rest.partition) ≡ tot f (partition_things s.rest.number r.0.rest.partition) = ap (λ n. tot f (partition_things n r.0.rest.partition)) number in
              omega (arith, both.0, both.1, there, partition_alone f sees s, partition_alone f sees r.0, same_weight f sees s.rest.number g.partition r.0.rest.partition all.1, g.grows w);
          options = refl;
        }

  module _ (does_well : (s : Server) (here : server_at k.servers e.server ≡ Some s) → enabled k.options s e.what ≡ true → Gives (Good s here) (does k.code k.options s e.what)) where
    acted : (o : Option Server) → server_at k.servers e.server ≡ o → Gives (λ (x : Cluster × EntryView). After x.0) (then_some o (λ s. option_map (λ x. (record k { servers = with_server k.servers e.server x.0 }, x.1)) (done_at k e.what s)))
    acted None q = tt
    acted (Some s) q = over_gives (Good s q) (λ (x : Cluster × EntryView). After x.0) (done_at k e.what s) _ (test_gives (Good s q) (enabled k.options s e.what) _ (λ on. does_well s q on)) (λ r g. leaves s q r g)

    -- with its messages handed over
    gone_on : Gives (λ (x : Cluster × EntryView). After x.0) (apply k e)
    gone_on =
        handed_on After (λ c a b same g. record { stand = omega (arith, same (words was), g.stand); addresses = λ w. (let before = g.addresses w in omega (arith, same (at w), before)); options = g.options }) k e (each_event_sends k e sound few) (acted (server_at k.servers e.server) refl)

    -- so each word that stands was issued, where objects have their words
    pub keeps_issued : (before : HasWords (sight k)) → Gives (λ (x : Cluster × EntryView). WordsStay (sight k) (sight x.0) before → Holds x.0 are_issued) (apply k e)
    keeps_issued before =
        weaker (λ (x : Cluster × EntryView). After x.0) (λ (x : Cluster × EntryView). WordsStay (sight k) (sight x.0) before → Holds x.0 are_issued) (apply k e) gone_on
        (λ x g stay. issued_kept k x.0 before stay g.options g.addresses g.stand)
