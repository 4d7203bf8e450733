-- The servers' parts stay of their types, whatever event is done.
use Rattle.std.proofs.Common.{◌≡◌, ℕ, ◌==◌, List, [], ◌∷◌, length, take, drop, Option, Some, None, refl, sym, ap, subst, ◌∙◌, arith}
use Rattle.std.specs.Prelude.{option_map}
use Rattle.std.specs.List.{AllByRecursion}
use Rattle.law_counts_limits.proofs.Below.fr_typing.PlaceLemmas.{eq_cases}
use Rattle.law_counts_limits.specs.Below.journal.View.{EntryView}
use Rattle.law_counts_limits.specs.Below.server_model.declared.event.Event.{Event}
use Rattle.law_counts_limits.specs.Below.server_model.Servers.{Server, Cluster, server_at}
use Rattle.law_counts_limits.specs.Below.server_model.Work.{then_some}
use Rattle.law_counts_limits.specs.Below.server_model.Events.{enabled, does}
use Rattle.law_counts_limits.specs.Below.server_model.Clusters.{with_server, with_outbox, hand_over_newer, done_at, apply}
use Rattle.law_counts_limits.specs.Below.coherent_memory.Names.{tot, one}
use Rattle.law_counts_limits.specs.Below.coherent_memory.Things.{Thing, partition_things, servers_things, things_of}
use Rattle.law_counts_limits.specs.Below.coherent_memory.Follow.{threads_in}
use Rattle.law_counts_limits.specs.Below.coherent_memory.Sight.{sight}
use Rattle.law_counts_limits.specs.Below.coherent_memory.Naming.{free_colours, is_retired, servers_wrong, pinned_parcel}
use Rattle.law_counts_limits.specs.Below.coherent_memory.Coherent.{IsSound, Holds, parts_are_typed}
use Rattle.law_counts_limits.specs.Below.law_counts_sums.Laws.{Gives, FewEvents, GoTo}
use Rattle.law_counts_limits.proofs.Below.law_counts_sums.Results.{over_gives, both_give, test_gives}
use Rattle.law_counts_limits.proofs.Below.law_counts_sums.Events.{others_of, tot-server}
use Rattle.law_counts_limits.proofs.Below.law_counts_sums.Applied.{go_with}
use Rattle.law_counts_limits.proofs.Below.law_counts_sums.Handing.{hand_over_newer_law}
use Rattle.law_counts_limits.proofs.Below.law_counts_sums.Sending.{each_event_sends}
use Rattle.law_counts_limits.specs.Below.law_counts_things.things.Laws.{EachEventKeeps}
use Rattle.law_counts_limits.proofs.Below.law_counts_things.things.Rests.{rests_change}
use Rattle.law_types_events.proofs.parts.Places.{Coloured}
use Rattle.law_types_events.proofs.parts.Cached.{once_to}
use Rattle.law_types_events.proofs.parts.Typed.{Typed, typed}
use Rattle.law_types_events.proofs.parts.Standing.{rise_on}
use Rattle.law_types_events.proofs.parts.Standing as standing
use Rattle.law_types_events.proofs.parts.Seen.{retired_part, retired_none, retired_others, alone}
use Rattle.law_types_events.proofs.parts.Servers.{ServerTyped, AllTyped, all_to, with_typed, accepted_typed}
use Rattle.law_types_events.proofs.parts.Start.{differ, servers_typed, server_number, typed_here, starts_typed}
use Rattle.law_types_events.proofs.parts.Pins.{pins_kept}

-- free addresses that have colours
none_coloured : (xs : List (ℕ × ℕ)) → AllByRecursion Coloured xs → tot free_colours xs ≡ 0
none_coloured [] a = refl
none_coloured (x ∷ xs) a = omega (arith, ap one a.0, none_coloured xs a.1)

-- of another server
other_number : (m n : ℕ) → (m ≡ n → ⊥) → one (n == m) ≡ 0
other_number m n ne = eq_cases (λ b. one b ≡ 0) n m (λ e. absurd (ne (sym e))) (λ q. refl)

module _ (k : Cluster) (e : Event) (sound : IsSound k) (few : FewEvents k) where
  -- the servers of a run are typed
  abbrev Fine : Cluster × EntryView → Type 0
  Fine d = servers_wrong (sight d.0) 0 d.0.servers ≡ 0

  module _ (s : Server) (here : server_at k.servers e.server ≡ Some s) where
    abbrev n : ℕ
    n = s.rest.number

    -- what the event leaves at its server
    abbrev Left : Server × EntryView → Type 0
    Left r = Typed n k.options.colours 0 r.0.rest × standing.Then r

    left : Gives Left (done_at k e.what s)
    left =
        let g = typed_here k sound e.server s here in
        test_gives Left (enabled k.options s e.what) _ (λ on.
        both_give (λ (r : Server × EntryView). Typed n k.options.colours 0 r.0.rest) standing.Then Left (does k.code k.options s e.what)
        (rests_change (typed n k.options.colours) k.code k.options s e.what (starts_typed k sound e.server s here)) (rise_on k.code k.options s e.what g.threads_rise) (λ r a b. (a, b)))

    module _ (r : Server × EntryView) (g : Left r) (go : GoTo (with_server k.servers e.server r.0) (drop (length s.rest.outbox) r.0.rest.outbox)) where
      abbrev now : List Server
      now = with_server k.servers e.server r.0

      abbrev after : List Server
      after = hand_over_newer e.server (length s.rest.outbox) r.0 k.servers

      handed : (f : Thing → ℕ) → tot f (servers_things after) ≡ tot f (servers_things now)
      handed f = hand_over_newer_law f e.server (length s.rest.outbox) s r.0 k.servers here (go_with k.servers e.server r.0 (take (length s.rest.outbox) r.0.rest.outbox) (drop (length s.rest.outbox) r.0.rest.outbox) go)

      fit : Typed n k.options.colours 0 r.0.rest
      fit = g.0

      -- what is retired elsewhere stays
      retired_same : (m : ℕ) → (m ≡ e.server → ⊥) → tot (is_retired m) (servers_things after) ≡ tot (is_retired m) (things_of k)
      retired_same m ne =
          let f = is_retired m in
          let at : n ≡ e.server = server_number k sound e.server s here in
          let old : one (s.rest.number == m) ≡ 0 = other_number m n (λ q. ne (q ∙ at)) in
          let new : one (r.0.rest.number == m) ≡ 0 = other_number m r.0.rest.number (λ q. ne (q ∙ fit.numbered ∙ at)) in
          omega (arith, handed f, (tot-server f k.servers e.server s r.0 here).0, (tot-server f k.servers e.server s r.0 here).1, retired_none m s old, retired_none m r.0 new)

      -- and here it is counted
      retired_here : tot (is_retired e.server) (servers_things after) ≡ r.0.rest.partition.retired
      retired_here =
          let at : n ≡ e.server = server_number k sound e.server s here in
          subst (λ m. tot (is_retired m) (servers_things after) ≡ r.0.rest.partition.retired) at
          (let f = is_retired n in
          let part = fit.part in
          let exact = part.exact in
          let mine : tot f (partition_things r.0.rest.number r.0.rest.partition) ≡ r.0.rest.partition.retired = subst (λ m. tot f (partition_things m r.0.rest.partition) ≡ r.0.rest.partition.retired) (sym fit.numbered) exact.counted in
          omega (arith, handed f, (tot-server f k.servers e.server s r.0 here).1, retired_part n r.0, mine, retired_others n (others_of k.servers e.server) (alone k.servers e.server s here (differ k sound e.server s here))))

      new_typed : ServerTyped k.options.colours (tot (is_retired e.server) (servers_things after)) e.server (with_outbox (take (length s.rest.outbox) r.0.rest.outbox) r.0)
      new_typed =
          let at : n ≡ e.server = server_number k sound e.server s here in
          let part = fit.part in
          let exact = part.exact in record {
            numbered = fit.numbered ∙ at;
            own = part.own ∙ at;
            limited = part.limited;
            coloured = none_coloured r.0.rest.partition.free exact.coloured;
            counted = retired_here;
            cached = once_to r.0.rest.cache fit.cached;
            homed = fit.homed ∙ at;
            mutexes_rise = fit.mutexes_rise;
            tasks_rise = fit.tasks_rise;
            threads_rise = g.1;
          }

      fine : Fine (record k { servers = after }, r.1)
      fine =
          let later : ℕ → ℕ = λ m. tot (is_retired m) (servers_things after) in
          let old : ℕ → ℕ = λ m. tot (is_retired m) (things_of k) in
          let outbox = take (length s.rest.outbox) r.0.rest.outbox in
          let there : AllTyped k.options.colours later k.options.servers 0 (with_server k.servers e.server (with_outbox outbox r.0)) =
          with_typed k.options.colours old k.options.servers later e.server retired_same 0 k.servers (with_outbox outbox r.0) new_typed (servers_typed k sound e.server s here) in
          all_to (sight (record k { servers = after })) 0 after (accepted_typed k.options.colours later k.options.servers 0 (with_server k.servers e.server (with_outbox outbox r.0)) (drop (length s.rest.outbox) r.0.rest.outbox) there)

    done : Gives Fine (option_map (λ d. (record k { servers = hand_over_newer e.server (length s.rest.outbox) d.0 k.servers }, d.1)) (done_at k e.what s))
    done =
        over_gives (λ (r : Server × EntryView). Left r × GoTo (with_server k.servers e.server r.0) (drop (length s.rest.outbox) r.0.rest.outbox)) Fine (done_at k e.what s) (λ d. (record k { servers = hand_over_newer e.server (length s.rest.outbox) d.0 k.servers }, d.1))
        (both_give Left (λ (r : Server × EntryView). GoTo (with_server k.servers e.server r.0) (drop (length s.rest.outbox) r.0.rest.outbox)) _ (done_at k e.what s) left (each_event_sends k e sound few s here) (λ r a b. (a, b)))
        (λ r u. fine r u.0 u.1)

  -- the event, with its messages handed over
  servers_kept : Gives Fine (apply k e)
  servers_kept = by (server_at k.servers e.server) refl
    where
      by : (o : Option Server) → server_at k.servers e.server ≡ o → Gives Fine (then_some o (λ s. option_map (λ d. (record k { servers = hand_over_newer e.server (length s.rest.outbox) d.0 k.servers }, d.1)) (done_at k e.what s)))
      by None q = tt
      by (Some s) q = done s q

-- servers and parcels together
pub parts_kept : EachEventKeeps parts_are_typed
parts_kept k e sound few =
    both_give (λ (d : Cluster × EntryView). servers_wrong (sight d.0) 0 d.0.servers ≡ 0) (λ (d : Cluster × EntryView). tot pinned_parcel (threads_in (things_of d.0)) ≡ 0) (λ (d : Cluster × EntryView). Holds d.0 parts_are_typed) (apply k e)
    (servers_kept k e sound few) (pins_kept k e sound few) (λ d a b. omega (arith, a, b))
