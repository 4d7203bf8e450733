-- A cluster stands for each coloured heap for which a sound one with the same things does: as after an event by which nothing goes and nothing comes.
use Rattle.std.proofs.Common.{List, [], refl, subst, arith}
use Rattle.law_entries_events.specs.Below.law_entries_variables.Below.server_model.Servers.{Server, Cluster}
use Rattle.law_entries_events.specs.Below.coloured_heap.Heap.{Coloured}
use Rattle.law_entries_events.specs.Below.law_entries_variables.Below.coherent_memory.Things.{servers_things, things_of}
use Rattle.law_entries_events.specs.Below.law_entries_variables.Below.coherent_memory.Sight.{sight}
use Rattle.law_entries_events.specs.Below.law_entries_variables.Below.coherent_memory.Colours.{StandsColoured}
use Rattle.law_entries_events.specs.Below.law_entries_variables.Below.coherent_memory.Coherent.{IsSound}
use Rattle.law_entries_events.proofs.Below.law_entries_variables.deliveries.Answers.{answers_of, fits, coloured_by}
use Rattle.law_entries_events.proofs.Below.law_entries_variables.deliveries.After.{Follows, Keeps}
use Rattle.law_entries_events.proofs.Below.law_entries_variables.deliveries.Quiet.{Quietly, quiet_agrees}
use Rattle.law_runs_order.specs.things.SameThings.{Reordered}
use Rattle.law_runs_order.proofs.things.Sights.{Apart}
use Rattle.law_runs_order.proofs.things.Words.{words_too, words_same}
use Rattle.law_runs_order.proofs.things.Parts.{gift_content_same}
use Rattle.law_runs_order.proofs.things.Sound.{with_servers}
use Rattle.law_runs_right.specs.colours.Laws.{ColouredWithSameThings}

module _ (k : Cluster) (servers : List Server) (r : Reordered (things_of k) (servers_things servers)) (h : IsSound (record k { servers = servers })) where
  abbrev z : Cluster
  z = record k { servers = servers }

  once : Apart (servers_things servers)
  once = record { threads = h.names.numbers_differ; cells = h.one_home.home_of_each }

  follows : Follows z k [] []
  follows = record { code = refl; options = refl; things = λ f seen. omega (arith, r.sums f) }

  keeps : Keeps z k
  keeps = record { words = λ before. record { after = words_too k servers r once before; same = words_same k servers r once before }; gifts = gift_content_same k servers r once }

  quietly : Quietly z [] []
  quietly = record {
    objects = λ o g. refl;
    drops = λ o. refl;
    copies = λ n w g. refl;
    served = λ a. refl;
    issued = λ f n w. refl;
    started = λ s n. refl;
    made = λ s n. refl;
    threads = λ t. refl;
    running = λ t g. refl;
    wishes = λ a. refl;
    there = λ m. omega arith;
    holders = λ m g. refl;
  }

  pub coloured_too : (c : Coloured) → StandsColoured z c → StandsColoured k c
  coloured_too c like = coloured_by (answers_of (sight z)) (sight k) c (fits (sight z) c like) (quiet_agrees z k [] [] h follows keeps quietly)

pub coloured_with_same_things : ColouredWithSameThings
coloured_with_same_things k z same h c like =
    let e = with_servers k z same in coloured_too k z.servers same.things (subst IsSound e h) c (subst (λ (y : Cluster). StandsColoured y c) e like)
