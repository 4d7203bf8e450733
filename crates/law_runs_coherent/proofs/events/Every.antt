-- Each event leaves a coherent cluster: every sentence is kept by a law, and so are types.
use Rattle.std.proofs.Common.{◌≡◌, Option, Some, None, refl, subst}
use Rattle.coherent_memory.specs.Below.journal.View.{EntryView}
use Rattle.coherent_memory.specs.Below.server_model.declared.event.Event.{Event}
use Rattle.coherent_memory.specs.Below.server_model.Servers.{Cluster}
use Rattle.coherent_memory.specs.Below.server_model.Clusters.{apply}
use Rattle.coherent_memory.specs.Coherent.{Sentence, Holds, are_issued, objects_there, different_words, passed_lie_here, passed_not_copied, place_followed, waits_in_turn, none_owns_itself, walk_empty, join_walks_nothing, passed_in_a_walk, passed_within, parcels_ready, thread_homes, go_right, asks_others, options_in_range, at_their_home, queue_while_out, content_without_shares, par_ends, over_are_bare, below_limit, names_counted, counts_from_one, few_names, objects_made, askers_stand, return_right, marks_in_slots, holders_short, counts_bounded, parts_are_typed, carry_what_is_asked, pairs_go_on, branches_give_unit, parents_end, gifts_got, phases_stand, gifts_fit, taken_stands, taken_is_new, OneHome, OneOwner, Copies, Users, IsSound}
use Rattle.coherent_memory.specs.Following.{TasksNoted, MutexesNoted, FollowLaw}
use Rattle.coherent_memory.specs.Rooted.{ownings, parents}
use Rattle.coherent_memory.specs.Sight.{sight}
use Rattle.coherent_memory.specs.Turn.{WaitInTurn}
use Rattle.coherent_memory.specs.Things.{things_of}
use Rattle.coherent_memory.proofs.Followed.{followed_law}
use Rattle.coherent_memory.proofs.Passing.{passed_law}
use Rattle.coherent_memory.proofs.Turn.{turn_law}
use Rattle.coherent_memory.proofs.Ranks.{node_ends, number_ends}
use Rattle.law_counts_sums.specs.Laws.{FewEvents, Gives, EachEventHandedOver, OneState, SharesCounted, OneTaskValue, TaskValuesOwed, NumbersDiffer, OneAnswer, PairsNoted, NotedGoOn, NotedAtHome, OneResult}
use Rattle.law_counts_things.specs.Below.coherent_types.Names.{names_of}
use Rattle.law_counts_things.specs.Below.coherent_types.ClusterTypes.{Types, IsCoherent}
use Rattle.law_counts_things.specs.Below.law_words_paths.paths.HeapStore.{HasPaths}
use Rattle.law_words_kept.specs.reads.Answering.{AnswersTold}
use Rattle.law_words_kept.specs.ends.Objects.{ObjectsFollow}
use Rattle.law_words_kept.proofs.ends.Passed.{passed_follows}
use Rattle.law_counts_things.specs.things.Laws.{EachEventKeeps, EachCoherentEventKeeps}
use Rattle.law_counts_waiting.specs.Below.law_words_kept.prepared.Requests.{WordsHold}
use Rattle.law_counts_waiting.specs.contents.Contents.{OneContent, EachEventLeavesOneContent}
use Rattle.law_copies_writes.specs.Below.law_words_ends.arrivals.Events.{EventsKeepWords}
use Rattle.law_words_issued.specs.apart.Words.{ObjectsStayApart}
use Rattle.law_runs_coherent.specs.events.Copies.{EventsKeepCopies}
use Rattle.law_words_issued.specs.ever.Standing.{Settled}
use Rattle.law_words_issued.specs.ever.Issued.{EachEventIssues}
use Rattle.law_runs_coherent.specs.events.Owning.{Agrees, EventsThatAgreeEnd}
use Rattle.law_runs_coherent.specs.events.Types.{EventsKeepTypes}
use Rattle.law_runs_coherent.specs.events.Coherence.{EventsKeepCoherence}

-- WHERE THERE IS A RESULT

at_result : {X : Type 0} (P : X → Type 0) (o : Option X) → ((x : X) → o ≡ Some x → P x) → Gives P o
at_result P None f = record {}
at_result P (Some x) f = f x refl

result_has : {X : Type 0} (P : X → Type 0) (o : Option X) (x : X) → o ≡ Some x → Gives P o → P x
result_has P o x e p = subst (Gives P) e p

-- THE LAWS

-- what the laws say that each event keeps
pub record EventLaws : Type 0 where
  pub follow : FollowLaw
  pub home : EachEventHandedOver OneHome
  pub owner : EachEventHandedOver OneOwner
  pub states : EachEventHandedOver OneState
  pub users : EachEventHandedOver Users
  pub shares : EachEventHandedOver SharesCounted
  pub tasks : EachEventHandedOver OneTaskValue
  pub threads : EachEventHandedOver NumbersDiffer
  pub answers : EachEventHandedOver OneAnswer
  pub pairs : EachEventHandedOver PairsNoted
  pub going : EachEventHandedOver NotedGoOn
  pub homes : EachEventHandedOver NotedAtHome
  pub results : EachEventHandedOver OneResult
  pub owed : EachEventHandedOver TaskValuesOwed
  pub walk_empty : EachEventKeeps walk_empty
  pub join_walks_nothing : EachEventKeeps join_walks_nothing
  pub passed_in_a_walk : EachEventKeeps passed_in_a_walk
  pub passed_within : EachEventKeeps passed_within
  pub parcels_ready : EachEventKeeps parcels_ready
  pub thread_homes : EachEventKeeps thread_homes
  pub go_right : EachEventKeeps go_right
  pub asks_others : EachEventKeeps asks_others
  pub options_in_range : EachEventKeeps options_in_range
  pub at_their_home : EachEventKeeps at_their_home
  pub queue_while_out : EachEventKeeps queue_while_out
  pub content_without_shares : EachEventKeeps content_without_shares
  pub par_ends : EachCoherentEventKeeps par_ends
  pub over_are_bare : EachCoherentEventKeeps over_are_bare
  pub below_limit : EachEventKeeps below_limit
  pub names_counted : EachEventKeeps names_counted
  pub counts_from_one : EachEventKeeps counts_from_one
  pub few_names : EachEventKeeps few_names
  pub objects_made : EachEventKeeps objects_made
  pub askers_stand : EachEventKeeps askers_stand
  pub return_right : EachEventKeeps return_right
  pub marks_in_slots : EachCoherentEventKeeps marks_in_slots
  pub holders_short : EachCoherentEventKeeps holders_short
  pub counts_bounded : EachCoherentEventKeeps counts_bounded
  pub parts_are_typed : EachEventKeeps parts_are_typed
  pub carry_what_is_asked : EachEventKeeps carry_what_is_asked
  pub pairs_go_on : EachEventKeeps pairs_go_on
  pub branches_give_unit : EachCoherentEventKeeps branches_give_unit
  pub parents_end : EachEventKeeps parents_end
  pub gifts_got : EachCoherentEventKeeps gifts_got
  pub phases_stand : EachCoherentEventKeeps phases_stand
  pub gifts_fit : EachCoherentEventKeeps gifts_fit
  pub one_content : EachEventLeavesOneContent
  pub words : EventsKeepWords
  pub apart : ObjectsStayApart
  pub copies : EventsKeepCopies
  pub passed_lie_here : EachCoherentEventKeeps passed_lie_here
  pub passed_not_copied : EachCoherentEventKeeps passed_not_copied
  pub place_followed : EachCoherentEventKeeps place_followed
  pub waits_in_turn : EachCoherentEventKeeps waits_in_turn
  pub taken_stands : EachCoherentEventKeeps taken_stands
  pub taken_is_new : EachCoherentEventKeeps taken_is_new
  pub issued : EachEventIssues
  pub owners : EventsThatAgreeEnd
  pub objects : ObjectsFollow
  pub types : EventsKeepTypes

module _ (l : EventLaws) (k : Cluster) (e : Event) (coherent : IsCoherent k) (few : FewEvents k) (d : Cluster × EntryView) (is : apply k e ≡ Some d) where
  -- of the cluster afterwards: a part, and a sentence by a law that asks for a sound cluster, or for a coherent one
  part : (P : Cluster → Type 0) → EachEventHandedOver P → P d.0
  part P law = result_has (λ (x : Cluster × EntryView). P x.0) (apply k e) d is (law k e coherent.sound few)

  kept : (n : Sentence) → EachEventKeeps n → Holds d.0 n
  kept n law = result_has (λ (x : Cluster × EntryView). Holds x.0 n) (apply k e) d is (law k e coherent.sound few)

  kept_typed : (n : Sentence) → EachCoherentEventKeeps n → Holds d.0 n
  kept_typed n law = result_has (λ (x : Cluster × EntryView). Holds x.0 n) (apply k e) d is (law k e coherent few)

  content : OneContent d.0
  content = result_has (λ (x : Cluster × EntryView). OneContent x.0) (apply k e) d is (l.one_content k e coherent few)

  noted : TasksNoted d.0
  noted = record { numbers_differ = part NumbersDiffer l.threads; noted_go_on = part NotedGoOn l.going; one_result = part OneResult l.results; task_values_owed = part TaskValuesOwed l.owed }

  mutexes : MutexesNoted d.0
  mutexes = record {
    at_their_home = kept at_their_home l.at_their_home;
    one_content = content;
    marks_in_slots = kept_typed marks_in_slots l.marks_in_slots;
    shares_counted = part SharesCounted l.shares;
    carry_what_is_asked = kept carry_what_is_asked l.carry_what_is_asked;
    phases_stand = kept_typed phases_stand l.phases_stand;
  }

  words_hold : WordsHold d.0
  words_hold = result_has (λ (x : Cluster × EntryView). WordsHold x.0) (apply k e) d is (l.words k e coherent few)

  paths : Types d.0 → HasPaths d.0
  paths types =
      let home = part OneHome l.home in
      let owner = part OneOwner l.owner in
      record {
        types = types;
        numbers_differ = part NumbersDiffer l.threads;
        names_counted = kept names_counted l.names_counted;
        counts_from_one = kept counts_from_one l.counts_from_one;
        over_are_bare = kept_typed over_are_bare l.over_are_bare;
        home_of_each = home.home_of_each;
        owner_of_each = owner.owner_of_each;
      }

  turns : WaitInTurn (sight d.0)
  turns = turn_law.from_count (sight d.0) (kept_typed waits_in_turn l.waits_in_turn)

  told : AnswersTold d.0
  told = record {
    numbers_differ = part NumbersDiffer l.threads;
    one_answer = part OneAnswer l.answers;
    carry_what_is_asked = kept carry_what_is_asked l.carry_what_is_asked;
    wait_in_turn = turns;
  }

  objects_then : Types d.0 → Holds d.0 objects_there
  objects_then types = l.objects d.0 (paths types) words_hold.has_words told

  issued_then : Types d.0 → Holds d.0 are_issued
  issued_then types = result_has (λ (x : Cluster × EntryView). Settled x.0 → Holds x.0 are_issued) (apply k e) d is (l.issued k e coherent few) (record {
    paths = paths types;
    has_words = words_hold.has_words;
    first_at_holder = words_hold.first_at_holder;
    users = part Users l.users;
    wait_in_turn = turns;
    objects_there = objects_then types;
    taken_stands = kept_typed taken_stands l.taken_stands;
  })

  pub sound_then : Types d.0 → IsSound d.0
  sound_then types = record {
    one_home = part OneHome l.home;
    one_owner = part OneOwner l.owner;
    words = record {
      are_issued = issued_then types;
      below_limit = kept below_limit l.below_limit;
      have_words = words_hold.has_words;
      one_state = part OneState l.states;
      first_at_holder = words_hold.first_at_holder;
      different_words = kept_typed different_words l.apart;
      dirty_alone = words_hold.dirty_alone;
      past_words = words_hold.past_words;
    };
    copies = result_has (λ (x : Cluster × EntryView). Copies x.0) (apply k e) d is (l.copies k e coherent few);
    walks = record {
      have_passed = passed_law.from_counts d.0 (kept_typed passed_lie_here l.passed_lie_here) (kept_typed passed_not_copied l.passed_not_copied) (passed_follows d.0 (paths types) (kept passed_in_a_walk l.passed_in_a_walk) (kept passed_within l.passed_within));
      passed_in_a_walk = kept passed_in_a_walk l.passed_in_a_walk;
      passed_within = kept passed_within l.passed_within;
      walk_empty = kept walk_empty l.walk_empty;
      join_walks_nothing = kept join_walks_nothing l.join_walks_nothing;
      parcels_ready = kept parcels_ready l.parcels_ready;
      have_followed = followed_law.from_counts (sight d.0) (kept_typed place_followed l.place_followed);
      wait_in_turn = turns;
      asks_others = kept asks_others l.asks_others;
    };
    users = part Users l.users;
    requests = record {
      one_answer = part OneAnswer l.answers;
      carry_what_is_asked = kept carry_what_is_asked l.carry_what_is_asked;
      go_right = kept go_right l.go_right;
      return_right = kept return_right l.return_right;
      askers_stand = kept askers_stand l.askers_stand;
      objects_there = objects_then types;
      phases_stand = kept_typed phases_stand l.phases_stand;
      par_ends = kept_typed par_ends l.par_ends;
      pairs_noted = part PairsNoted l.pairs;
      pairs_go_on = kept pairs_go_on l.pairs_go_on;
      taken_stands = kept_typed taken_stands l.taken_stands;
      taken_is_new = kept_typed taken_is_new l.taken_is_new;
      gifts_got = kept_typed gifts_got l.gifts_got;
      gifts_fit = kept_typed gifts_fit l.gifts_fit;
    };
    mutexes_and_tasks = record {
      named_are_there = l.follow.named_are_there d.0 mutexes;
      at_their_home = kept at_their_home l.at_their_home;
      one_content = content;
      marks_in_slots = kept_typed marks_in_slots l.marks_in_slots;
      shares_counted = part SharesCounted l.shares;
      queue_while_out = kept queue_while_out l.queue_while_out;
      content_without_shares = kept content_without_shares l.content_without_shares;
      thread_homes = kept thread_homes l.thread_homes;
      noted_go_on = part NotedGoOn l.going;
      noted_at_home = part NotedAtHome l.homes;
      one_task_value = part OneTaskValue l.tasks;
      task_values_owed = part TaskValuesOwed l.owed;
      one_result = part OneResult l.results;
      pairs_unnamed = l.follow.pairs_unnamed d.0 noted;
    };
    rooted = record {
      over_are_bare = kept_typed over_are_bare l.over_are_bare;
      none_owns_itself = node_ends (ownings (sight d.0)) (result_has (λ (x : Cluster × EntryView). Agrees x.0 → Holds x.0 none_owns_itself) (apply k e) d is (l.owners k e coherent.sound few) (record { names = names_of types.object types.typing.gives; agree = types.agree }));
      parents_end = number_ends (parents (things_of d.0)) (kept parents_end l.parents_end);
      branches_give_unit = kept_typed branches_give_unit l.branches_give_unit;
    };
    names = record {
      numbers_differ = part NumbersDiffer l.threads;
      objects_made = kept objects_made l.objects_made;
      names_counted = kept names_counted l.names_counted;
      counts_from_one = kept counts_from_one l.counts_from_one;
      few_names = kept few_names l.few_names;
      counts_bounded = kept_typed counts_bounded l.counts_bounded;
    };
    parts = record { parts_are_typed = kept parts_are_typed l.parts_are_typed; options_in_range = kept options_in_range l.options_in_range; holders_short = kept_typed holders_short l.holders_short };
  }

-- so an event leads to a coherent cluster
pub keep_coherence : EventLaws → EventsKeepCoherence
keep_coherence l k e coherent few =
    at_result (λ d. IsCoherent d.0) (apply k e)
    (λ d is.
    let types = result_has (λ (x : Cluster × EntryView). Types x.0) (apply k e) d is (l.types k e coherent few) in
    record { sound = sound_then l k e coherent few d is types; types = types })
