use Rattle.law_runs_coherent.proofs.events.events_keep_coherence.Goals as goal
use Rattle.coherent_memory.specs.Coherent.{passed_lie_here, place_followed, waits_in_turn}
use Rattle.law_walks_own.proofs.passed.Walks.{each_event}
use Rattle.law_runs_coherent.proofs.events.Every.{EventLaws, keep_coherence}

pub returns : goal.returns
returns c =
    let sums = c.each_event_handed_over.ensures in
    let laws : EventLaws = record {
      follow = c.some_follow.ensures;
      home = sums.home;
      owner = sums.owner;
      states = sums.states;
      users = sums.users;
      shares = sums.shares;
      tasks = sums.tasks;
      threads = sums.threads;
      answers = sums.answers;
      pairs = sums.pairs;
      going = sums.going;
      homes = sums.homes;
      results = sums.results;
      owed = sums.owed;
      walk_empty = c.threads_keep.ensures.walk_empty;
      join_walks_nothing = c.threads_keep.ensures.join_walks_nothing;
      passed_in_a_walk = c.threads_keep.ensures.passed_in_a_walk;
      parcels_ready = c.threads_keep.ensures.parcels_ready;
      thread_homes = c.threads_keep.ensures.thread_homes;
      go_right = c.messages_keep.ensures.go_right;
      asks_others = c.messages_keep.ensures.asks_others;
      options_in_range = c.messages_keep.ensures.options_in_range;
      at_their_home = c.servers_keep.ensures.at_their_home;
      queue_while_out = c.servers_keep.ensures.queue_while_out;
      content_without_shares = c.servers_keep.ensures.content_without_shares;
      par_ends = c.threads_keep_to_code.ensures.par_ends;
      over_are_bare = c.threads_keep_to_code.ensures.over_are_bare;
      below_limit = c.names_keep.ensures.below_limit;
      names_counted = c.names_keep.ensures.names_counted;
      counts_from_one = c.names_keep.ensures.counts_from_one;
      few_names = c.names_keep.ensures.few_names;
      objects_made = c.names_keep.ensures.objects_made;
      askers_stand = c.askers_keep.ensures.askers_stand;
      return_right = c.askers_keep.ensures.return_right;
      marks_in_slots = c.values_keep_to_code.ensures.marks_in_slots;
      holders_short = c.values_keep_to_code.ensures.holders_short;
      counts_bounded = c.counts_keep.ensures.counts_bounded;
      passed_within = c.walks_keep.ensures.passed_within;
      parts_are_typed = c.parts_keep.ensures.parts_are_typed;
      carry_what_is_asked = c.answers_keep.ensures;
      pairs_go_on = c.pairs_keep.ensures.pairs_go_on;
      branches_give_unit = c.pairs_keep.ensures.branches_give_unit;
      parents_end = c.pairs_keep.ensures.parents_end;
      gifts_got = c.gifts_keep.ensures;
      phases_stand = c.waits_keep.ensures.phases_stand;
      gifts_fit = c.waits_keep.ensures.gifts_fit;
      one_content = c.contents_keep.ensures.sums;
      words = c.events_keep_words.ensures;
      apart = c.objects_stay_apart.ensures;
      copies = c.events_keep_copies.ensures;
      passed_lie_here = each_event passed_lie_here c.steps_keep_walks.ensures.passed_lie_here c.all_land.ensures.passed_lie_here;
      passed_not_copied = c.each_event_uncopied.ensures;
      place_followed = each_event place_followed c.steps_keep_walks.ensures.place_followed c.all_land.ensures.place_followed;
      waits_in_turn = each_event waits_in_turn c.steps_keep_walks.ensures.waits_in_turn c.all_land.ensures.waits_in_turn;
      taken_stands = c.taken_stays.ensures.stands;
      taken_is_new = c.taken_stays.ensures.is_new;
      issued = c.each_event_issues.ensures;
      owners = c.owners_end.ensures.events;
      objects = c.objects_follow.ensures;
      types = c.events_keep_types.ensures;
    } in
    keep_coherence laws
