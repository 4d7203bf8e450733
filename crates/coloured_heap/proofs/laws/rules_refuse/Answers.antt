use Rattle.std.proofs.Common.{refl}
use Rattle.coloured_heap.proofs.laws.rules_refuse.Goals as goal

pub returns : goal.returns
returns c = record {
  make = record {
    again = refl;
    issued = refl;
    issued_before = refl;
    issued_and_freed = refl;
    next_colour = refl;
    elsewhere = refl;
    of_another = refl;
    live = refl;
    no_colour = refl;
    no_thread = refl;
  };
  local = record {
    here = refl;
    old_word = refl;
    elsewhere = refl;
    flies = refl;
    given_up = refl;
  };
  hit = record {
    cached = refl;
    not_cached = refl;
    old_word = refl;
    new_word = refl;
    elsewhere = refl;
  };
  ask = record {
    far = refl;
    here = refl;
    cached = refl;
    old_word = refl;
  };
  serve = record {
    answers = refl;
    not_asked = refl;
    twice = refl;
    another = refl;
    asked_to_come = refl;
    elsewhere = refl;
    old_word = refl;
    new_word = refl;
  };
  fill = record {
    comes = refl;
    not_served = refl;
    twice = refl;
    elsewhere = refl;
    another_word = refl;
    given_up = refl;
  };
  pull = record {
    far = refl;
    cached = refl;
    here = refl;
    old_word = refl;
  };
  give = record {
    answers = refl;
    not_pulled = refl;
    asked_for_copy = refl;
    twice = refl;
    another = refl;
    elsewhere = refl;
    old_word = refl;
  };
  take = record {
    comes = refl;
    not_given = refl;
    twice = refl;
    elsewhere = refl;
    another_word = refl;
    of_another = refl;
    issued = refl;
    old_word_is_over = refl;
  };
  tint = record {
    next = refl;
    from_afar = refl;
    same = refl;
    another_word = refl;
    leaps = refl;
    old_word = refl;
    issued = refl;
    past_last = refl;
    flies = refl;
  };
  renew = record {
    last = refl;
    not_last = refl;
    elsewhere = refl;
    of_another = refl;
    issued = refl;
    another_word = refl;
  };
  condemn = record {
    here = refl;
    from_afar = refl;
    flies = refl;
    twice = refl;
    old_word = refl;
  };
  free = record {
    frees = refl;
    not_condemned = refl;
    elsewhere = refl;
    another_word = refl;
    twice = refl;
  };
  evict = record {
    cached = refl;
    not_cached = refl;
    elsewhere = refl;
    twice = refl;
  };
  lock = record {
    asks = refl;
    nobody_asks = refl;
    not_made = refl;
    granted = refl;
    not_asked = refl;
    to_another = refl;
    to_elsewhere = refl;
    another_mutex = refl;
    not_home = refl;
    out = refl;
    in_again = refl;
    given_back = refl;
    given_back_twice = refl;
    given_back_by_another = refl;
  };
  share = record {
    asks = refl;
    nobody_asks = refl;
    not_made = refl;
    answered = refl;
    not_asked = refl;
    to_another = refl;
    not_home = refl;
    let_go = refl;
    let_go_not_made = refl;
    task_let_go = refl;
    task_not_started = refl;
  };
  start = record {
    second = refl;
    at_another = refl;
    elsewhere = refl;
    twice = refl;
    main_again = refl;
    of_another = refl;
    nobody = refl;
  };
  join = record {
    asks = refl;
    nobody_asks = refl;
    not_started = refl;
    answered = refl;
    not_asked = refl;
    twice = refl;
    to_another = refl;
    to_elsewhere = refl;
    not_home = refl;
    goes_on = refl;
  };
  end = record {
    ends = refl;
    twice = refl;
    of_another = refl;
    of_main = refl;
  };
  depart = record {
    leaves = refl;
    stays = refl;
    nowhere = refl;
    of_another = refl;
  };
  place = record {
    there = refl;
    not_there = refl;
    not_started = refl;
    no_server = refl;
    second_mutex = refl;
    mutex_twice = refl;
    mutex_elsewhere = refl;
  };
}
