use Rattle.std.proofs.Common.{refl}
use Rattle.coloured_heap.proofs.laws.journals_compute.Goals as goal

pub returns : goal.returns
returns c = record {
  too_few_colours = refl;
  too_few_servers = refl;
  live = refl;
  moves = refl;
  boxed = record {
    legal = refl;
    reached = refl;
    driven = refl;
    figures = refl;
    kinds = refl;
    delivered = refl;
    none_left = refl;
  };
  not_tinted = refl;
  nothing = record {
    legal = refl;
    reached = refl;
    driven = refl;
    figures = refl;
    kinds = refl;
    delivered = refl;
    none_left = refl;
  };
  renewed = record {
    legal = refl;
    reached = refl;
    driven = refl;
    figures = refl;
    kinds = refl;
    delivered = refl;
    none_left = refl;
  };
  read_far = record {
    legal = refl;
    reached = refl;
    driven = refl;
    figures = refl;
    kinds = refl;
    delivered = refl;
    none_left = refl;
  };
  written_far = record {
    legal = refl;
    reached = refl;
    driven = refl;
    figures = refl;
    kinds = refl;
    delivered = refl;
    none_left = refl;
  };
  read_by_two = record {
    legal = refl;
    reached = refl;
    driven = refl;
    figures = refl;
    kinds = refl;
    delivered = refl;
    none_left = refl;
  };
  moved_about = record {
    legal = refl;
    reached = refl;
    driven = refl;
    figures = refl;
    kinds = refl;
    delivered = refl;
    none_left = refl;
  };
  evicted = record {
    legal = refl;
    reached = refl;
    driven = refl;
    figures = refl;
    kinds = refl;
    delivered = refl;
    none_left = refl;
  };
  locked_twice = record {
    legal = refl;
    reached = refl;
    driven = refl;
    figures = refl;
    kinds = refl;
    delivered = refl;
    none_left = refl;
  };
  let_go_early = record {
    legal = refl;
    reached = refl;
    driven = refl;
    figures = refl;
    kinds = refl;
    delivered = refl;
    none_left = refl;
  };
  shared = record {
    legal = refl;
    reached = refl;
    driven = refl;
    figures = refl;
    kinds = refl;
    delivered = refl;
    none_left = refl;
  };
}
