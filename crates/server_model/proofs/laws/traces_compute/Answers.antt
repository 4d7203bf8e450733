use Rattle.std.proofs.Common.{refl}
use Rattle.server_model.proofs.laws.traces_compute.Goals as goal

pub returns : goal.returns
returns c = record {
  written = refl;
  inside = refl;
  taken_out = refl;
  locked = refl;
  in_turns = refl;
  in_order = refl;
  hops_once = refl;
  deep = refl;
  used_once = refl;
  both_used = refl;
  none_used = refl;
  pinned = refl;
  moved = refl;
  stepped = refl;
}
