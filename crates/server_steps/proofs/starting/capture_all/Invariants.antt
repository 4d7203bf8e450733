use Rattle.std.proofs.Common.{◌≡◌, ◌+◌, ◌≤◌, false, [], All, drop, length, vec_len}
use Rattle.std.specs.Vec.{vec_capacity}
use Rattle.thread_state.specs.View.{is_pinned}
use Rattle.server_model.specs.Start.{capture_from}
use Rattle.server_steps.proofs.starting.capture_all.Given as goal

-- the captures that are left give the same from here
abbrev pub invariant-captures : goal.invariant-captures
invariant-captures l = record {
  state : capture_from l.branch l.new.items (drop l.capture-index l.captures) l.slots.items ≡ capture_from l.branch [] l.captures l.initial.slots.items;
  packed : All (λ v. is_pinned v ≡ false) l.new.items;
  room : length (drop l.capture-index l.captures) + length l.new.items ≤ vec_capacity l.new;
  capacity : vec_capacity l.slots ≡ vec_capacity l.initial.slots;
  len : vec_len l.slots ≡ vec_len l.initial.slots;
}
