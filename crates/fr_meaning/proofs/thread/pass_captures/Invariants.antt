use Rattle.std.proofs.Common.{◌≡◌, ◌+◌, ◌≤◌, length, drop, vec_capacity}
use Rattle.std.specs.Prelude.{vec_len}
use Rattle.fr_plain.specs.Threads.{pass}
use Rattle.fr_forms.specs.FormTerms.{captures_of}
use Rattle.fr_acts.specs.SlotOrder.{newest_first}
use Rattle.fr_meaning.proofs.thread.pass_captures.Given as goal

abbrev pub invariant-captures : goal.invariant-captures
invariant-captures l = record {
  passes : pass (captures_of (drop l.next l.captures)) (newest_first l.slots.items) (newest_first l.new.items) ≡ pass (captures_of l.captures) (newest_first l.initial.slots.items) (newest_first l.initial.new.items);
  room : vec_len l.new + length l.captures ≤ vec_capacity l.new + l.next;
}
