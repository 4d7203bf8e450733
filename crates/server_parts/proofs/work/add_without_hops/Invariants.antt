use Rattle.std.proofs.Common.{◌≡◌, ◌≤◌, ◌++◌, drop, length}
use Rattle.server_model.specs.Work.{without_hops}
use Rattle.server_parts.proofs.work.add_without_hops.Given as goal

abbrev pub invariant-acts : goal.invariant-acts
invariant-acts l = record {
  kept : l.asked.items ++ without_hops (drop l.act-index l.acts) ≡ without_hops l.acts;
  room : length (drop l.act-index l.acts) ≤ l.asked.spare;
}
