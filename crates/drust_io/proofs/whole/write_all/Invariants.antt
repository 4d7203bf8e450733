use Rattle.std.proofs.Common.{length, ◌-◌, ◌≤◌, take}
use Rattle.drust_io.specs.Flow.{GoesOn}
use Rattle.drust_io.proofs.whole.write_all.Given as goal

abbrev pub invariant-loop-written : goal.invariant-loop-written
invariant-loop-written g l = record {
  within : l.written ≤ length l.bytes;
  so_far : GoesOn (take l.written l.bytes) (g.K.Sink.written l.initial.sink) (g.K.Sink.written l.sink);
  grows : g.K.Sink.fault_count l.initial.sink ≤ g.K.Sink.fault_count l.sink;
}

abbrev pub decreases-loop-written : goal.decreases-loop-written
decreases-loop-written g l = length l.bytes - l.written
