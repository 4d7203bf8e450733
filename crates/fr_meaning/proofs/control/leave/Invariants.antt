use Rattle.std.proofs.Common.{◌≡◌, ◌≤◌, length, vec_len, vec_capacity}
use Rattle.fr_plain.specs.Run.{settle}
use Rattle.fr_forms.specs.Depths.{depth}
use Rattle.fr_meaning.specs.DoneTerms.{over}
use Rattle.fr_meaning.specs.FrameTerms.{wrapped, AreInside}
use Rattle.fr_meaning.proofs.control.leave.Given as goal

abbrev pub invariant-outer : goal.invariant-outer
invariant-outer l = record {
  settles : settle (wrapped l.forms l.frames.items (over l.done)) ≡ settle (wrapped l.forms l.initial.frames.items (over l.initial.done));
  inside : AreInside (length l.forms) l.frames.items;
  capacity : vec_capacity l.frames ≡ vec_capacity l.initial.frames;
  room : depth (wrapped l.forms l.frames.items (over l.done)) ≤ vec_capacity l.frames;
}

abbrev pub decreases-outer : goal.decreases-outer
decreases-outer l = vec_len l.frames
