use Rattle.std.proofs.Common.{◌≡◌, ◌≤◌, ◌+◌, ◌*◌, length, drop, vec_capacity}
use Rattle.std.specs.Prelude.{max}
use Rattle.fr_plain.specs.Run.{settle, block}
use Rattle.fr_forms.specs.Depths.{depth_in}
use Rattle.fr_forms.specs.FormTerms.{parts_of, term_of}
use Rattle.fr_meaning.specs.FrameTerms.{AreInside}
use Rattle.fr_meaning.proofs.control.+enter.Given as goal

abbrev pub decreases-enter : goal.decreases-enter
decreases-enter l = 4 * l.at + 3

abbrev pub decreases-enter_part : goal.decreases-enter_part
decreases-enter_part l = 4 * l.part + 4

abbrev pub decreases-enter_operands : goal.decreases-enter_operands
decreases-enter_operands l = 4 * max l.left l.right + 4

abbrev pub decreases-enter_items : goal.decreases-enter_items
decreases-enter_items l = 4 * l.node + 2

abbrev pub decreases-enter_item : goal.decreases-enter_item
decreases-enter_item l = 4 * l.node + 1

abbrev pub invariant-enter_items-each : goal.invariant-enter_items-each
invariant-enter_items-each l = record {
  frames : l.frames.items ≡ l.initial.frames.items;
  settles : settle (block l.left (parts_of (term_of l.forms) (drop l.from l.items))) ≡ settle (block l.left (parts_of (term_of l.forms) (drop l.next l.items)));
  inside : AreInside (length l.forms) l.frames.items;
  capacity : vec_capacity l.frames ≡ vec_capacity l.initial.frames;
  room : depth_in (parts_of (term_of l.forms) (drop l.next l.items)) ≤ depth_in (parts_of (term_of l.forms) (drop l.from l.items));
}
