use Rattle.std.proofs.Common.{◌≡◌, ◌++◌, [], ◌∷◌, string_bytes}
use Rattle.gen_load.specs.Pieces.{items_text}
use Rattle.gen_load.specs.Programs.{add_locked, times}
use Rattle.gen_load.proofs.counting.add_all_locked.Given as goal

-- as many locks stand there as the loop has come
abbrev pub invariant-loop-i : goal.invariant-loop-i
invariant-loop-i l = string_bytes l.text ≡ string_bytes l.fn.text ++ items_text (times l.i (add_locked l.share l.step ∷ []))
