use Rattle.std.proofs.Common.{◌≡◌, ◌++◌, string_bytes}
use Rattle.gen_load.specs.Pieces.{more_text}
use Rattle.gen_load.specs.Programs.{handed_from}
use Rattle.gen_load.proofs.handing.add_handing.Given as goal

-- as many threads stand there as the loop has come
abbrev pub invariant-loop-i : goal.invariant-loop-i
invariant-loop-i l = string_bytes l.text ≡ string_bytes l.initial.text ++ more_text (handed_from 0 l.i l.step)
