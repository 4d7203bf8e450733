use Rattle.std.proofs.Common.{◌≡◌, ◌++◌, string_bytes}
use Rattle.gen_load.specs.Pieces.{more_text}
use Rattle.gen_load.specs.Programs.{shared_round, times}
use Rattle.gen_load.proofs.sharing.add_sharing.Given as goal

-- as many rounds stand there as the loop has come
abbrev pub invariant-loop-i : goal.invariant-loop-i
invariant-loop-i l = string_bytes l.text ≡ string_bytes l.initial.text ++ more_text (times l.i (shared_round l.step))
