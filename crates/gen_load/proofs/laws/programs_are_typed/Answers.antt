use Rattle.std.proofs.Common.{◌<◌, ◌^◌, ◌%◌, ◌==◌, ℕ, Bool, true, false, cond, []}
use Rattle.fr_typing.specs.Kinds.{own, unit}
use Rattle.fr_typing.specs.Typing.{Types}
use Rattle.gen_load.specs.Programs.{block, counting, handing, sharing, step_of}
use Rattle.gen_load.proofs.Counted.{counting_typed}
use Rattle.gen_load.proofs.Handed.{handing_typed}
use Rattle.gen_load.proofs.Shared.{sharing_typed}
use Rattle.gen_load.proofs.laws.programs_are_typed.Goals as goal

kind_typed : (first second : Bool) (k d : ℕ) → k < 2 ^ 64 → Types [] (block (cond first (counting k d) (cond second (sharing k d) (handing k d)))) (own unit) []
kind_typed true second k d fits = counting_typed k d
kind_typed false true k d fits = sharing_typed k d
kind_typed false false k d fits = handing_typed k d fits

pub returns : goal.returns
returns c = λ number size fits. kind_typed (number % 3 == 0) (number % 3 == 1) size (step_of number) fits
