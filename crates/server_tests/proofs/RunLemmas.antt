-- Whole runs of codes at one server come to their ends.
use Rattle.std.proofs.Common.{◌≡◌, List, IsSome, refl, sym, subst}
use Rattle.fr_base.specs.declared.instruction.Instr.{Instr}
use Rattle.server_model.specs.Programs.{with_servers, written_box, lent_slot, often_written}
use Rattle.server_tests.specs.Driving.{run_whole}

pub box_runs : (code : List Instr) → code ≡ written_box → IsSome (run_whole code (with_servers 1 65536) 7 1)
box_runs code e = subst (λ (x : List Instr). IsSome (run_whole x (with_servers 1 65536) 7 1)) (sym e) refl

pub slot_runs : (code : List Instr) → code ≡ lent_slot → IsSome (run_whole code (with_servers 1 65536) 9 0)
slot_runs code e = subst (λ (x : List Instr). IsSome (run_whole x (with_servers 1 65536) 9 0)) (sym e) refl

pub renewals_run : (code : List Instr) → code ≡ often_written → IsSome (run_whole code (with_servers 1 2) 11 1)
renewals_run code e = subst (λ (x : List Instr). IsSome (run_whole x (with_servers 1 2) 11 1)) (sym e) refl
