use Rattle.std.proofs.Common.{◌≡◌, true, false}
use Rattle.coherent_memory.proofs.laws.states_are_told.Goals as goal

pub returns : goal.returns
returns c = record {
  forgets_an_end = λ h. let e : false ≡ true = h.ended 1 in absurd cc;
  ends_main = λ h. let e : true ≡ false = h.ended 0 in absurd cc;
  makes_a_mutex = λ h. let e : true ≡ false = h.made (record { home = 0; count = 2 }) in absurd cc;
  loses_a_mutex = λ h. let e : false ≡ true = h.made (record { home = 0; count = 1 }) in absurd cc;
}
