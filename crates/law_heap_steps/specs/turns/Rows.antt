-- A run of one thread whose steps are all of the kinds that the law covers, computed: no sentence is broken before a step, and each event has a `done`.
use Rattle.std.specs.Prelude.{◌≡◌, ℕ, pos, false, List, [], ◌∷◌, map, Option, Some, None}
use Rattle.law_words_kept.specs.Below.fr_base.declared.label.Label.{Label}
use Rattle.law_words_kept.specs.Below.fr_base.declared.label.Label.TheVariants as label
use Rattle.law_words_kept.specs.Below.fr_base.declared.place.Op.TheVariants as op
use Rattle.law_words_kept.specs.Below.fr_base.declared.step.Fresh.{Fresh}
use Rattle.law_words_kept.specs.Below.fr_base.declared.step.Fresh.TheVariants as fresh
use Rattle.law_words_kept.specs.Below.fr_base.declared.instruction.Operand.TheVariants as operand
use Rattle.law_words_kept.specs.Below.fr_base.declared.instruction.Instr.{Instr}
use Rattle.law_words_kept.specs.Below.fr_base.declared.instruction.Instr.TheVariants as instr
use Rattle.law_words_kept.specs.Below.journal.View.{EntryView}
use Rattle.law_words_kept.specs.Below.server_model.Figures.{Ran, run, steps_of}
use Rattle.law_words_kept.specs.Below.sample_clusters.Clusters.{place, options}
use Rattle.law_words_kept.specs.Below.coherent_memory.Coherent.{Sentence, broken}

-- `let mut x = 1; print(x + 2)`, and two references to x
abbrev pub counting : List Instr
counting =
    instr.Let (operand.Const (pos 1)) ∷ instr.Read (place 0 0) false ∷ instr.Arith op.Add operand.Pop (operand.Const (pos 2)) ∷ instr.Print operand.Pop
    ∷ instr.Borrow (place 0 0) ∷ instr.BorrowMut (place 0 0) ∷ []

abbrev ran : ℕ → Option Ran
ran n = run counting (options 1) (steps_of 0 0 n)

abbrev shown : EntryView → Option Fresh × List Label
shown x = (x.done, x.labels)

abbrev journal_of : Option Ran → List (Option Fresh × List Label)
journal_of None = []
journal_of (Some r) = map shown r.journal

abbrev broken_of : Option Ran → Option (List Sentence)
broken_of None = None
broken_of (Some r) = Some (broken r.cluster)

abbrev quiet : Option Fresh × List Label
quiet = (Some fresh.None, [])

pub record RowsCompute : Type 0 where
  pub sound : map (λ n. broken_of (ran n)) (0 ∷ 1 ∷ 2 ∷ 3 ∷ 4 ∷ 5 ∷ []) ≡ Some [] ∷ Some [] ∷ Some [] ∷ Some [] ∷ Some [] ∷ Some [] ∷ []
  pub steps : journal_of (ran 6) ≡ quiet ∷ quiet ∷ quiet ∷ (Some fresh.None, label.Print (pos 3) ∷ []) ∷ quiet ∷ quiet ∷ []
