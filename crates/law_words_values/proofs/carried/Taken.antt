-- Which thread has taken what was taken.
use Rattle.std.proofs.Common.{◌≡◌, inl, inr, ℕ, List, [], ◌∷◌, Option, Some, None, refl, sym, ap, ◌∙◌}
use Rattle.law_words_kept.specs.Below.fr_base.declared.instruction.Instr.{Instr}
use Rattle.law_words_kept.specs.Below.fr_base.declared.instruction.Instr.TheVariants as instr
use Rattle.law_words_kept.specs.Below.thread_state.declared.phase.Phase.{Phase}
use Rattle.law_words_kept.specs.Below.thread_state.declared.phase.Phase.TheVariants as phase
use Rattle.law_words_kept.specs.Below.coherent_memory.Names.{Among}
use Rattle.law_words_kept.specs.Below.coherent_memory.Follow.{Standing}
use Rattle.law_words_kept.proofs.Below.law_words_paths.paths.Sole.{some_is}
use Rattle.law_words_kept.specs.Below.law_words_paths.words.Unmoved.{Taking, taking_by, with_taking, taking_of, takings}

pub record Taker (code : List Instr) (xs : List Standing) (t : Taking) : Type 0 where
  pub taker : Standing
  pub among : Among taker xs
  pub taking : taking_of code taker ≡ Some t

pub taker_of : (code : List Instr) (xs : List Standing) (t : Taking) → Among t (takings code xs) → Taker code xs t
taker_of code [] t h = absurd h
taker_of code (x ∷ xs) t h = by (taking_of code x) refl h (λ g. taker_of code xs t g)
  where
    later : Taker code xs t → Taker code (x ∷ xs) t
    later y = record { taker = y.taker; among = inr y.among; taking = y.taking }

    by : (o : Option Taking) → taking_of code x ≡ o → Among t (with_taking o (takings code xs)) → (Among t (takings code xs) → Taker code xs t) → Taker code (x ∷ xs) t
    by None e g go = later (go g)
    by (Some u) e (inl q) go = record { taker = x; among = inl refl; taking = e ∙ ap Some q }
    by (Some u) e (inr g) go = later (go g)

-- it is of that thread
pub taking_thread : (t : ℕ) (p : Phase) (i : Option Instr) (a : Taking) → taking_by t p i ≡ Some a → a.thread ≡ t
taking_thread t (phase.Taken w) (Some (instr.BorrowMut q)) a e = ap (λ (b : Taking). b.thread) (some_is (sym e))
taking_thread t _ _ a e = absurd cc
