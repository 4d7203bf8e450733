-- An input that a cause fits gets the status of that cause, or one that may come whatever the cause is.
use Rattle.std.proofs.Common.{◌≡◌, ℕ, List, Option, Some, ◌⊎◌, inl, inr, subst}
use Rattle.drust_cli.specs.declared.asked.Asked.{Asked}
use Rattle.drust_cli.specs.declared.asked.Command.TheVariants.{Load}
use Rattle.drust_cli.specs.Asked.{asked}
use Rattle.law_plain_generated.specs.Laws.{ProgramsAreSources}
use Rattle.server_answers.specs.Below.drust_run.declared.ran.Ran.{Ran}
use Rattle.drust_top.specs.Headline.{Answers, Answered, IsAnswer, IsCutShort, IsOfRun, IsStatus}
use Rattle.drust_top.proofs.OneAnswer.{one, loads}

-- of what was written as an answer to what was left
pub caused : (words : List (List ℕ)) (left : Option (List ℕ)) (q : Option Ran) (status : ℕ) (before after : Option (List ℕ)) → IsStatus status → (IsAnswer status → Answered words left q status before after) → (bytes text : List ℕ) (cause : ℕ) (r : Option Ran) → left ≡ Some bytes → Answers words (Some bytes) r cause text → (status ≡ cause) ⊎ IsCutShort status
caused words left q status before after (inr cut) told bytes text cause r is fits = inr cut
caused words left q status before after (inl whole) told bytes text cause r is fits =
    let a = told whole in
    inl (one words bytes q r status cause a.text text (subst (λ o. Answers words o q status a.text) is a.answers) fits).status

-- of the run of a generated program
pub loaded : ProgramsAreSources → (words : List (List ℕ)) (left : Option (List ℕ)) (q : Option Ran) (status : ℕ) (before after : Option (List ℕ)) → IsStatus status → (IsAnswer status → Answered words left q status before after) → (a : Asked) → asked words ≡ Some a → a.command ≡ Load → IsOfRun status ⊎ IsCutShort status
loaded sources words left q status before after (inr cut) told a is load = inr cut
loaded sources words left q status before after (inl whole) told a is load =
    let w = told whole in
    inl (loads sources words a left q status w.text is load w.answers).1
