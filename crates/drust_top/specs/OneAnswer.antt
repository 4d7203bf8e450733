-- What follows from the causes of the answers: they exclude one another, and each leaves one text.
use Rattle.std.specs.Prelude.{◌≡◌, ℕ, ◌≤◌, List, length, Option, Some, IsSome, is_some}
use Rattle.fr_terms.specs.Terms.{Term}
use Rattle.fr_plain.specs.Whole.{Stepped, plain, ending_of}
use Rattle.fr_plain.specs.Resolve.{program}
use Rattle.journal.specs.declared.order.OrderLine.{OrderLine}
use Rattle.drust_cli.specs.declared.asked.Asked.{Asked}
use Rattle.drust_cli.specs.declared.asked.Command.TheVariants.{Run, Replay, Load}
use Rattle.drust_cli.specs.Asked.{asked}
use Rattle.server_answers.specs.Below.drust_run.declared.ran.Ran.{Ran}
use Rattle.source_front.specs.Typed.{IsTyped, limit}
use Rattle.replay_answers.specs.Replay.{HasOrder, turns, status_of_ending}
use Rattle.drust_top.specs.Headline.{Answers, IsOfRun}

-- two answers agree: both tell of a run or neither does, under one status and with one text
pub record Agree (q r : Option Ran) (s t : ℕ) (x y : List ℕ) : Type 0 where
  pub runs : is_some q ≡ is_some r
  pub status : s ≡ t
  pub text : x ≡ y

-- the answers to words and an input agree
abbrev pub OneAnswer : Type 0
OneAnswer = (words : List (List ℕ)) (bytes : List ℕ) (q r : Option Ran) (s t : ℕ) (x y : List ℕ) → Answers words (Some bytes) q s x → Answers words (Some bytes) r t y → Agree q r s t x y

-- the source of a typed program that is asked to run is answered by its run alone
abbrev pub TypedRuns : Type 0
TypedRuns = (words : List (List ℕ)) (a : Asked) (bytes : List ℕ) (p : Term) (r : Option Ran) (s : ℕ) (x : List ℕ) → asked words ≡ Some a → a.command ≡ Run → length bytes ≤ limit → IsTyped bytes p → Answers words (Some bytes) r s x → IsSome r × IsOfRun s

-- with an order behind it that is asked to be followed, and whose steps are plain steps, it is answered by the run under that order alone
abbrev pub TypedFollows : Type 0
TypedFollows = (words : List (List ℕ)) (a : Asked) (bytes : List ℕ) (p : Term) (lines : List OrderLine) (last : Stepped) (r : Option Ran) (s : ℕ) (x : List ℕ) → asked words ≡ Some a → a.command ≡ Replay → length bytes ≤ limit → HasOrder bytes p lines → plain (program p) (turns lines) ≡ Some last → Answers words (Some bytes) r s x → s ≡ status_of_ending (ending_of last.state)

-- the run of a generated program that is asked for is the answer
abbrev pub LoadsRun : Type 0
LoadsRun = (words : List (List ℕ)) (a : Asked) (left : Option (List ℕ)) (r : Option Ran) (s : ℕ) (x : List ℕ) → asked words ≡ Some a → a.command ≡ Load → Answers words left r s x → IsSome r × IsOfRun s
