-- THE HEADLINE: what the program answers. For every input that is the source of a typed program, what is written is the report of that
-- program's run in rounds on servers, or with an order behind it, the text of its run on one heap under the order; a generated program is
-- written, or the summary of its run in rounds. Each other answer has its cause.
use Rattle.std.specs.Prelude.{◌≡◌, ◌≢◌, ℕ, ◌+◌, ◌*◌, ◌<◌, ◌≤◌, ◌⊎◌, Bool, true, false, List, length, take, codes, Option, Some, None}
use Rattle.fr_base.specs.declared.settings.Options.{Options}
use Rattle.drust_io.specs.Flow.{GoesOn}
use Rattle.gen_load.specs.Programs.{program_text}
use Rattle.drust_cli.specs.declared.asked.Asked.{Asked}
use Rattle.drust_cli.specs.declared.asked.Command.{Command}
use Rattle.drust_cli.specs.declared.asked.Command.TheVariants.{Run, Replay, Gen, Load}
use Rattle.drust_cli.specs.Asked.{asked}
use Rattle.server_answers.specs.Below.drust_run.declared.ran.Ran.{Ran}
use Rattle.fr_terms.specs.Terms.{Term}
use Rattle.server_answers.specs.Below.law_length_programs.sizes.Size.{nodes_of}
use Rattle.source_front.specs.Typed.{IsTyped, limit}
use Rattle.replay_answers.specs.Answers.{Replayed}
use Rattle.server_answers.specs.Runs.{IsRight}
use Rattle.server_answers.specs.Answers.{IsReportOf, IsSummaryOf}
use Rattle.server_answers.specs.Answers as run_answers

-- of an input that is within the limit
pub record Within (P : List ℕ → Type 0) (bytes : List ℕ) : Type 0 where
  pub size : length bytes ≤ limit
  pub holds : P bytes

-- of what a source of bytes had left, or where it doesn't tell that, of some bytes
abbrev pub OfLeft : Option (List ℕ) → (List ℕ → Type 0) → Type 0
OfLeft None P = (bytes : List ℕ) × P bytes
OfLeft (Some bytes) P = P bytes

-- the commands with an input
abbrev pub reads : Command → Bool
reads Run = true
reads Replay = true
reads Gen = false
reads Load = false

-- WHAT AN INPUT IS ANSWERED: the run that is handed back, the status and the text. One that is to be run, by its program's run in rounds, or by
-- why it has none (a byte, a name or a number that is no token; a token without an entry in the table of the language, or beyond its limits; a
-- fault of types); one that is to be replayed, by its run under the order behind the source, or by why it has none
abbrev pub RepliesTo : Command → Options → List ℕ → Option Ran → ℕ → List ℕ → Type 0
RepliesTo Run o bytes r status text = run_answers.Answers (IsReportOf o.trace) bytes o r status text
RepliesTo Replay o bytes r status text = (r ≡ None) × Replayed bytes status text
RepliesTo Gen o bytes r status text = ⊥
RepliesTo Load o bytes r status text = ⊥

-- WHAT IS ANSWERED WITHOUT AN INPUT: the generated program of that number and size is written; or the summary of its run in rounds
abbrev pub Makes : Command → Options → (number size : ℕ) → Option Ran → ℕ → List ℕ → Type 0
Makes Run o number size r status text = ⊥
Makes Replay o number size r status text = ⊥
Makes Gen o number size r status text = (r ≡ None) × (status ≡ 0) × (text ≡ program_text number size)
Makes Load o number size r status text = run_answers.Answers IsSummaryOf (program_text number size) o r status text

-- THE ANSWERS: with these words and this input, the run that is handed back, the status and the text that is written, where no device fails
-- and there is memory
pub data Answers (words : List (List ℕ)) (left : Option (List ℕ)) : Option Ran → (status : ℕ) → (text : List ℕ) → Type 0 where
  replied : {r : Option Ran} {status : ℕ} {text : List ℕ} (a : Asked) → asked words ≡ Some a → OfLeft left (Within (λ bytes. RepliesTo a.command a.options bytes r status text)) → Answers words left r status text
  made : {r : Option Ran} {status : ℕ} {text : List ℕ} (a : Asked) → asked words ≡ Some a → Makes a.command a.options a.number a.size r status text → Answers words left r status text
  words_refused : asked words ≡ None → Answers words left None 5 (codes "refused words\n")
  too_long : (a : Asked) → asked words ≡ Some a → reads a.command ≡ true → OfLeft left (λ bytes. limit < length bytes) → Answers words left None 9 (codes "refused size\n")

-- an answer was written whole
pub record Answered (words : List (List ℕ)) (left : Option (List ℕ)) (r : Option Ran) (status : ℕ) (before after : Option (List ℕ)) : Type 0 where
  pub text : List ℕ
  pub answers : Answers words left r status text
  pub written : GoesOn text before after

-- the first bytes of an answer were written
pub record Broken (words : List (List ℕ)) (left : Option (List ℕ)) (r : Option Ran) (before after : Option (List ℕ)) : Type 0 where
  pub status : ℕ
  pub text : List ℕ
  pub answers : Answers words left r status text
  pub count : ℕ
  pub written : GoesOn (take count text) before after

-- THE RUN THAT IS HANDED BACK is right, as that of the input or of the generated program
abbrev pub IsRightOf : Command → Option (List ℕ) → (number size : ℕ) → Options → Ran → Type 0
IsRightOf Run left number size o r = OfLeft left (λ bytes. IsRight bytes o r)
IsRightOf Replay left number size o r = ⊥
IsRightOf Gen left number size o r = ⊥
IsRightOf Load left number size o r = IsRight (program_text number size) o r

pub record IsRightFor (words : List (List ℕ)) (left : Option (List ℕ)) (r : Ran) : Type 0 where
  pub a : Asked
  pub asked : asked words ≡ Some a
  pub right : IsRightOf a.command left a.number a.size a.options r

-- STATUSES

-- those of a run
abbrev pub IsOfRun : ℕ → Type 0
IsOfRun status = (status ≡ 0) ⊎ (status ≡ 1) ⊎ (status ≡ 2)

-- those of an answer that is written whole
abbrev pub IsAnswer : ℕ → Type 0
IsAnswer status = (status ≡ 0) ⊎ (status ≡ 1) ⊎ (status ≡ 2) ⊎ (status ≡ 3) ⊎ (status ≡ 4) ⊎ (status ≡ 5) ⊎ (status ≡ 9) ⊎ (status ≡ 10)

-- those that may come whatever the cause is: the source failed, the sink failed, there was no memory
abbrev pub IsCutShort : ℕ → Type 0
IsCutShort status = (status ≡ 6) ⊎ (status ≡ 7) ⊎ (status ≡ 8)

-- all
abbrev pub IsStatus : ℕ → Type 0
IsStatus status = IsAnswer status ⊎ IsCutShort status

-- those at which nothing is written
abbrev pub IsSilent : ℕ → Type 0
IsSilent status = (status ≡ 6) ⊎ (status ≡ 8)

-- those that say what an input is
abbrev pub IsOfInput : ℕ → Type 0
IsOfInput status = (status ≡ 0) ⊎ (status ≡ 1) ⊎ (status ≡ 2) ⊎ (status ≡ 3) ⊎ (status ≡ 4) ⊎ (status ≡ 10)

-- WITH TURNS ENOUGH no run of a typed source is unfinished: a hundred for each of twice the nodes of its program's tree, and a hundred more
abbrev pub NeverUnfinished : (words : List (List ℕ)) (left : Option (List ℕ)) (status : ℕ) → Type 0
NeverUnfinished words left status = (a : Asked) (bytes : List ℕ) (t : Term) → asked words ≡ Some a → a.command ≡ Run → left ≡ Some bytes → IsTyped bytes t → 100 * (2 * nodes_of t + 1) ≤ a.options.turns → status ≢ 2
