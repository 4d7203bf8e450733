-- The texts of a report and of a summary: how a run ended, and what a journal tells of it (this project's format).
use Rattle.std.specs.Prelude.{◌≡◌, ℕ, zero, suc, ℤ, List, [], ◌++◌, length, codes, Option, Some, None}
use Rattle.std.specs.Fmt.{decimal, signed_decimal}
use Rattle.std.specs.List.{flat_map}
use Rattle.fr_base.specs.Lists.{last_of}
use Rattle.fr_base.specs.declared.message.Kind.{Kind}
use Rattle.fr_base.specs.declared.message.Kind.TheVariants as kind
use Rattle.fr_base.specs.declared.step.Ending.{Ending}
use Rattle.fr_base.specs.declared.step.Ending.TheVariants as ending
use Rattle.fr_base.specs.declared.step.Wait.{Wait}
use Rattle.fr_base.specs.declared.step.Wait.TheVariants as wait
use Rattle.journal.specs.View.{EntryView}
use Rattle.journal.specs.Journals.{order, prints}
use Rattle.journal.specs.OrderText.{thread_text, mutex_text}
use Rattle.journal.specs.WrittenOrder.{IsOrderText}
use Rattle.coloured_heap.specs.Figures.{steps, events, issues, renewals, hits, evictions, kinds}
use Rattle.coloured_heap.specs.Sends.{count, messages}

-- a name, a space and a number
abbrev pub number_line : List ℕ → ℕ → List ℕ
number_line name n = name ++ codes " " ++ decimal n ++ codes "\n"

-- ENDING, PRINTS AND WAITS

abbrev pub ending_text : Ending → List ℕ
ending_text ending.Finished = codes "finished"
ending_text ending.Deadlocked = codes "deadlocked"
ending_text ending.Unfinished = codes "unfinished"

abbrev pub ended_line : Ending → List ℕ
ended_line e = codes "ended " ++ ending_text e ++ codes "\n"

abbrev pub print_line : ℤ → List ℕ
print_line n = signed_decimal n ++ codes "\n"

abbrev pub print_lines : List ℤ → List ℕ
print_lines ns = flat_map print_line ns

-- the last print, or a hyphen
abbrev pub last_text : Option ℤ → List ℕ
last_text None = codes "-"
last_text (Some n) = signed_decimal n

abbrev pub last_line : List ℤ → List ℕ
last_line ns = codes "last " ++ last_text (last_of ns) ++ codes "\n"

-- what a thread waits for
abbrev pub wait_text : Wait → List ℕ
wait_text (wait.Lock m) = codes "lock " ++ mutex_text m
wait_text (wait.Join t) = codes "join " ++ thread_text t
wait_text (wait.Par t u) = codes "par " ++ thread_text t ++ codes " " ++ thread_text u

abbrev pub wait_line : ℕ × Wait → List ℕ
wait_line w = thread_text w.0 ++ codes " " ++ wait_text w.1 ++ codes "\n"

abbrev pub wait_lines : List (ℕ × Wait) → List ℕ
wait_lines ws = flat_map wait_line ws

-- how many threads wait, and a line for each; of a run that is deadlocked alone
abbrev pub waits_lines : Ending → List (ℕ × Wait) → List ℕ
waits_lines ending.Deadlocked ws = number_line (codes "waits") (length ws) ++ wait_lines ws
waits_lines e ws = []

-- FIGURES

abbrev pub kind_text : Kind → List ℕ
kind_text kind.Fetch = codes "fetch"
kind_text kind.Fetched = codes "fetched"
kind_text kind.Move = codes "move"
kind_text kind.Moved = codes "moved"
kind_text kind.Drop = codes "drop"
kind_text kind.Lock = codes "lock"
kind_text kind.Granted = codes "granted"
kind_text kind.Unlock = codes "unlock"
kind_text kind.Dup = codes "dup"
kind_text kind.Dupped = codes "dupped"
kind_text kind.Release = codes "release"
kind_text kind.Start = codes "start"
kind_text kind.Join = codes "join"
kind_text kind.Joined = codes "joined"
kind_text kind.Finished = codes "finished"
kind_text kind.Migrate = codes "migrate"

-- a kind of which there is no message has no line
abbrev pub kind_line : Kind → ℕ → List ℕ
kind_line k zero = []
kind_line k (suc n) = number_line (kind_text k) (suc n)

-- a line for each of these kinds of which there are messages
abbrev pub kind_lines : List EntryView → List Kind → List ℕ
kind_lines es ks = flat_map (λ k. kind_line k (count es k)) ks

-- the counts of the journal: its plain steps, its entries, the acts of some kinds and the messages
abbrev pub count_lines : List EntryView → List ℕ
count_lines es =
    number_line (codes "steps") (steps es) ++ number_line (codes "events") (events es) ++ number_line (codes "issued") (issues es)
    ++ number_line (codes "renewed") (renewals es) ++ number_line (codes "hits") (hits es) ++ number_line (codes "evictions") (evictions es)
    ++ number_line (codes "messages") (messages es)

-- and behind them the messages of each kind, by the kinds' numbers
abbrev pub figure_lines : List EntryView → List ℕ
figure_lines es = count_lines es ++ kind_lines es kinds

-- WHOLE TEXTS

-- a report with this text of so many lines as its order
abbrev pub report : Ending → List EntryView → List (ℕ × Wait) → ℕ → List ℕ → List ℕ
report e es ws lines written =
    ended_line e ++ number_line (codes "prints") (length (prints es)) ++ print_lines (prints es)
    ++ (number_line (codes "order") lines ++ written) ++ figure_lines es ++ waits_lines e ws

-- the bytes are the report of a run that ended so, with this journal and these waits: its order is the one text that is written for
-- the journal's order
pub record IsReport (e : Ending) (es : List EntryView) (ws : List (ℕ × Wait)) (bytes : List ℕ) : Type 0 where
  pub written : List ℕ
  pub spells : IsOrderText (order es) written
  pub text : bytes ≡ report e es ws (length spells.lines) written

-- the report without its order and its printed numbers, but with the last of these
abbrev pub summary : Ending → List EntryView → List (ℕ × Wait) → List ℕ
summary e es ws =
    ended_line e ++ number_line (codes "prints") (length (prints es)) ++ last_line (prints es) ++ figure_lines es ++ waits_lines e ws
