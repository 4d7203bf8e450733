-- What the words of a command line ask for (this project's rule): the first is the command, behind it stand its options.
use Rattle.std.specs.Prelude.{ℕ, ◌==◌, List, [], ◌∷◌, Option, Some, None, if◌then◌else◌, codes}
use Rattle.std.specs.Str.{bytes_eq}
use Rattle.fr_base.specs.declared.settings.Options.{Options}
use Rattle.drust_cli.specs.declared.asked.Asked.{Asked}
use Rattle.drust_cli.specs.declared.asked.Command.{Command}
use Rattle.drust_cli.specs.declared.asked.Command.TheVariants as command
use Rattle.drust_cli.specs.Numbers.{number_of}
use Rattle.drust_cli.specs.Reading.{Given, Text, read, value_of}

infixl 10 ◌>>=◌
abbrev pub ◌>>=◌ : {A B : Type 0} → Option A → (A → Option B) → Option B
None >>= f = None
(Some x) >>= f = f x

-- the first word names the command
abbrev pub command_of : Text → Option Command
command_of word =
    if bytes_eq word (codes "run") then Some command.Run
    else (if bytes_eq word (codes "replay") then Some command.Replay
    else (if bytes_eq word (codes "gen") then Some command.Gen
    else (if bytes_eq word (codes "load") then Some command.Load else None)))

-- the options that a command has
abbrev pub names_of : Command → List Text
names_of command.Run = codes "servers" ∷ codes "workers" ∷ codes "colours" ∷ codes "cache" ∷ codes "quantum" ∷ codes "turns" ∷ codes "balance" ∷ codes "choice" ∷ codes "trace" ∷ []
names_of command.Replay = []
names_of command.Gen = codes "number" ∷ codes "size" ∷ []
names_of command.Load = codes "servers" ∷ codes "workers" ∷ codes "colours" ∷ codes "cache" ∷ codes "quantum" ∷ codes "turns" ∷ codes "balance" ∷ codes "choice" ∷ codes "number" ∷ codes "size" ∷ []

-- the number of an option from low to high, or its default where it isn't given
abbrev pub number_or : Option Text → ℕ → ℕ → ℕ → Option ℕ
number_or None low high default = Some default
number_or (Some text) low high default = number_of text low high

-- what the options are told by: the text of each name's value, where it is given
abbrev pub Values : Type 0
Values = Text → Option Text

-- servers, workers, colours, and the copies that a server keeps
unfoldable pub machine_of : Values → Option (ℕ × ℕ × ℕ × ℕ)
machine_of values = do
  servers ← number_or (values (codes "servers")) 1 64 1
  workers ← number_or (values (codes "workers")) 1 64 1
  colours ← number_or (values (codes "colours")) 1 65536 65536
  cache ← number_or (values (codes "cache")) 0 65536 64
  Some (servers, workers, colours, cache)

-- how many events a server does in a turn, how many a run has at most, and after how many rounds threads are moved
unfoldable pub pace_of : Values → Option (ℕ × ℕ × ℕ)
pace_of values = do
  quantum ← number_or (values (codes "quantum")) 1 1024 16
  turns ← number_or (values (codes "turns")) 1 1000000000 1000000
  balance ← number_or (values (codes "balance")) 0 1000000 0
  Some (quantum, turns, balance)

unfoldable pub options_of : Values → Option Options
options_of values = do
  machine ← machine_of values
  pace ← pace_of values
  choice ← number_or (values (codes "choice")) 0 18446744073709551615 0
  trace ← number_or (values (codes "trace")) 0 1 0
  Some (record {
    servers = machine.0;
    workers = machine.1;
    colours = machine.2;
    cache = machine.3;
    quantum = pace.0;
    turns = pace.1;
    balance = pace.2;
    choice = choice;
    trace = trace == 1;
  })

unfoldable pub asked_with : Command → Values → Option Asked
asked_with command values = do
  options ← options_of values
  number ← number_or (values (codes "number")) 0 18446744073709551615 0
  size ← number_or (values (codes "size")) 1 4000 1
  Some (record { command = command; options = options; number = number; size = size })

abbrev pub with_given : Command → Option Given → Option Asked
with_given command None = None
with_given command (Some given) = asked_with command (λ name. value_of name given)

-- what a command and the words behind it ask for
abbrev pub asked_behind : Command → List Text → Option Asked
asked_behind command words = with_given command (read (names_of command) None words [])

abbrev pub by_command : Option Command → List Text → Option Asked
by_command None words = None
by_command (Some command) words = asked_behind command words

-- what the words ask for, if anything
abbrev pub asked : List Text → Option Asked
asked [] = None
asked (word ∷ rest) = by_command (command_of word) rest
