-- HOW MUCH AN EVENT SENDS (this project's rules): at most two messages to other servers.
use Rattle.std.specs.Prelude.{◌≡◌, ◌≤◌, ◌==◌, ℕ, false, List, ◌++◌, length}
use Rattle.std.specs.List.{AllByRecursion}
use Rattle.law_counts_things.specs.Below.fr_base.declared.instruction.Instr.{Instr}
use Rattle.law_counts_things.specs.Below.fr_base.declared.settings.Options.{Options}
use Rattle.law_counts_things.specs.Below.journal.View.{EntryView}
use Rattle.law_counts_things.specs.Below.server_model.declared.event.What.{What}
use Rattle.law_counts_things.specs.Below.server_model.Servers.{Sent, Rest, Server}
use Rattle.law_counts_things.specs.Below.server_model.Events.{does}
use Rattle.law_counts_things.specs.Below.law_counts_sums.Laws.{Gives}

-- a server after an event: its number, and its outbox, into which at most so many messages came last, none of them to the server itself
pub record AddsFew (most : ℕ) (r : Rest) (number : ℕ) (outbox : List Sent) : Type 0 where
  pub same : number ≡ r.number
  pub more : List Sent
  pub all : outbox ≡ r.outbox ++ more
  pub few : length more ≤ most
  pub others : AllByRecursion (λ (x : Sent). (x.target == r.number) ≡ false) more

-- since that rest
abbrev pub SendsFew : ℕ → Rest → Rest → Type 0
SendsFew most r r2 = AddsFew most r r2.number r2.outbox

-- each event of each server
abbrev pub EventsSendFew : Type 0
EventsSendFew = (code : List Instr) (o : Options) (s : Server) (w : What) → Gives (λ (d : Server × EntryView). SendsFew 2 s.rest d.0.rest) (does code o s w)
