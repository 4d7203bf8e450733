-- Which event a server does next (this project's rule): the eviction that is due, and else one drawn from the messages that wait there
-- and the threads that can step there.
use Rattle.std.specs.Prelude.{if◌then◌else◌, ℕ, zero, suc, ◌+◌, ◌-◌, ◌%◌, nat_lt, List, [], length, Option, Some, None, slice_get, option_map}
use Rattle.rand_pcg.specs.Lcg.{Lcg, started, increment_of}
use Rattle.rand_pcg.specs.Pcg.{multiplier_64, pcg32}
use Rattle.fr_base.specs.declared.settings.Options.{Options}
use Rattle.server_model.specs.declared.event.What.{What}
use Rattle.server_model.specs.declared.event.What.TheVariants.{Step, Deliver, Evict}
use Rattle.server_model.specs.Servers.{Server}
use Rattle.server_model.specs.Questions.{due, runnable}

-- the generator of a server at the start: PCG's Lcg64Xsh32 with the run's choice as its state and the server as its stream
abbrev pub generator_of : (choice server : ℕ) → Lcg
generator_of choice server = started 64 multiplier_64 choice (increment_of 64 server)

-- how many events there are to draw from: each message that waits, then a step of each thread that can
abbrev pub candidates : Server → ℕ
candidates s = length s.rest.inbox + length (runnable s)

-- the candidate at that place, from 0
abbrev pub candidate : Server → ℕ → Option What
candidate s i = if nat_lt i (length s.rest.inbox) then Some (Deliver i) else option_map (λ t. Step t) (slice_get (runnable s) (i - length s.rest.inbox))

-- an event, and the generator after it was drawn
pub record Drawn : Type 0 where
  pub what : What
  pub generator : Lcg

abbrev pub drawn_from : Server → ℕ × Lcg → ℕ → Option Drawn
drawn_from s word zero = None
drawn_from s word (suc n) = option_map (λ w. record { what = w; generator = word.1 }) (candidate s (word.0 % suc n))

-- one word of the generator, modulo the number of candidates, is the place of the event; no word is drawn where there is no candidate
abbrev pub drawn : Server → Lcg → Option Drawn
drawn s g = drawn_from s (pcg32 g) (candidates s)

abbrev pub due_or_drawn : Option ℕ → Server → Lcg → Option Drawn
due_or_drawn (Some w) s g = Some (record { what = Evict w; generator = g })
due_or_drawn None s g = drawn s g

-- the next event of a server, where it has one; an eviction that is due draws no word
abbrev pub next : Options → Server → Lcg → Option Drawn
next o s g = due_or_drawn (due o s) s g
