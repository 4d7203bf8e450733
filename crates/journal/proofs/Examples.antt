-- Some texts: the orders that they are, and where they are refused.
use Rattle.std.proofs.Common.{◌≡◌, ◌≢◌, ℕ, ◌+◌, ◌*◌, ◌^◌, List, [], ◌∷◌, refl, arith, codes}
use Rattle.std.specs.Prelude.{None}
use Rattle.std.specs.Fmt.{digits}
use Rattle.fr_base.specs.declared.step.Fresh.{Fresh}
use Rattle.fr_base.specs.declared.step.Fresh.TheVariants as fresh
use Rattle.journal.specs.declared.order.OrderLine.{OrderLine}
use Rattle.journal.specs.OrderText.{IsOrder, IsRefused, steps_of}
use Rattle.journal.specs.OrderReading.{number_at, behind, name_at, thread_at, numbered_at, one_thread_at, steps_at, line_at}
use Rattle.journal.proofs.OrderLemmas.{Leads-start, stops_refused}

-- a line at that place
abbrev line : ℕ → ℕ → ℕ → Fresh → OrderLine
line place thread steps names = record { place = place; thread = thread; steps = steps; fresh = names }

-- no bytes are an order of no lines
empty_order : IsOrder 0 [] []
empty_order = Leads-start 0 []

-- 0.0 1
one_step : IsOrder 0 (codes "0.0 1\n") (line 0 0 1 fresh.None ∷ [])
unfolding digits
one_step = record { lines = ((omega arith, (omega arith, omega arith)), tt); places = (refl, tt); text = refl }

-- 0.0 thread 0.1, and 0.0 1
two_lines : IsOrder 0 (codes "0.0 thread 0.1\n0.0 1\n") (line 0 0 1 (fresh.Thread 1) ∷ line 15 0 1 fresh.None ∷ [])
unfolding digits
two_lines = record {
  lines = ((omega arith, (refl, omega arith)), ((omega arith, (omega arith, omega arith)), tt));
  places = (refl, (refl, tt));
  text = refl;
}

-- the last thread that there can be starts two
last_thread : IsOrder 0 (codes "255.4294967295 threads 0.1 0.2\n") (line 0 (255 * 2 ^ 32 + 4294967295) 1 (fresh.Threads 1 2) ∷ [])
unfolding digits
last_thread = record { lines = ((omega arith, (refl, omega arith, omega arith)), tt); places = (refl, tt); text = refl }

-- what two lines spell
two_spelled : steps_of (line 0 0 2 fresh.None ∷ line 6 3 1 (fresh.Thread 4) ∷ []) ≡ (0, fresh.None) ∷ (0, fresh.None) ∷ (3, fresh.Thread 4) ∷ []
two_spelled = refl

-- bytes of which no line is read
refused_at : (bytes : List ℕ) → bytes ≢ [] → line_at 0 bytes ≡ None → IsRefused 0 bytes 0
refused_at bytes some e = stops_refused 0 bytes [] bytes 0 (Leads-start 0 bytes) refl some e

-- no steps
zero_steps : IsRefused 0 (codes "0.0 0\n") 0
unfolding line_at thread_at name_at number_at behind steps_at numbered_at one_thread_at
zero_steps = refused_at (codes "0.0 0\n") (λ e. absurd cc) refl

-- a zero in front
zero_in_front : IsRefused 0 (codes "0.0 01\n") 0
unfolding line_at thread_at name_at number_at behind steps_at numbered_at one_thread_at
zero_in_front = refused_at (codes "0.0 01\n") (λ e. absurd cc) refl

-- two spaces
two_spaces : IsRefused 0 (codes "0.0  1\n") 0
unfolding line_at thread_at name_at number_at behind steps_at numbered_at one_thread_at
two_spaces = refused_at (codes "0.0  1\n") (λ e. absurd cc) refl

-- no newline
no_newline : IsRefused 0 (codes "0.0 1") 0
unfolding line_at thread_at name_at number_at behind steps_at numbered_at one_thread_at
no_newline = refused_at (codes "0.0 1") (λ e. absurd cc) refl

-- no such server
server_256 : IsRefused 0 (codes "256.0 1\n") 0
unfolding line_at thread_at name_at number_at behind steps_at numbered_at one_thread_at
server_256 = refused_at (codes "256.0 1\n") (λ e. absurd cc) refl

-- no such count
large_count : IsRefused 0 (codes "0.4294967296 1\n") 0
unfolding line_at thread_at name_at number_at behind steps_at numbered_at one_thread_at
large_count = refused_at (codes "0.4294967296 1\n") (λ e. absurd cc) refl

-- too many steps
many_steps : IsRefused 0 (codes "0.0 1000000001\n") 0
unfolding line_at thread_at name_at number_at behind steps_at numbered_at one_thread_at
many_steps = refused_at (codes "0.0 1000000001\n") (λ e. absurd cc) refl

-- a zero in front of a server
server_00 : IsRefused 0 (codes "00.0 1\n") 0
unfolding line_at thread_at name_at number_at behind steps_at numbered_at one_thread_at
server_00 = refused_at (codes "00.0 1\n") (λ e. absurd cc) refl

-- no name
no_name : IsRefused 0 (codes "0.0 thread\n") 0
unfolding line_at thread_at name_at number_at behind steps_at numbered_at one_thread_at
no_name = refused_at (codes "0.0 thread\n") (λ e. absurd cc) refl

-- a sign
a_sign : IsRefused 0 (codes "-1.0 1\n") 0
unfolding line_at thread_at name_at number_at behind steps_at numbered_at one_thread_at
a_sign = refused_at (codes "-1.0 1\n") (λ e. absurd cc) refl

-- a space at the end
space_behind : IsRefused 0 (codes "0.0 1 \n") 0
unfolding line_at thread_at name_at number_at behind steps_at numbered_at one_thread_at
space_behind = refused_at (codes "0.0 1 \n") (λ e. absurd cc) refl

-- no parts
no_parts : IsRefused 0 (codes "\n") 0
unfolding line_at thread_at name_at number_at behind steps_at numbered_at one_thread_at
no_parts = refused_at (codes "\n") (λ e. absurd cc) refl

-- a return
a_return : IsRefused 0 (codes "0.0 1\r\n") 0
unfolding line_at thread_at name_at number_at behind steps_at numbered_at one_thread_at
a_return = refused_at (codes "0.0 1\r\n") (λ e. absurd cc) refl

-- the second line is refused at its own place
second_line : IsRefused 0 (codes "0.0 1\n0.0 0\n") 6
unfolding digits line_at thread_at name_at number_at behind steps_at numbered_at
second_line = stops_refused 0 (codes "0.0 1\n0.0 0\n") (line 0 0 1 fresh.None ∷ []) (codes "0.0 0\n") 6
    (record { lines = ((omega arith, (omega arith, omega arith)), tt); places = (refl, tt); text = refl }) refl (λ e. absurd cc) refl
