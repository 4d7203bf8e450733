-- When a thread is moved to even out the loads of servers (this project's rule).
use Rattle.std.specs.Prelude.{if◌then◌else◌, ℕ, ◌+◌, nat_lt, nat_le, Bool, List, [], ◌∷◌, Option, None, option_map}
use Rattle.server_model.specs.Servers.{Server}
use Rattle.server_model.specs.Questions.{active, movable}

pub record Load : Type 0 where
  pub threads : ℕ
  pub candidate : Option ℕ

-- the loads of servers, in their order
abbrev pub loads : List Server → List Load
loads [] = []
loads (s ∷ ss) = record { threads = active s; candidate = movable s } ∷ loads ss

-- a server with its load
pub record Loaded : Type 0 where
  pub server : ℕ
  pub load : Load

-- the first server that beats this one and all before it, where the loads from that server on are these
abbrev pub first_best : (beats : ℕ → ℕ → Bool) → Loaded → ℕ → List Load → Loaded
first_best beats best i [] = best
first_best beats best i (x ∷ xs) = first_best beats (if beats x.threads best.load.threads then record { server = i; load = x } else best) (i + 1) xs

-- a thread is to go from one server to another
pub record Shift : Type 0 where
  pub source : ℕ
  pub thread : ℕ
  pub target : ℕ

abbrev pub shift_between : Loaded → Loaded → Option Shift
shift_between most least =
    if nat_le (least.load.threads + 2) most.load.threads then option_map (λ t. record { source = most.server; thread = t; target = least.server }) most.load.candidate else None

-- server 0 with its load
abbrev pub at_zero : Load → Loaded
at_zero x = record { server = 0; load = x }

-- from the server with the greatest load to that with the least, the lowest numbers on ties, where the loads differ by at least two
-- and the first has a candidate
abbrev pub balance : List Load → Option Shift
balance [] = None
balance (x ∷ xs) = shift_between (first_best (λ a b. nat_lt b a) (at_zero x) 1 xs) (first_best (λ a b. nat_lt a b) (at_zero x) 1 xs)
