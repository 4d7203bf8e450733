-- What some runs show in full: the acts of each event, the labels, which threads have moved, and the users of copies.
use Rattle.std.specs.Prelude.{◌≡◌, ℕ, ◌+◌, ◌*◌, ◌^◌, pos, true, false, List, [], ◌∷◌, ◌++◌, Some}
use Rattle.fr_base.specs.declared.label.Label.TheVariants as label
use Rattle.fr_base.specs.declared.label.Plain.{Plain}
use Rattle.fr_base.specs.declared.label.Plain.TheVariants as plain
use Rattle.fr_base.specs.declared.name.MutexNo.{MutexNo}
use Rattle.fr_base.specs.declared.name.ObjNo.{ObjNo}
use Rattle.journal.specs.declared.act.Act.TheVariants.{Make, Local, Hit, Ask, Serve, Fill, Tint, Condemn, Free, Depart, Start, AskJoin}
use Rattle.server_model.specs.declared.event.Event.{Event}
use Rattle.server_model.specs.Figures.{idle, run, figures_in, labels_of, acts_of, moved_flags, cached_users, steps_of, deliver, first_goes_on}
use Rattle.server_model.specs.Rows.{begins_and_asks, moving, locking_elsewhere, unlocked}
use Rattle.server_model.specs.Trials.{writes_and_goes, pinning}
use Rattle.server_model.specs.Programs.{with_servers, written_box, lent_box, lent_once, lent_inside, moved_out, locked_elsewhere, read_thrice, read_deep}

-- the objects that main makes
abbrev a : ObjNo
a = record { thread = 0; count = 0 }

abbrev b : ObjNo
b = record { thread = 0; count = 1 }

abbrev int : ℕ → Plain
int n = plain.Int (pos n)

abbrev m : MutexNo
m = record { home = 0; count = 1 }

-- the word of that colour at an address of server 0
abbrev word : (colour address : ℕ) → ℕ
word colour address = colour * 2 ^ 48 + address

-- thread 1 at server 1 has read the first of two boxes, and then both
abbrev deep_once : List Event
deep_once = steps_of 0 0 7 ++ deliver 0 0 ++ begins_and_asks ++ steps_of 1 1 1

abbrev deep_twice : List Event
deep_twice = deep_once ++ deliver 0 0 ++ deliver 1 0

pub record TracesCompute : Type 0 where
  -- the labels are those of the plain machine
  pub written : labels_of (run written_box (with_servers 1 65536) (steps_of 0 0 7))
      ≡ label.Make a (int 1) ∷ label.Store a (int 2) ∷ label.Load a (int 2) ∷ label.Print (pos 2) ∷ label.Drop a ∷ label.End 0 ∷ []
  pub inside : labels_of (first_goes_on (run lent_inside (with_servers 1 65536) []))
      ≡ label.Make a (int 1) ∷ label.Make b (plain.Box a) ∷ label.Load b (plain.Box a) ∷ label.Store a (int 2) ∷ label.Load b (plain.Box a) ∷ label.Load a (int 2) ∷ label.Print (pos 2)
      ∷ label.Load b (plain.Box a) ∷ label.Load a (int 2) ∷ label.Print (pos 2) ∷ label.Drop b ∷ label.End 0 ∷ []
  pub taken_out : labels_of (first_goes_on (run moved_out (with_servers 1 65536) []))
      ≡ label.Make a (int 1) ∷ label.Make b (plain.Box a) ∷ label.Load b (plain.Box a) ∷ label.Store b plain.Nothing ∷ label.Load a (int 1) ∷ label.Print (pos 1) ∷ label.Drop a ∷ label.Drop b ∷ label.End 0 ∷ []
  pub locked : labels_of (run locked_elsewhere (with_servers 2 65536) (locking_elsewhere ++ deliver 0 1 ++ deliver 0 0 ++ unlocked))
      ≡ label.Make a (int 7) ∷ label.Start 1 ∷ label.Lock m ∷ label.Store a (int 8) ∷ label.Unlock m ∷ label.End 1 ∷ label.End 0 ∷ []
  -- three words at one address
  pub in_turns : acts_of (run lent_box (with_servers 2 65536) moving)
      ≡ (Make a 0 ∷ []) ∷ [] ∷ [] ∷ [] ∷ (Local a 0 ∷ []) ∷ (Depart 0 1 ∷ []) ∷ []
      ∷ (Tint a 0 (word 1 0) ∷ Ask a (word 1 0) ∷ []) ∷ (Serve a (word 1 0) 1 ∷ []) ∷ (Fill a (word 1 0) ∷ []) ∷ (Hit a (word 1 0) ∷ []) ∷ []
      ∷ (Depart 0 0 ∷ []) ∷ [] ∷ (Local a (word 1 0) ∷ []) ∷ (Depart 0 1 ∷ []) ∷ []
      ∷ (Tint a (word 1 0) (word 2 0) ∷ Ask a (word 2 0) ∷ []) ∷ (Serve a (word 2 0) 1 ∷ []) ∷ (Fill a (word 2 0) ∷ []) ∷ (Hit a (word 2 0) ∷ []) ∷ []
      ∷ [] ∷ (Hit a (word 2 0) ∷ []) ∷ [] ∷ (Condemn a (word 2 0) ∷ []) ∷ [] ∷ (Free a (word 2 0) ∷ []) ∷ []
  -- the acts of a place in its order; a reference that ends is tinted first; what a freed block held is dropped after it
  pub in_order : acts_of (first_goes_on (run lent_inside (with_servers 1 65536) []))
      ≡ (Make a 0 ∷ []) ∷ (Make b 1 ∷ []) ∷ [] ∷ [] ∷ [] ∷ (Local b 1 ∷ []) ∷ [] ∷ (Local a 0 ∷ []) ∷ (Tint a 0 (word 1 0) ∷ Local b 1 ∷ [])
      ∷ (Local b 1 ∷ Local a (word 1 0) ∷ []) ∷ [] ∷ (Tint b 1 (word 1 1) ∷ []) ∷ (Local b (word 1 1) ∷ Local a (word 1 0) ∷ []) ∷ []
      ∷ (Condemn b (word 1 1) ∷ []) ∷ (Free b (word 1 1) ∷ Condemn a (word 1 0) ∷ []) ∷ (Free a (word 1 0) ∷ []) ∷ [] ∷ []
  -- an event that ends with a request lists no hop; the step lists all of them
  pub hops_once : acts_of (run read_deep (with_servers 2 65536) (deep_twice ++ steps_of 1 1 1))
      ≡ (Make a 0 ∷ []) ∷ (Make b 1 ∷ []) ∷ [] ∷ (Start 1 1 ∷ []) ∷ [] ∷ [] ∷ (AskJoin 1 ∷ []) ∷ [] ∷ [] ∷ (Ask b 1 ∷ []) ∷ (Serve b 1 1 ∷ []) ∷ (Fill b 1 ∷ [])
      ∷ (Ask a 0 ∷ []) ∷ (Serve a 0 1 ∷ []) ∷ (Fill a 0 ∷ []) ∷ (Hit b 1 ∷ Hit a 0 ∷ []) ∷ []
  pub deep : figures_in (first_goes_on (run read_deep (with_servers 2 65536) deep_twice))
      ≡ Some (record idle { steps = 14; events = 27; issued = 2; hits = 2; messages = 7; by_kind = (0, 2) ∷ (1, 2) ∷ (4, 1) ∷ (11, 1) ∷ (14, 1) ∷ []; prints = pos 1 ∷ [] })
  -- a step uses a word once, and until it is done
  pub used_once : cached_users (run read_deep (with_servers 2 65536) deep_once) ≡ (1, 1) ∷ []
  pub both_used : cached_users (run read_deep (with_servers 2 65536) deep_twice) ≡ (1, 1) ∷ (0, 1) ∷ []
  pub none_used : cached_users (run read_deep (with_servers 2 65536) (deep_twice ++ steps_of 1 1 1)) ≡ (1, 0) ∷ (0, 0) ∷ []
  -- a pinned reference uses its word until its thread goes
  pub pinned : cached_users (run read_thrice (with_servers 2 65536) pinning) ≡ (0, 1) ∷ []
  -- a thread has moved until its next step
  pub moved : moved_flags (run lent_once (with_servers 2 65536) writes_and_goes) ≡ true ∷ []
  pub stepped : moved_flags (run lent_once (with_servers 2 65536) (writes_and_goes ++ steps_of 1 0 1)) ≡ false ∷ []
