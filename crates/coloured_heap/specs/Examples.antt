-- What the definitions say of the journals of whole runs.
use Rattle.std.specs.Prelude.{◌≡◌, ℕ, true, false, List, [], ◌∷◌, length, Option, Some, None, option_map}
use Rattle.fr_base.specs.declared.settings.Options.{Options}
use Rattle.journal.specs.View.{EntryView}
use Rattle.coloured_heap.specs.Legal.{journal_after, first_illegal}
use Rattle.coloured_heap.specs.Sends.{all_messages}
use Rattle.coloured_heap.specs.Reach.{is_all_reached}
use Rattle.coloured_heap.specs.Driven.{is_driven, is_driven_live, no_moves}
use Rattle.coloured_heap.specs.Figures.{Figures, figures, by_kind, deliveries}
use Rattle.coloured_heap.specs.Writing.{options}
use Rattle.coloured_heap.specs.WholeRuns.{boxed, not_tinted, nothing, renewed, read_far, written_far, read_by_two, moved_about, evicted, locked_twice, let_go_early, shared}

abbrev figured : (steps events issued renewed hits evictions messages : ℕ) → Figures
figured steps events issued renewed hits evictions messages = record { steps = steps; events = events; issued = issued; renewed = renewed; hits = hits; evictions = evictions; messages = messages }

-- how many objects are live after a journal
abbrev pub live : Options → List EntryView → Option ℕ
live o es = option_map (λ s. length s.living) (journal_after o es)

-- the journal of a run is legal and driven, and reaches what it loads and stores; these are its figures and its messages by kind; each
-- message was delivered, and no object is left
pub record Runs (o : Options) (es : List EntryView) (f : Figures) (messages : List ℕ) : Type 0 where
  pub legal : first_illegal o es ≡ None
  pub reached : is_all_reached o es ≡ true
  pub driven : is_driven o es ≡ true
  pub figures : figures es ≡ f
  pub kinds : by_kind es ≡ messages
  pub delivered : all_messages es ≡ deliveries es
  pub none_left : live o es ≡ Some 0

abbrev none : List ℕ
none = 0 ∷ 0 ∷ 0 ∷ 0 ∷ 0 ∷ 0 ∷ 0 ∷ 0 ∷ 0 ∷ 0 ∷ 0 ∷ 0 ∷ 0 ∷ 0 ∷ 0 ∷ 0 ∷ []

-- the kinds: fetch, fetched, move, moved, drop; lock, granted, unlock, dup, dupped, release; start, join, joined, finished, migrate
pub record JournalsCompute : Type 0 where
  -- at one colour fewer an object's last colour comes sooner
  pub too_few_colours : first_illegal (options 1 1 64) renewed ≡ Some 2
  pub too_few_servers : first_illegal (options 1 65536 64) read_far ≡ Some 2
  -- a run whose threads don't move is one of servers beside each other too
  pub live : is_driven_live (options 2 65536 64) written_far ≡ true
  pub moves : no_moves moved_about ≡ false
  pub boxed : Runs (options 1 65536 64) boxed (figured 7 8 2 0 0 0 0) none
  pub not_tinted : first_illegal (options 1 65536 64) not_tinted ≡ Some 2
  pub nothing : Runs (options 1 65536 64) nothing (figured 1 1 0 0 0 0 0) none
  pub renewed : Runs (options 1 2 64) renewed (figured 11 12 6 2 0 0 0) none
  pub read_far : Runs (options 2 65536 64) read_far (figured 15 24 1 0 2 0 5) (1 ∷ 1 ∷ 0 ∷ 0 ∷ 1 ∷ 0 ∷ 0 ∷ 0 ∷ 0 ∷ 0 ∷ 0 ∷ 1 ∷ 0 ∷ 0 ∷ 1 ∷ 0 ∷ [])
  pub written_far : Runs (options 2 65536 64) written_far (figured 17 29 2 0 1 0 7) (1 ∷ 1 ∷ 1 ∷ 1 ∷ 1 ∷ 0 ∷ 0 ∷ 0 ∷ 0 ∷ 0 ∷ 0 ∷ 1 ∷ 0 ∷ 0 ∷ 1 ∷ 0 ∷ [])
  pub read_by_two : Runs (options 3 65536 64) read_by_two (figured 31 49 2 0 3 0 12) (3 ∷ 3 ∷ 0 ∷ 0 ∷ 0 ∷ 0 ∷ 0 ∷ 0 ∷ 0 ∷ 0 ∷ 0 ∷ 3 ∷ 0 ∷ 0 ∷ 3 ∷ 0 ∷ [])
  pub moved_about : Runs (options 2 65536 64) moved_about (figured 15 28 3 0 3 0 8) (2 ∷ 2 ∷ 0 ∷ 0 ∷ 1 ∷ 0 ∷ 0 ∷ 0 ∷ 0 ∷ 0 ∷ 0 ∷ 0 ∷ 0 ∷ 0 ∷ 0 ∷ 3 ∷ [])
  pub evicted : Runs (options 2 65536 1) evicted (figured 27 40 2 0 4 1 6) (2 ∷ 2 ∷ 0 ∷ 0 ∷ 0 ∷ 0 ∷ 0 ∷ 0 ∷ 0 ∷ 0 ∷ 0 ∷ 1 ∷ 0 ∷ 0 ∷ 1 ∷ 0 ∷ [])
  pub locked_twice : Runs (options 1 65536 64) locked_twice (figured 3 8 0 0 0 0 0) none
  pub let_go_early : Runs (options 2 65536 64) let_go_early (figured 15 29 2 0 0 0 9) (0 ∷ 0 ∷ 1 ∷ 1 ∷ 1 ∷ 1 ∷ 1 ∷ 1 ∷ 0 ∷ 0 ∷ 1 ∷ 1 ∷ 0 ∷ 0 ∷ 1 ∷ 0 ∷ [])
  pub shared : Runs (options 1 65536 64) shared (figured 8 13 0 0 0 0 0) none
