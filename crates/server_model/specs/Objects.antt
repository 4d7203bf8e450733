-- Messages about objects: copies served and filled, objects that leave and come, blocks that are freed (in the manner of DRust; the
-- words and their order are this project's rules). Each function is what the delivery of one message does; None where that can't
-- be done.
use Rattle.std.specs.Prelude.{ℕ, zero, suc, ◌+◌, ◌-◌, ◌==◌, Bool, false, if◌then◌else◌, List, Option, Some, None, slice_get, option_map}
use Rattle.fr_base.specs.declared.name.ObjNo.{ObjNo}
use Rattle.fr_base.specs.declared.place.Lval.{Lval}
use Rattle.fr_base.specs.declared.instruction.Instr.{Instr}
use Rattle.place_walk.specs.Below.heap_partition.declared.value.Cell.{Cell}
use Rattle.owner_box.specs.Partition.{freed}
use Rattle.place_walk.specs.Below.read_cache.Cache.{can_fill, fill}
use Rattle.place_walk.specs.Below.thread_state.declared.phase.Phase.{Phase}
use Rattle.place_walk.specs.Below.thread_state.declared.phase.Phase.TheVariants as phase
use Rattle.place_walk.specs.Below.thread_state.declared.value.Value.{Value}
use Rattle.place_walk.specs.Below.thread_state.declared.value.Value.TheVariants as value
use Rattle.server_msgs.specs.declared.message.Message.TheVariants as message
use Rattle.journal.specs.declared.act.Act.TheVariants as act
use Rattle.server_model.specs.Work.{Work, Hand, send, note, with_partition, with_cache, look_object, working, with_phase, then_some, use_word}
use Rattle.server_model.specs.NewWords.{issue_placed}
use Rattle.server_model.specs.Places.{Spot, in_slot, value_at, set_pointer}
use Rattle.server_model.specs.Prepare.{Access, ReadTo, ReadPointer, WriteTo, LendTo, EndRef, Prepared, ready, access_of, passing, write_stars}
use Rattle.server_model.specs.Drop.{give_up}

-- COPIES

-- a copy of the cell goes to the server that asked
abbrev pub deliver_fetch : ℕ → ObjNo → ℕ → ℕ → Work → Option Work
deliver_fetch w o s t x = option_map (λ c. send s (message.Fetched w c t) (note (act.Serve o w s) x)) (look_object x.rest.partition w o)

-- it waits for that word
abbrev pub waits_for_cell : Phase → ℕ → Bool
waits_for_cell (phase.WaitCell x) w = x == w
waits_for_cell p w = false

-- the copy is there, and the thread uses it
abbrev pub filled : ℕ → Cell → Hand → Option Hand
filled w c h = if can_fill h.work.rest.cache w c then use_word w (working (with_cache (fill h.work.rest.cache w c)) h) else None

-- the copy comes to the cache, and the thread that waits for it uses it until its step is done
abbrev pub deliver_fetched : ℕ → Cell → Hand → Option Hand
deliver_fetched w c h =
    if waits_for_cell h.thread.phase w then option_map (λ h2. with_phase phase.Got (working (note (act.Fill c.object w)) h2)) (filled w c h) else None

-- OBJECTS THAT MOVE

-- the object leaves, and its address is freed
abbrev pub deliver_move : ℕ → ObjNo → ℕ → ℕ → Work → Option Work
deliver_move w o s t x = option_map (λ c. send s (message.Moved w c t) (note (act.Give o w s) (with_partition (freed x.rest.partition w) x))) (look_object x.rest.partition w o)

-- where references to slots lead from a slot, at most so many of them
abbrev pub chased_from : (ℕ → ℕ) → ℕ → Option Value → ℕ
chased_from go i (Some (value.SharedSlot j)) = go j
chased_from go i (Some (value.MutSlot j)) = go j
chased_from go i v = i

abbrev pub chased : ℕ → List Value → ℕ → ℕ
chased zero slots i = i
chased (suc d) slots i = chased_from (chased d slots) i (slice_get slots i)

-- it is a mutable reference with that word
abbrev pub waits_under : ℕ → Option Value → Bool
waits_under old (Some (value.Mut r)) = r.word == old
waits_under old v = false

-- the pointer at a spot gets the new word
abbrev pub arrived_at : Spot → ℕ → Hand → Option Hand
arrived_at s new h = option_map (with_phase phase.Got) (set_pointer s new h)

-- a mutable reference in a slot gets it, where it has the old word
abbrev pub arrived_slot : ℕ → ℕ → ℕ → Hand → Option Hand
arrived_slot old new i h = if waits_under old (slice_get h.thread.slots i) then arrived_at (in_slot i) new h else None

-- a read waits for the object of a mutable reference alone, and each of these stands in a slot to which references to slots lead
abbrev pub arrived_read : Lval → ℕ → ℕ → Hand → Option Hand
arrived_read w old new h = arrived_slot old new (chased (w.depth - 1) h.thread.slots w.slot) h

-- where the hops of a write lead that are ready; what following them does isn't kept
abbrev pub passed_spot : Prepared → Option Spot
passed_spot (ready h s) = Some s
passed_spot p = None

-- a write waits for the object of its first hop that isn't ready, and from then on that hop is
abbrev pub arrived_write : Lval → ℕ → Hand → Option Hand
arrived_write w new h = then_some (passed_spot (write_stars h.thread.passed 0 h (in_slot w.slot))) (λ s. arrived_at s new (passing (h.thread.passed + 1) h))

-- for the pointer of a mutable borrow nothing is put: its holder isn't changed, and the word stands in the thread's phase; a mutable
-- reference on the way to it may be waited for as in a read
abbrev pub arrived_lend : ℕ → ℕ → ℕ → ℕ → Hand → Option Hand
arrived_lend slot zero old new h = None
arrived_lend slot (suc zero) old new h = Some (with_phase (phase.Taken new) h)
arrived_lend slot (suc (suc d)) old new h =
    if waits_under old (slice_get h.thread.slots (chased d h.thread.slots slot)) then arrived_at (in_slot (chased d h.thread.slots slot)) new h else Some (with_phase (phase.Taken new) h)

-- a mutable reference that ends waits for its own object exactly where it has the old word, else for one of its holder's place
abbrev pub arrived_end : Spot → Option Value → ℕ → ℕ → Hand → Option Hand
arrived_end s (Some (value.Mut r)) old new h = if r.word == old then arrived_at s new h else arrived_write r.holder new h
arrived_end s v old new h = None

-- the new word is put where the pointer stands that the thread waits at
abbrev pub arrived : Option Access → ℕ → ℕ → Hand → Option Hand
arrived None old new h = None
arrived (Some (ReadTo w)) old new h = arrived_read w old new h
arrived (Some (ReadPointer w)) old new h = arrived_read w old new h
arrived (Some (WriteTo w)) old new h = arrived_write w new h
arrived (Some (LendTo w)) old new h = arrived_lend w.slot w.depth old new h
arrived (Some (EndRef s)) old new h = arrived_end s (value_at h s) old new h

-- what the thread's instruction needs of its place
abbrev pub instr_access : Hand → Option Instr → Option Access
instr_access h None = None
instr_access h (Some i) = access_of i h.thread

-- the object lies here, and its pointer gets the new word
abbrev pub came : List Instr → ℕ → Cell → Hand → Option Hand
came code old c h =
    then_some (issue_placed (act.Take c.object old) c h.work) (λ n. arrived (instr_access h (slice_get code h.thread.pc)) old n.word (record h { work = n.work }))

-- the object comes here, under a new word, to the thread that waits for it
abbrev pub deliver_moved : List Instr → ℕ → Cell → Hand → Option Hand
deliver_moved code old c h = if waits_for_cell h.thread.phase old then came code old c h else None

-- OBJECTS THAT GO

-- the block is freed, and what it held is dropped in the same way
abbrev pub deliver_drop : ℕ → ObjNo → Work → Option Work
deliver_drop w o x = option_map (λ c. give_up c.value (note (act.Free o w) (with_partition (freed x.rest.partition w) x))) (look_object x.rest.partition w o)
