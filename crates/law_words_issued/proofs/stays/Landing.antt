-- The delivery of an object that comes: its server's partition takes it, and one pointer there gets its word.
use Rattle.std.proofs.Common.{◌≡◌, ℕ, zero, suc, ◌+◌, ◌-◌, ◌==◌, Bool, true, false, if◌then◌else◌, List, Option, Some, None}
use Rattle.std.specs.Prelude.{slice_get, option_map}
use Rattle.law_words_issued.specs.Below.fr_base.declared.name.ObjNo.{ObjNo}
use Rattle.law_words_issued.specs.Below.fr_base.declared.instruction.Instr.{Instr}
use Rattle.law_words_issued.specs.Below.fr_base.declared.place.Lval.{Lval}
use Rattle.law_words_issued.specs.Below.heap_partition.declared.value.Cell.{Cell}
use Rattle.law_words_issued.specs.Below.owner_box.View.{PartitionState}
use Rattle.law_words_issued.specs.Below.thread_state.View.{ThreadState}
use Rattle.law_words_issued.specs.Below.thread_state.declared.phase.Phase.TheVariants as phase
use Rattle.law_words_issued.specs.Below.thread_state.declared.value.Value.{Value}
use Rattle.law_words_issued.specs.Below.thread_state.declared.value.Value.TheVariants as value
use Rattle.law_words_issued.specs.Below.journal.declared.act.Act.TheVariants as act
use Rattle.law_words_issued.specs.Below.server_model.Servers.{Rest}
use Rattle.law_words_issued.specs.Below.server_model.Work.{Hand, Site, with_phase, then_some, put_back, thread_in, at_thread}
use Rattle.law_words_issued.specs.Below.server_model.NewWords.{NewWord, can_grow, issue_placed}
use Rattle.law_words_issued.specs.Below.server_model.Places.{Spot, in_slot, value_at, with_word, set_pointer}
use Rattle.law_words_issued.specs.Below.server_model.Prepare.{Access, ReadTo, ReadPointer, WriteTo, LendTo, EndRef, passing, write_stars}
use Rattle.law_words_issued.specs.Below.server_model.Objects.{waits_for_cell, chased, waits_under, arrived_at, arrived_slot, passed_spot, arrived_write, arrived_lend, arrived_end, arrived, instr_access, deliver_moved}
use Rattle.law_words_issued.specs.Below.law_counts_sums.Laws.{Gives}
use Rattle.law_words_issued.proofs.Below.law_counts_sums.Results.{then_gives, over_gives, bind_gives, test_gives}
use Rattle.law_words_issued.proofs.Below.law_counts_things.things.Goes.{puts_by}
use Rattle.law_words_issued.proofs.Below.law_heap_still.events.Addresses.{InPlace}
use Rattle.law_words_issued.proofs.stays.Places.{Comes, comes_made, comes_stored}

module _ (colours n : ℕ) (start : PartitionState) (o : ObjNo) where
  abbrev pub Landed : Rest → Type 0
  Landed r = (r.number ≡ n) × Comes colours n o start r.partition

  abbrev F : Rest → ThreadState → Type 0
  F r t = Landed r

  abbrev Good : Hand → Type 0
  Good h = Landed h.work.rest

  -- a pointer gets the word
  pointer : (s : Spot) (w : ℕ) (h : Hand) → Good h → Gives Good (set_pointer s w h)
  pointer s w h g =
      then_gives Good (value_at h s) _ (λ v q. then_gives Good (with_word w v) _ (λ new e.
      puts_by F (λ vs r t u. u) (λ vs r t u. u) (λ h2 x y u. (u.0, comes_stored colours n o start h2.work.rest.partition x y u.1)) s new h g))

  comes_at : (new : ℕ) (s : Spot) (h : Hand) → Good h → Gives Good (arrived_at s new h)
  comes_at new s h a = over_gives Good Good (set_pointer s new h) _ (pointer s new h a) (λ h2 b. b)

  comes_slot : (old new i : ℕ) (h : Hand) → Good h → Gives Good (arrived_slot old new i h)
  comes_slot old new i h a = test_gives Good (waits_under old (slice_get h.thread.slots i)) _ (λ z. comes_at new (in_slot i) h a)

  comes_write : (w : Lval) (new : ℕ) (h : Hand) → Good h → Gives Good (arrived_write w new h)
  comes_write w new h a = then_gives Good (passed_spot (write_stars h.thread.passed 0 h (in_slot w.slot))) _ (λ s q. comes_at new s (passing (h.thread.passed + 1) h) a)

  comes_lend : (slot d old new : ℕ) (h : Hand) → Good h → Gives Good (arrived_lend slot d old new h)
  comes_lend slot zero old new h a = tt
  comes_lend slot (suc zero) old new h a = a
  comes_lend slot (suc (suc d)) old new h a = by (waits_under old (slice_get h.thread.slots (chased d h.thread.slots slot)))
    where
      by : (b : Bool) → Gives Good (if b then arrived_at (in_slot (chased d h.thread.slots slot)) new h else Some (with_phase (phase.Taken new) h))
      by true = comes_at new (in_slot (chased d h.thread.slots slot)) h a
      by false = a

  comes_end : (s : Spot) (v : Option Value) (old new : ℕ) (h : Hand) → Good h → Gives Good (arrived_end s v old new h)
  comes_end s (Some (value.Mut q)) old new h a = by (q.word == old)
    where
      by : (b : Bool) → Gives Good (if b then arrived_at s new h else arrived_write q.holder new h)
      by true = comes_at new s h a
      by false = comes_write q.holder new h a
  comes_end s _ old new h a = tt

  pub comes_for : (x : Option Access) (old new : ℕ) (h : Hand) → Good h → Gives Good (arrived x old new h)
  comes_for None old new h a = tt
  comes_for (Some (ReadTo w)) old new h a = comes_slot old new (chased (w.depth - 1) h.thread.slots w.slot) h a
  comes_for (Some (ReadPointer w)) old new h a = comes_slot old new (chased (w.depth - 1) h.thread.slots w.slot) h a
  comes_for (Some (WriteTo w)) old new h a = comes_write w new h a
  comes_for (Some (LendTo w)) old new h a = comes_lend w.slot w.depth old new h a
  comes_for (Some (EndRef s)) old new h a = comes_end s (value_at h s) old new h a

-- it lies there then
lands : (colours n : ℕ) (code : List Instr) (old : ℕ) (c : Cell) (h : Hand) → h.work.rest.number ≡ n → InPlace n h.work.rest.partition → Gives (λ (h2 : Hand). Landed colours n h.work.rest.partition c.object h2.work.rest) (deliver_moved code old c h)
lands colours n code old c h number placed =
    test_gives Good (waits_for_cell h.thread.phase old) _ (λ z. bind_gives (λ (m : NewWord). Landed colours n p c.object m.work.rest) Good (issue_placed (act.Take c.object old) c h.work) _
    (test_gives (λ (m : NewWord). Landed colours n p c.object m.work.rest) (can_grow p) _ (λ q. (number, comes_made colours n p c placed)))
    (λ m b. comes_for colours n p c.object (instr_access h (slice_get code h.thread.pc)) old m.word (record h { work = m.work }) b))
  where
    p : PartitionState
    p = h.work.rest.partition

    Good : Hand → Type 0
    Good h2 = Landed colours n p c.object h2.work.rest

pub lands_at : (colours n : ℕ) (code : List Instr) (old : ℕ) (c : Cell) (t : ℕ) (x : Site) → x.work.rest.number ≡ n → InPlace n x.work.rest.partition → Gives (λ (y : Site). Landed colours n x.work.rest.partition c.object y.work.rest) (at_thread t (deliver_moved code old c) x)
lands_at colours n code old c t x number placed = by (thread_in x.threads t)
  where
    Then : Site → Type 0
    Then y = Landed colours n x.work.rest.partition c.object y.work.rest

    by : (o : Option ThreadState) → Gives Then (then_some (option_map (λ y. record { work = x.work; thread = y }) o) (λ h. option_map (put_back x.threads) (deliver_moved code old c h)))
    by None = tt
    by (Some y) = over_gives (λ (h : Hand). Landed colours n x.work.rest.partition c.object h.work.rest) Then (deliver_moved code old c (record { work = x.work; thread = y })) (put_back x.threads) (lands colours n code old c (record { work = x.work; thread = y }) number placed) (λ h b. b)
