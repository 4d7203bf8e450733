-- An object that comes to its thread takes one from the asks that it has left.
use Rattle.std.proofs.Common.{◌≡◌, ◌≤◌, ◌<◌, ℕ, zero, suc, ◌+◌, ◌-◌, ◌^◌, ◌==◌, not, is_some, ◌&&◌, ◌||◌, nat_lt, if◌then◌else◌, Bool, true, false, List, Option, Some, None, option_map, length, refl, sym, ap, subst, ◌∙◌, arith}
use Rattle.std.specs.Prelude.{slice_get, slice_set}
use Rattle.std.proofs.lemmas.Bool.{eqb-true, eq-eqb}
use Rattle.law_length_asks.proofs.Below.law_walks_others.Below.fr_typing.PlaceLemmas.{eq_cases}
use Rattle.law_length_asks.specs.Below.law_walks_others.Below.fr_base.declared.place.Lval.{Lval}
use Rattle.law_length_asks.specs.Below.law_walks_others.Below.fr_base.declared.instruction.Instr.{Instr}
use Rattle.law_length_asks.specs.Below.law_walks_others.Below.fr_base.declared.instruction.Instr.TheVariants as instr
use Rattle.law_length_asks.specs.Below.law_walks_others.Below.global_addr.Words.{server_of}
use Rattle.law_length_asks.specs.Below.law_walks_others.Below.heap_partition.declared.value.Cell.{Cell}
use Rattle.law_length_asks.specs.Below.law_walks_others.Below.heap_partition.declared.value.Owned.{Owned}
use Rattle.law_length_asks.specs.Below.law_walks_others.Below.owner_box.Partition.{new_word, next_place}
use Rattle.law_length_asks.proofs.Below.law_walks_others.Below.law_words_asked.Below.owner_box.Issued.{packed}
use Rattle.law_length_asks.specs.Below.law_walks_others.Below.mut_borrow.declared.mutable.MutRef.{MutRef}
use Rattle.law_length_asks.specs.Below.law_walks_others.Below.journal.declared.act.Act.TheVariants as act
use Rattle.law_length_asks.specs.Below.law_walks_others.Below.thread_state.View.{ThreadState}
use Rattle.law_length_asks.specs.Below.law_walks_others.Below.thread_state.declared.phase.Phase.{Phase}
use Rattle.law_length_asks.specs.Below.law_walks_others.Below.thread_state.declared.phase.Phase.TheVariants as phase
use Rattle.law_length_asks.specs.Below.law_walks_others.Below.thread_state.declared.value.Value.{Value}
use Rattle.law_length_asks.specs.Below.law_walks_others.Below.thread_state.declared.value.Value.TheVariants as value
use Rattle.law_length_asks.specs.Below.law_walks_others.Below.server_model.Servers.{Server, Cluster, server_at}
use Rattle.law_length_asks.specs.Below.law_walks_others.Below.server_model.Work.{Work, Hand, then_some, thread_in, with_phase, with_slots}
use Rattle.law_length_asks.specs.Below.law_walks_others.Below.server_model.NewWords.{NewWord, can_grow, issue_placed}
use Rattle.law_length_asks.specs.Below.law_walks_others.Below.server_model.Places.{Spot, in_slot, value_at, with_word, took, put_at, set_pointer}
use Rattle.law_length_asks.specs.Below.law_walks_others.Below.server_model.Prepare.{Access, access_of, passing, write_stars}
use Rattle.law_length_asks.specs.Below.law_walks_others.Below.server_model.Objects.{waits_for_cell, chased, waits_under, arrived_at, arrived_slot, arrived_write, arrived_lend, arrived_end, arrived, passed_spot, instr_access, deliver_moved}
use Rattle.law_length_asks.specs.Below.law_walks_others.Below.server_model.Events.{received}
use Rattle.law_length_asks.specs.Below.law_walks_others.Below.coherent_memory.Names.{one, if_so, Among}
use Rattle.law_length_asks.specs.Below.law_walks_others.Below.coherent_memory.Follow.{Standing}
use Rattle.law_length_asks.specs.Below.law_walks_others.Below.coherent_memory.Paths.{Path, no_path, reads, shares, lends, writes, ends, path_of, Awaited}
use Rattle.law_length_asks.specs.Below.law_walks_others.Below.coherent_memory.Requests.{early_gift, is_got}
use Rattle.law_length_asks.specs.Below.law_walks_others.Below.coherent_memory.Sight.{sight}
use Rattle.law_length_asks.specs.Below.law_walks_others.Below.coherent_memory.Turn.{InTurn, by_write, by_holder, by_end, by_read, by_share, by_lend, WaitsFor}
use Rattle.law_length_asks.specs.Below.law_walks_others.Below.coherent_memory.Walking.{instr_of, path}
use Rattle.law_length_asks.proofs.Below.law_walks_others.Below.coherent_memory.Words.{none_at}
use Rattle.law_length_asks.specs.Below.law_walks_others.Below.coherent_types.ClusterTypes.{IsCoherent}
use Rattle.law_length_asks.specs.Below.law_walks_others.Below.law_counts_sums.Laws.{Gives, FewEvents}
use Rattle.law_length_asks.proofs.Below.law_walks_others.Below.law_counts_sums.Results.{over_gives, bind_gives, test_gives, then_gives}
use Rattle.law_length_asks.proofs.Below.law_walks_others.Below.law_counts_sums.ThreadThere.{thread_there}
use Rattle.law_length_asks.proofs.Below.law_walks_others.Below.law_words_paths.paths.Contained.{among_thread}
use Rattle.law_length_asks.proofs.Below.law_walks_others.Below.law_results_reads.Pointing.{its_partition}
use Rattle.law_length_asks.proofs.Below.law_walks_others.Below.law_words_asked.writes.Later.{place_vacant}
use Rattle.law_length_asks.proofs.Below.law_walks_others.Below.law_results_events.writes.Ends.{value_of_thread}
use Rattle.law_length_asks.proofs.Below.law_walks_others.Below.law_results_events.writes.Memory.{Sane}
use Rattle.law_length_asks.proofs.Below.law_walks_others.Below.law_results_events.writes.Route.{set_other}
use Rattle.law_length_asks.proofs.Below.law_walks_others.Below.law_results_events.writes.Routes.{sane_at, roomy_at}
use Rattle.law_length_asks.specs.ahead.Ahead.{ahead_on, ahead}
use Rattle.law_length_asks.proofs.ahead.Eight.{eight_ahead}
use Rattle.law_length_asks.specs.left.Left.{before_lent, may_come, is_far, toll, pulls, asks_last, eight, to_come, asks_by, asks_of}
use Rattle.law_length_asks.proofs.left.Few.{eight_few}
use Rattle.law_length_asks.proofs.left.Kin.{slot_led, chased_same}
use Rattle.law_length_asks.proofs.answers.Follows.{Own, own_slot, own_top, EndsThere, Follows, reads_all, takes_slot, shares_one, lends_one, writes_all, ends_one, no_place, follows}
use Rattle.law_length_asks.proofs.answers.Puts.{set_there, Same, as_it_was, renewed, Put, puts, own_puts}

-- IS IT FAR?

-- under its own word a reference is waited for
waited_far : (n old : ℕ) (r : MutRef) → r.word ≡ old → is_far n (phase.WaitCell old) (Some (value.Mut r)) ≡ true
waited_far n old r e = by (not (server_of r.word == n)) (old == r.word) (eq-eqb old r.word (sym e))
  where
    by : (a b : Bool) → b ≡ true → (a || b) ≡ true
    by true b e = refl
    by false b e = e

-- a word of this server isn't far
here_near : (n : ℕ) (r : MutRef) → server_of r.word ≡ n → is_far n phase.Got (Some (value.Mut r)) ≡ false
here_near n r e = ap (λ b. not b || false) (eq-eqb (server_of r.word) n e)

-- under the word that it had it is no farther
pub less_far : (n old m : ℕ) (p q : MutRef) → p.word ≡ q.word → if_so (is_far n phase.Got (Some (value.Mut p))) m ≤ if_so (is_far n (phase.WaitCell old) (Some (value.Mut q))) m
less_far n old m p q e =
    let one : if_so (is_far n phase.Got (Some (value.Mut p))) m ≡ if_so (not (server_of q.word == n) || false) m = ap (λ w. if_so (not (server_of w == n) || false) m) e in
    omega (arith, one, by (not (server_of q.word == n)) (old == q.word))
  where
    by : (a b : Bool) → if_so (a || false) m ≤ if_so (a || b) m
    by true b = omega arith
    by false true = omega arith
    by false false = omega arith

-- a slot whose reference gets another word leads to no slot still
led_set : (xs : List Value) (j : ℕ) (q p : MutRef) → slice_get xs j ≡ Some (value.Mut q) → (i : ℕ) → slot_led (slice_get (slice_set xs j (value.Mut p)) i) ≡ slot_led (slice_get xs i)
led_set xs j q p e i =
    eq_cases (λ b. slot_led (slice_get (slice_set xs j (value.Mut p)) i) ≡ slot_led (slice_get xs i)) i j
    (λ same. ap (λ u. slot_led (slice_get (slice_set xs j (value.Mut p)) u)) same ∙ ap slot_led (set_there xs j (value.Mut q) (value.Mut p) e) ∙ sym (ap (λ u. slot_led (slice_get xs u)) same ∙ ap slot_led e))
    (λ ne. ap slot_led (set_other xs j i (value.Mut p) ne))

chased_set : (xs : List Value) (d slot : ℕ) (q p : MutRef) → slice_get xs (chased d xs slot) ≡ Some (value.Mut q)
    → slice_get (slice_set xs (chased d xs slot) (value.Mut p)) (chased d (slice_set xs (chased d xs slot) (value.Mut p)) slot) ≡ Some (value.Mut p)
chased_set xs d slot q p e =
    let j : ℕ = chased d xs slot in
    let same : chased d (slice_set xs j (value.Mut p)) slot ≡ j = chased_same (slice_set xs j (value.Mut p)) xs (led_set xs j q p e) d slot in
    ap (slice_get (slice_set xs j (value.Mut p))) same ∙ set_there xs j (value.Mut q) (value.Mut p) e

pub no_gift : (g : Option Owned) (p : Phase) → is_got p ≡ false → one (is_some g && not (is_got p)) ≡ 0 → g ≡ None
no_gift None p e z = refl
no_gift (Some v) p e z = absurd (cc (sym (ap (λ b. one (true && not b)) e) ∙ z))

pub eight_more : (a b : ℕ) → a + 1 ≤ b → b ≤ 8 → eight a + 1 ≤ eight b
eight_more a b l m = omega (arith, l, m)

pub waits_is : (p : Phase) (old : ℕ) → waits_for_cell p old ≡ true → p ≡ phase.WaitCell old
waits_is (phase.WaitCell v) old e = ap phase.WaitCell (eqb-true v old e)
waits_is phase.Ready old e = absurd (cc e)
waits_is phase.Got old e = absurd (cc e)
waits_is (phase.Taken v) old e = absurd (cc e)
waits_is (phase.WaitLock m) old e = absurd (cc e)
waits_is (phase.WaitDup m) old e = absurd (cc e)
waits_is (phase.WaitJoin u) old e = absurd (cc e)
waits_is (phase.WaitPar a b) old e = absurd (cc e)
waits_is (phase.GotPar a b) old e = absurd (cc e)
waits_is phase.Over old e = absurd (cc e)

module _ (k c : Cluster) (co : IsCoherent k) (few : FewEvents k) (code : c.code ≡ k.code) (number i : ℕ) (s : Server) (here : server_at k.servers number ≡ Some s) (old t : ℕ) (y : ThreadState) (at : thread_in s.threads t ≡ Some y) where
  abbrev n : ℕ
  n = s.rest.number

  abbrev st : ThreadState → Standing
  st u = record { server = n; packed = false; thread = u }

  abbrev x : Standing
  x = st y

  abbrev B : ℕ
  B = asks_of (sight k) x

  -- what is so of the hand
  abbrev Good : Hand → Type 0
  Good h = asks_of (sight c) (st h.thread) ≤ B

  listed : Among x (sight k).ground.threads
  listed = (among_thread (sight k).ground.threads t x (thread_there k co.sound number s here t y at)).0

  ahead_few : ahead (sight k) x ≤ 8
  ahead_few = eight_ahead k co x listed

  module _ (waiting : y.phase ≡ phase.WaitCell old) where
    was : B ≡ to_come (sight k) x
    was = ap (λ p. asks_by (sight k) x p y.gift) waiting

    bare : y.gift ≡ None
    bare =
        let z : early_gift x ≡ 0 = none_at early_gift x (sight k).ground.threads co.sound.requests.gifts_got listed in
        no_gift y.gift y.phase (ap is_got waiting) z

    turn : WaitsFor (sight k) x old
    turn = co.sound.walks.wait_in_turn x old listed waiting

    -- a thread that got its answer
    module _ (j : Instr) (code_at : slice_get k.code y.pc ≡ Some j) where
      instr_was : instr_of (sight k) x ≡ Some j
      instr_was = code_at

      path_was : path (sight k) x ≡ path_of (Some j) y
      path_was = ap (λ o. path_of o y) code_at

      last_was : asks_last (instr_of (sight k) x) ≡ asks_last (Some j)
      last_was = ap asks_last code_at

      -- one that stands at its instruction still, without a gift, in phase `Got`
      module _ (u : ThreadState) (pc : u.pc ≡ y.pc) (gift : u.gift ≡ y.gift) (got : u.phase ≡ phase.Got) where
        instr_now : instr_of (sight c) (st u) ≡ Some j
        instr_now = ap (λ cs. slice_get cs u.pc) code ∙ ap (slice_get k.code) pc ∙ code_at

        path_now : path (sight c) (st u) ≡ path_of (Some j) u
        path_now = ap (λ o. path_of o u) instr_now

        now : asks_of (sight c) (st u) ≡ to_come (sight c) (st u) + 1
        now = ap (λ p. asks_by (sight c) (st u) p u.gift) got ∙ ap (asks_by (sight c) (st u) phase.Got) (gift ∙ bare)

        last_now : asks_last (instr_of (sight c) (st u)) ≡ asks_last (Some j)
        last_now = ap asks_last instr_now

        -- with less ahead, or nothing to pull any more
        fewer : eight (ahead (sight c) (st u)) + pulls (sight c) (st u) + 1 ≤ eight (ahead (sight k) x) + pulls (sight k) x → asks_of (sight c) (st u) ≤ B
        fewer l = omega (arith, now, was, last_now, last_was, l)

      -- A READ OR A BORROW, of which a reference in a slot is pulled

      module _ (way : Path) (nine : toll way ≡ 9) (there : (u : ThreadState) → path_of (Some j) u ≡ way) (e : ℕ) (new : ℕ) (new_here : server_of new ≡ n) (work : Work)
          (was_there : may_come way y.slots ≡ slice_get y.slots e) (now_there : (r : MutRef) → slice_get y.slots e ≡ Some (value.Mut r) → may_come way (slice_set y.slots e (value.Mut (took r new))) ≡ Some (value.Mut (took r new))) where
        abbrev h1 : Hand
        h1 = record { work = work; thread = y }

        pulled : (r : MutRef) → slice_get y.slots e ≡ Some (value.Mut r) → r.word ≡ old → (w2 : Work) → Good (record { work = w2; thread = record y { slots = slice_set y.slots e (value.Mut (took r new)); phase = phase.Got } })
        pulled r stands word w2 =
            let u : ThreadState = record y { slots = slice_set y.slots e (value.Mut (took r new)); phase = phase.Got } in
            let far : pulls (sight k) x ≡ 9 =
            ap (λ q. if_so (is_far n y.phase (may_come q y.slots)) (toll q)) (path_was ∙ there y) ∙ ap (λ v. if_so (is_far n y.phase v) (toll way)) (was_there ∙ stands) ∙ ap (λ p. if_so (is_far n p (Some (value.Mut r))) (toll way)) waiting
            ∙ ap (λ b. if_so b (toll way)) (waited_far n old r word) ∙ nine in
            let near : pulls (sight c) (st u) ≡ 0 =
            ap (λ q. if_so (is_far n phase.Got (may_come q u.slots)) (toll q)) (path_now u refl refl refl ∙ there u) ∙ ap (λ v. if_so (is_far n phase.Got v) (toll way)) (now_there r stands) ∙ ap (λ b. if_so b (toll way)) (here_near n (took r new) new_here) in
            fewer u refl refl refl (omega (arith, far, near, eight_few (ahead (sight c) (st u))))

        by_slot : (v : Option Value) → slice_get y.slots e ≡ v → waits_under old v ≡ true → Gives Good (arrived_at (in_slot e) new h1)
        by_slot (Some (value.Mut r)) stands under =
            subst (λ o. Gives Good (option_map (with_phase phase.Got) (then_some o (λ v. then_some (with_word new v) (λ u. put_at (in_slot e) u h1))))) (sym stands)
            (over_gives (λ (h2 : Hand). h2 ≡ with_slots (slice_set y.slots e (value.Mut (took r new))) h1) Good _ (with_phase phase.Got) (test_gives (λ (h2 : Hand). h2 ≡ with_slots (slice_set y.slots e (value.Mut (took r new))) h1) (nat_lt e (length y.slots)) _ (λ on. refl))
            (λ h2 same. subst (λ (a : Hand). Good (with_phase phase.Got a)) (sym same) (pulled r stands (eqb-true r.word old under) work)))
        by_slot None stands under = absurd (cc under)
        by_slot (Some value.Gone) stands under = absurd (cc under)
        by_slot (Some (value.Own v)) stands under = absurd (cc under)
        by_slot (Some (value.SharedSlot v)) stands under = absurd (cc under)
        by_slot (Some (value.MutSlot v)) stands under = absurd (cc under)
        by_slot (Some (value.Shared v)) stands under = absurd (cc under)
        by_slot (Some (value.Held v)) stands under = absurd (cc under)

        slot_comes : Gives Good (arrived_slot old new e h1)
        slot_comes = test_gives Good (waits_under old (slice_get y.slots e)) _ (λ under. by_slot (slice_get y.slots e) refl under)

      -- an object that is lent
      taken : (new : ℕ) (work : Work) → asks_last (Some j) ≡ 1 → Good (record { work = work; thread = record y { phase = phase.Taken new } })
      taken new work last = omega (arith, was, last_was, last)

      -- A WRITE

      -- one hop more is passed, of so many
      module _ (new : ℕ) (work : Work) where
        abbrev h0 : Hand
        h0 = record { work = work; thread = y }

        writes_come : (w : Lval) → ((u : ThreadState) → path_of (Some j) u ≡ writes w) → y.passed < w.depth → Gives Good (arrived_write w new h0)
        writes_come w there less =
            then_gives Good (passed_spot (write_stars y.passed 0 h0 (in_slot w.slot))) _ (λ sp q.
            over_gives (Put new (passing (y.passed + 1) h0)) Good (set_pointer sp new (passing (y.passed + 1) h0)) (with_phase phase.Got) (puts new (passing (y.passed + 1) h0) sp) (λ h2 a.
            let u : ThreadState = record h2.thread { phase = phase.Got } in
            let pc : u.pc ≡ y.pc = ap (λ (z : ThreadState). z.pc) a.thread in
            let gift : u.gift ≡ y.gift = ap (λ (z : ThreadState). z.gift) a.thread in
            let passed : u.passed ≡ y.passed + 1 = ap (λ (z : ThreadState). z.passed) a.thread in
            let one : ahead (sight c) (st u) ≡ w.depth - u.passed = ap (ahead_on (sight c) (st u)) (path_now u pc gift refl ∙ there u) in
            let two : ahead (sight k) x ≡ w.depth - y.passed = ap (ahead_on (sight k) x) (path_was ∙ there y) in
            let none : pulls (sight c) (st u) ≡ 0 = ap (λ q. if_so (is_far n phase.Got (may_come q u.slots)) (toll q)) (path_now u pc gift refl ∙ there u) in
            let less2 : ahead (sight c) (st u) + 1 ≤ ahead (sight k) x = omega (arith, one, two, passed, less) in
            fewer u pc gift refl (omega (arith, none, eight_more (ahead (sight c) (st u)) (ahead (sight k) x) less2 ahead_few))))

        -- THE END OF A REFERENCE

        module _ (new_here : server_of new ≡ n) (r : MutRef) (sp : Spot) (ends_it : EndsThere j y r sp) (end_path : path_of (Some j) y ≡ ends r) where
          -- a thread with such a reference there
          ended : (u : ThreadState) (q : MutRef) → u.pc ≡ y.pc → u.gift ≡ y.gift → u.phase ≡ phase.Got → value_of_thread u sp ≡ Some (value.Mut q) → length u.slots ≡ length y.slots
              → eight (q.holder.depth - u.passed) + if_so (is_far n phase.Got (Some (value.Mut q))) 1 + 1 ≤ eight (r.holder.depth - y.passed) + if_so (is_far n (phase.WaitCell old) (Some (value.Mut r))) 1 → asks_of (sight c) (st u) ≤ B
          ended u q pc gift got there size l =
              let way : path (sight c) (st u) ≡ ends q = path_now u pc gift got ∙ ends_it.path_by u q there size in
              let one : ahead (sight c) (st u) ≡ q.holder.depth - u.passed = ap (ahead_on (sight c) (st u)) way in
              let two : ahead (sight k) x ≡ r.holder.depth - y.passed = ap (ahead_on (sight k) x) (path_was ∙ end_path) in
              let three : pulls (sight c) (st u) ≡ if_so (is_far n u.phase (Some (value.Mut q))) 1 = ap (λ z. if_so (is_far n u.phase (may_come z u.slots)) (toll z)) way in
              let four : if_so (is_far n u.phase (Some (value.Mut q))) 1 ≡ if_so (is_far n phase.Got (Some (value.Mut q))) 1 = ap (λ p. if_so (is_far n p (Some (value.Mut q))) 1) got in
              let five : pulls (sight k) x ≡ if_so (is_far n y.phase (Some (value.Mut r))) 1 = ap (λ z. if_so (is_far n y.phase (may_come z y.slots)) (toll z)) (path_was ∙ end_path) in
              let six : if_so (is_far n y.phase (Some (value.Mut r))) 1 ≡ if_so (is_far n (phase.WaitCell old) (Some (value.Mut r))) 1 = ap (λ p. if_so (is_far n p (Some (value.Mut r))) 1) waiting in
              let seven = ap eight one in
              let nine = ap eight two in
              fewer u pc gift got (omega (arith, seven, nine, three, four, five, six, l))

          -- it got its own word
          own_comes : r.word ≡ old → Gives Good (arrived_at sp new h0)
          own_comes word =
              over_gives (λ (h2 : Hand). Put new h0 h2 × (value_of_thread h2.thread sp ≡ Some (value.Mut (took r new)))) Good (set_pointer sp new h0) (with_phase phase.Got) (own_puts new h0 sp ends_it.own r ends_it.there) (λ h2 a.
              let u : ThreadState = record h2.thread { phase = phase.Got } in
              let threads = (let b = a.0 in b.thread) in
              let passed : u.passed ≡ y.passed = ap (λ (z : ThreadState). z.passed) threads in
              let far = ap (λ b. if_so b 1) (waited_far n old r word) in
              let near = ap (λ b. if_so b 1) (here_near n (took r new) new_here) in
              let same = ap (λ m. eight (r.holder.depth - m)) passed in
              ended u (took r new) (ap (λ (z : ThreadState). z.pc) threads) (ap (λ (z : ThreadState). z.gift) threads) refl (there_so sp h2 ends_it.own a.1) (let b = a.0 in b.size) (omega (arith, far, near, same)))
            where
              there_so : (q : Spot) (h2 : Hand) → Own q → value_of_thread h2.thread q ≡ Some (value.Mut (took r new)) → value_of_thread (record h2.thread { phase = phase.Got }) q ≡ Some (value.Mut (took r new))
              there_so _ h2 (own_slot m) e = e
              there_so _ h2 own_top e = e

          -- a pointer on its holder's place got its own
          held_comes : y.passed < r.holder.depth → Gives Good (arrived_write r.holder new h0)
          held_comes less =
              then_gives Good (passed_spot (write_stars y.passed 0 h0 (in_slot r.holder.slot))) _ (λ sp2 q.
              over_gives (Put new (passing (y.passed + 1) h0)) Good (set_pointer sp2 new (passing (y.passed + 1) h0)) (with_phase phase.Got) (puts new (passing (y.passed + 1) h0) sp2) (λ h2 a.
              let kept = a.kept sp ends_it.own r (there_before sp ends_it.own ends_it.there) in
              by h2 a kept.now (there_so sp h2 ends_it.own kept.now kept.there) kept.same))
            where
              there_before : (q : Spot) → Own q → value_of_thread y q ≡ Some (value.Mut r) → value_of_thread (passing (y.passed + 1) h0).thread q ≡ Some (value.Mut r)
              there_before _ (own_slot m) e = e
              there_before _ own_top e = e

              there_so : (q : Spot) (h2 : Hand) → Own q → (p : MutRef) → value_of_thread h2.thread q ≡ Some (value.Mut p) → value_of_thread (record h2.thread { phase = phase.Got }) q ≡ Some (value.Mut p)
              there_so _ h2 (own_slot m) p e = e
              there_so _ h2 own_top p e = e

              so : (h2 : Hand) → Put new (passing (y.passed + 1) h0) h2 → (p : MutRef) → value_of_thread (record h2.thread { phase = phase.Got }) sp ≡ Some (value.Mut p) → p.holder ≡ r.holder
                  → if_so (is_far n phase.Got (Some (value.Mut p))) 1 ≤ if_so (is_far n (phase.WaitCell old) (Some (value.Mut r))) 1 → Good (with_phase phase.Got h2)
              so h2 a p there held near =
                  let u : ThreadState = record h2.thread { phase = phase.Got } in
                  let passed : u.passed ≡ y.passed + 1 = ap (λ (z : ThreadState). z.passed) a.thread in
                  let depth : p.holder.depth ≡ r.holder.depth = ap (λ (z : Lval). z.depth) held in
                  let two : ahead (sight k) x ≡ r.holder.depth - y.passed = ap (ahead_on (sight k) x) (path_was ∙ end_path) in
                  let all = ahead_few in
                  let more : (p.holder.depth - u.passed) + 1 ≤ r.holder.depth - y.passed = omega (arith, passed, depth, less) in
                  ended u p (ap (λ (z : ThreadState). z.pc) a.thread) (ap (λ (z : ThreadState). z.gift) a.thread) refl there a.size (omega (arith, near, eight_more (p.holder.depth - u.passed) (r.holder.depth - y.passed) more (omega (arith, two, all))))

              by : (h2 : Hand) → Put new (passing (y.passed + 1) h0) h2 → (p : MutRef) → value_of_thread (record h2.thread { phase = phase.Got }) sp ≡ Some (value.Mut p) → Same new r p → Good (with_phase phase.Got h2)
              by h2 a p there (as_it_was _ held word) = so h2 a p there held (less_far n old 1 p r word)
              by h2 a p there (renewed _ held word) = so h2 a p there held (let near = ap (λ b. if_so b 1) (here_near n p (ap server_of word ∙ new_here)) in omega (arith, near))

          -- the one or the other
          either_comes : ((r.word ≡ old → ⊥) → y.passed < r.holder.depth) → (b : Bool) → (r.word == old) ≡ b → Gives Good (if b then arrived_at sp new h0 else arrived_write r.holder new h0)
          either_comes less true e = own_comes (eqb-true r.word old e)
          either_comes less false e = held_comes (less (λ same. absurd (cc (sym (eq-eqb r.word old same) ∙ e))))

          value_there : value_at h0 sp ≡ Some (value.Mut r)
          value_there = by sp ends_it.own ends_it.there
            where
              by : (q : Spot) → Own q → value_of_thread y q ≡ Some (value.Mut r) → value_at h0 q ≡ Some (value.Mut r)
              by _ (own_slot m) e = e
              by _ own_top e = e

          ends_come : ((r.word ≡ old → ⊥) → y.passed < r.holder.depth) → Gives Good (arrived_end sp (value_at h0 sp) old new h0)
          ends_come less = subst (λ v. Gives Good (arrived_end sp v old new h0)) (sym value_there) (either_comes less (r.word == old) refl)

      -- ALL OF THEM

      within_write : (way : Path) (w : Lval) (a : Awaited) → way ≡ writes w → InTurn (sight k) x old a way → y.passed < w.depth
      within_write _ w a e (by_write v next) = (let l = next.within in let same : v ≡ w = cc in subst (λ (q : Lval). y.passed < q.depth) same l)
      within_write _ w a e (by_read v f) = absurd (cc e)
      within_write _ w a e (by_share v f) = absurd (cc e)
      within_write _ w a e (by_lend v f) = absurd (cc e)
      within_write _ w a e (by_end r f g) = absurd (cc e)
      within_write _ w a e (by_holder r f g) = absurd (cc e)

      within_end : (way : Path) (r : MutRef) (a : Awaited) → way ≡ ends r → (r.word ≡ old → ⊥) → InTurn (sight k) x old a way → y.passed < r.holder.depth
      within_end _ r a e ne (by_holder q f next) = (let l = next.within in let same : q ≡ r = cc in subst (λ (z : MutRef). y.passed < z.holder.depth) same l)
      within_end _ r a e ne (by_end q f g) = (let same : q ≡ r = cc in absurd (ne (ap (λ (z : MutRef). z.word) (sym same) ∙ f)))
      within_end _ r a e ne (by_read v f) = absurd (cc e)
      within_end _ r a e ne (by_share v f) = absurd (cc e)
      within_end _ r a e ne (by_lend v f) = absurd (cc e)
      within_end _ r a e ne (by_write v f) = absurd (cc e)

      nowhere : (way : Path) (a : Awaited) → way ≡ no_path → InTurn (sight k) x old a way → ⊥
      nowhere _ a e (by_read v f) = cc e
      nowhere _ a e (by_share v f) = cc e
      nowhere _ a e (by_lend v f) = cc e
      nowhere _ a e (by_write v f) = cc e
      nowhere _ a e (by_end r f g) = cc e
      nowhere _ a e (by_holder r f g) = cc e

      module _ (new : ℕ) (new_here : server_of new ≡ n) (work : Work) where
        abbrev h : Hand
        h = record { work = work; thread = y }

        lends_come : (w : Lval) → j ≡ instr.BorrowMut w → (d : ℕ) → w.depth ≡ d → Gives Good (arrived_lend w.slot d old new h)
        lends_come w e zero deep = tt
        lends_come w e (suc zero) deep = taken new work (ap (λ q. asks_last (Some q)) e)
        lends_come w e (suc (suc d)) deep = by (waits_under old (slice_get y.slots (chased d y.slots w.slot))) refl
          where
            by : (b : Bool) → waits_under old (slice_get y.slots (chased d y.slots w.slot)) ≡ b → Gives Good (if b then arrived_at (in_slot (chased d y.slots w.slot)) new h else Some (with_phase (phase.Taken new) h))
            by true under =
                by_slot (lends w) refl (λ u. ap (λ q. path_of (Some q) u) e) (chased d y.slots w.slot) new new_here work (ap (λ q. before_lent w.slot q y.slots) deep)
                (λ r stands. ap (λ q. before_lent w.slot q (slice_set y.slots (chased d y.slots w.slot) (value.Mut (took r new)))) deep ∙ chased_set y.slots d w.slot r (took r new) stands) (slice_get y.slots (chased d y.slots w.slot)) refl under
            by false under = taken new work (ap (λ q. asks_last (Some q)) e)

        comes_by : (way : Path) (acc : Option Access) → Follows j y way acc → path_of (Some j) y ≡ way → Gives Good (arrived acc old new h)
        comes_by _ _ (reads_all w r same) e = slot_comes (reads w) refl same (chased (w.depth - 1) y.slots w.slot) new new_here work refl (λ q stands. chased_set y.slots (w.depth - 1) w.slot q (took q new) stands)
        comes_by _ _ (takes_slot w) e = absurd (let u = turn in nowhere (path (sight k) x) u.awaited (path_was ∙ e) u.turn)
        comes_by _ _ (shares_one w f) e = slot_comes (shares w) refl (λ u. ap (λ q. path_of (Some q) u) f) (chased (w.depth - 1) y.slots w.slot) new new_here work refl (λ q stands. chased_set y.slots (w.depth - 1) w.slot q (took q new) stands)
        comes_by _ _ (lends_one w f) e = lends_come w f w.depth refl
        comes_by _ _ (writes_all w same) e = writes_come new work w same (let u = turn in within_write (path (sight k) x) w u.awaited (path_was ∙ e) u.turn)
        comes_by _ _ (ends_one r sp f) e = ends_come new work new_here r sp f e (λ ne. (let u = turn in within_end (path (sight k) x) r u.awaited (path_was ∙ e) ne u.turn))
        comes_by _ _ no_place e = tt

    instr_comes : (new : ℕ) (new_here : server_of new ≡ n) (work : Work) (o : Option Instr) → slice_get k.code y.pc ≡ o → Gives Good (arrived (instr_access (record { work = work; thread = y }) o) old new (record { work = work; thread = y }))
    instr_comes new new_here work None e = tt
    instr_comes new new_here work (Some j) e = comes_by j e new new_here work (path_of (Some j) y) (access_of j y) (follows j y) refl

  -- THE DELIVERY

  sane : Sane s.rest.partition
  sane = sane_at k co few number s here

  -- the word that it gets leads here
  new_there : server_of (new_word s.rest.partition) ≡ n
  new_there =
      let p = s.rest.partition in
      let within : (next_place p).0 < 2 ^ 40 = (let r = roomy_at k co few number s here in let v = (place_vacant p sane).within in omega (arith, r, v)) in
      (packed (next_place p).1 p.server (next_place p).0 sane.small within).1 ∙ (its_partition k co.sound number s here).0

  pub moved_comes : (cell : Cell) → Gives Good (deliver_moved k.code old cell (record { work = (received i s).work; thread = y }))
  moved_comes cell =
      test_gives Good (waits_for_cell y.phase old) _ (λ z.
      bind_gives (λ (m : NewWord). server_of m.word ≡ n) Good (issue_placed (act.Take cell.object old) cell (received i s).work) _
      (test_gives (λ (m : NewWord). server_of m.word ≡ n) (can_grow s.rest.partition) _ (λ on. new_there))
      (λ m e. instr_comes (waits_is y.phase old z) m.word e m.work (slice_get k.code y.pc) refl))
