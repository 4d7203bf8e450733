-- Each step that follows no pointer has a result, instruction by instruction.
use Rattle.std.specs.Bool.{⊤}
use Rattle.std.proofs.Common.{◌≡◌, ℕ, zero, suc, ◌+◌, ◌-◌, ◌≤◌, ◌<◌, nat_lt, Bool, true, false, if◌then◌else◌, List, [], ◌∷◌, ◌++◌, length, reverse, Option, Some, None, option_map, IsSome, refl, sym, ap, subst, ◌∙◌, arith}
use Rattle.std.specs.Prelude.{slice_get, slice_set}
use Rattle.std.proofs.lemmas.Option.{slice_get_within}
use Rattle.std.proofs.lemmas.Bool.Decides.{nat_tests}
use Rattle.law_counts_sums.specs.Below.fr_base.Lists.{last_of}
use Rattle.law_counts_sums.specs.Below.fr_base.declared.place.Lval.{Lval}
use Rattle.law_counts_sums.specs.Below.fr_base.declared.step.Fresh.TheVariants as fresh
use Rattle.law_counts_sums.specs.Below.fr_base.declared.instruction.Instr.{Instr}
use Rattle.law_counts_sums.specs.Below.fr_base.declared.instruction.Instr.TheVariants as instr
use Rattle.law_counts_sums.specs.Below.fr_base.declared.instruction.Operand.{Operand}
use Rattle.law_words_paths.specs.Below.fr_terms.Terms.{Text}
use Rattle.law_counts_sums.specs.Below.fr_typing.Kinds.{Owned as OwnedType, int, mutex, task, own, shared, Piece, whole}
use Rattle.law_counts_sums.specs.Below.fr_typing.Checks.{with_lock}
use Rattle.law_counts_sums.specs.Below.fr_typing.Places.{Env, found, type_at}
use Rattle.law_counts_sums.specs.Below.fr_code.CodeTypes.{Entry, Table, takes_pop, HasType, InstrTypes, i_let, i_assign, i_copy, i_move, i_borrow, i_borrow_mut, i_box, i_arith, i_print, i_discard, i_drop, i_spawn, i_join, i_mutex, i_dup, i_lock, i_unlock, i_par, i_par_end}
use Rattle.law_counts_sums.specs.Below.fr_code.CodeTable.{Leads, Successors, to_next, ends}
use Rattle.law_counts_sums.specs.Below.read_cache.Cache.{Copy, users, can_unpin, unpin}
use Rattle.law_counts_sums.specs.Below.migration.Packing.{unpin_all, pinned_words, pinned_word, used_words}
use Rattle.law_counts_sums.specs.Below.mutex_home.Mutexes.{can_make}
use Rattle.law_counts_sums.specs.Below.mut_borrow.declared.shared.SharedRef.{SharedRef}
use Rattle.law_counts_sums.specs.Below.thread_state.View.{ThreadState}
use Rattle.law_counts_sums.specs.Below.thread_state.declared.value.Value.{Value}
use Rattle.law_counts_sums.specs.Below.thread_state.declared.value.Value.TheVariants as value
use Rattle.law_counts_sums.specs.Below.heap_partition.declared.value.Owned.{Owned}
use Rattle.law_counts_sums.specs.Below.server_model.declared.event.What.TheVariants.{Step}
use Rattle.law_counts_sums.specs.Below.server_model.Servers.{Rest, Server, Cluster}
use Rattle.law_counts_sums.specs.Below.server_model.Work.{Hand, Popped, with_cache, with_temps, with_slots, working, front_of, pop, then_some}
use Rattle.law_counts_sums.specs.Below.server_model.Places.{Spot, in_slot, on_top, nowhere, put_slot}
use Rattle.law_counts_sums.specs.Below.server_model.Prepare.{ReadTo, ReadPointer, WriteTo, LendTo, EndRef, read_or_taken, access_of, ending, assigned, prepare}
use Rattle.law_counts_sums.specs.Below.server_model.NewWords.{can_grow}
use Rattle.law_counts_sums.specs.Below.server_model.Drop.{give_up, unpin_ref, drop_value}
use Rattle.law_counts_sums.specs.Below.server_model.Commit.{goes_on, go_on, label_dropped, replace_slot}
use Rattle.law_counts_sums.specs.Below.server_model.Events.{begin_work, committed, prepared, step}
use Rattle.law_counts_sums.specs.Kinds.{Kind, step_spawn, step_join, step_par, step_par_end, instr_kind}
use Rattle.law_counts_sums.specs.Laws.{HasResult}
use Rattle.law_counts_sums.proofs.StepResults.{steps_have_results}
use Rattle.law_words_paths.specs.Below.coherent_types.Names.{NameTypes}
use Rattle.law_words_paths.specs.Below.coherent_types.ClusterTypes.{slots_wrong, temps_wrong}
use Rattle.law_results_reads.specs.Results.{FollowsNone, reads_variable, shares_variable, lends_variable, StepsHaveResults}
use Rattle.law_results_reads.proofs.Usable.{times, times_append, Usable, unpins, one_less, has_user, itself_once, walk_goes}
use Rattle.law_results_reads.proofs.Operands.{top_of, gets, got_owned, got_int, Stands, stands, newest_of, mutex_form, task_form, owned_form, mark_form, second_form}
use Rattle.law_results_reads.proofs.Known.{settled, Steps, types, names, entry, typed, slots_fit, temps_fit, usable, has_result, grows, makes}
use Rattle.law_results_reads.proofs.Lines as line

-- A VALUE THAT GOES

-- each word has users for the walk and for the value's own use
abbrev pub Spare : ThreadState → List Copy → Value → Type 0
Spare y cs v = (w : ℕ) → times w (pinned_words (v ∷ [])) + times w y.walk ≤ users cs w

pinned_first : (w : ℕ) (v : Value) (vs : List Value) → times w (pinned_words (v ∷ vs)) ≡ times w (pinned_words (v ∷ [])) + times w (pinned_words vs)
pinned_first w (value.Shared r) vs = by r.pinned
  where
    by : (b : Bool) → times w (pinned_word r b (pinned_words vs)) ≡ times w (pinned_word r b []) + times w (pinned_words vs)
    by true = omega arith
    by false = omega arith
pinned_first w value.Gone vs = omega arith
pinned_first w (value.Own x) vs = omega arith
pinned_first w (value.SharedSlot i) vs = omega arith
pinned_first w (value.MutSlot i) vs = omega arith
pinned_first w (value.Mut r) vs = omega arith
pinned_first w (value.Held m) vs = omega arith

pinned_among : (w : ℕ) (vs : List Value) (i : ℕ) (v : Value) → slice_get vs i ≡ Some v → times w (pinned_words (v ∷ [])) ≤ times w (pinned_words vs)
pinned_among w [] i v e = absurd (cc e)
pinned_among w (x ∷ vs) zero v e = let same : x ≡ v = cc in let a = ap (λ z. times w (pinned_words (z ∷ []))) same in omega (arith, pinned_first w x vs, a)
pinned_among w (x ∷ vs) (suc i) v e = omega (arith, pinned_first w x vs, pinned_among w vs i v e)

spare_uses : (y : ThreadState) (w : ℕ) → times w (used_words y) ≡ times w y.walk + times w (pinned_words y.slots) + times w (pinned_words y.temps)
spare_uses y w = omega (arith, times_append w (y.walk ++ pinned_words y.slots) (pinned_words y.temps), times_append w y.walk (pinned_words y.slots))

pub slot_spare : (y : ThreadState) (cs : List Copy) (i : ℕ) (v : Value) → Usable y cs → slice_get y.slots i ≡ Some v → Spare y cs v
slot_spare y cs i v u e w = omega (arith, u w, spare_uses y w, pinned_among w y.slots i v e)

pub temp_spare : (y : ThreadState) (cs : List Copy) (i : ℕ) (v : Value) → Usable y cs → slice_get y.temps i ≡ Some v → Spare y cs v
temp_spare y cs i v u e w = omega (arith, u w, spare_uses y w, pinned_among w y.temps i v e)

-- a value that is no mutable reference to an object goes
pub goes : (y : ThreadState) (cs : List Copy) (s holder : Spot) (v : Value) (h : Hand) → h.thread.walk ≡ y.walk → h.work.rest.cache ≡ cs → Spare y cs v → FollowsNone (ending s (Some v)) → IsSome (committed (goes_on (drop_value holder v h)))
goes y cs s holder v h walk cache spare none = by v spare none
  where
    bare : IsSome (unpin_all h.thread.walk cs)
    bare = subst (λ ws. IsSome (unpin_all ws cs)) (sym walk) (unpins y.walk cs (λ w. omega (arith, spare w)))

    still : (h2 : Hand) → h2.thread.walk ≡ h.thread.walk → h2.work.rest.cache ≡ cs → IsSome (committed (goes_on (Some h2)))
    still h2 same c = settled fresh.None (go_on h2) (subst (λ ws. IsSome (unpin_all ws h2.work.rest.cache)) (sym same) (subst (λ d. IsSome (unpin_all h.thread.walk d)) (sym c) bare))

    shared : (r : SharedRef) (b : Bool) → ((w : ℕ) → times w (pinned_word r b []) + times w y.walk ≤ users cs w) → IsSome (committed (goes_on (unpin_ref r b h)))
    shared r false l = still h refl cache
    shared r true l =
        let rest : IsSome (unpin_all y.walk (unpin cs r.word)) = unpins y.walk (unpin cs r.word) (one_less y.walk cs r.word (λ w. omega (arith, l w))) in
        let user : can_unpin cs r.word ≡ true = has_user cs r.word (omega (arith, l r.word, itself_once r.word)) in
        subst (λ d. IsSome (committed (goes_on (if can_unpin d r.word then Some (working (with_cache (unpin d r.word)) h) else None)))) (sym cache) (here (can_unpin cs r.word) user rest)
      where
        here : (b : Bool) → b ≡ true → IsSome (unpin_all y.walk (unpin cs r.word)) → IsSome (committed (goes_on (if b then Some (working (with_cache (unpin cs r.word)) h) else None)))
        here true e g = settled fresh.None (go_on (working (with_cache (unpin cs r.word)) h)) (subst (λ ws. IsSome (unpin_all ws (unpin cs r.word))) (sym walk) g)
        here false e g = absurd (cc e)

    by : (v : Value) → Spare y cs v → FollowsNone (ending s (Some v)) → IsSome (committed (goes_on (drop_value holder v h)))
    by (value.Own x) l f = still (working (give_up x) h) refl (line.given_cache x h.work ∙ cache)
    by (value.Shared r) l f = shared r r.pinned l
    by (value.Mut r) l f = elim f [ ]
    by value.Gone l f = still h refl cache
    by (value.SharedSlot i) l f = still h refl cache
    by (value.MutSlot i) l f = still h refl cache
    by (value.Held m) l f = still h refl cache

-- EACH INSTRUCTION

-- threads that start are elsewhere, and who ends a pair has a law of its own
abbrev IsHere : Kind → Type 0
IsHere step_spawn = ⊥
IsHere step_par = ⊥
IsHere step_par_end = ⊥
IsHere kind = ⊤

no_star : {w : Lval} → FollowsNone (Some (ReadTo w)) → w.depth ≡ 0
no_star (reads_variable e) = e

no_shared : {w : Lval} → FollowsNone (Some (ReadPointer w)) → w.depth ≡ 0
no_shared (shares_variable e) = e

no_lent : {w : Lval} → FollowsNone (Some (LendTo w)) → w.depth ≡ 0
no_lent (lends_variable e) = e

no_write : {w : Lval} → FollowsNone (Some (WriteTo w)) → ⊥
no_write f = elim f [ ]

not_ended : {s : Spot} → FollowsNone (Some (EndRef s)) → ⊥
not_ended f = elim f [ ]

-- a move or an assignment that follows none is of a variable
not_taken : (w : Lval) (d : ℕ) → FollowsNone (Some (read_or_taken w d true)) → d ≡ 0
not_taken w zero f = refl
not_taken w (suc d) f = absurd (no_write f)

not_copied : (w : Lval) (d : ℕ) → FollowsNone (Some (read_or_taken w d false)) → w.depth ≡ 0
not_copied w zero f = no_star f
not_copied w (suc d) f = no_star f

not_assigned : (w : Lval) (d : ℕ) (y : ThreadState) → FollowsNone (assigned w d y) → d ≡ 0
not_assigned w zero y f = refl
not_assigned w (suc d) y f = absurd (no_write f)

ending_none : (s : Spot) (v : Value) → FollowsNone (ending s (Some v)) → ending s (Some v) ≡ None
ending_none s (value.Mut m) f = absurd (not_ended f)
ending_none s _ f = refl

module _ (servers : ℕ) (r : Rest) (y : ThreadState) (N : NameTypes) (table : Table) (uses : Usable y r.cache) (grow : can_grow r.partition ≡ true) (make : can_make r.mutexes ≡ true) where
  abbrev h : Hand
  h = record { work = begin_work r; thread = y }

  u : IsSome (unpin_all y.walk r.cache)
  u = walk_goes y r.cache uses

  abbrev Done : Instr → Type 0
  Done j = IsSome (step servers j h)

  abbrev Goes : Option Hand → Type 0
  Goes o = IsSome (committed (goes_on o))

  -- at a place without a star
  at_variable : (P : Lval → Type 0) (w : Lval) → w.depth ≡ 0 → P (record { slot = w.slot; depth = 0 }) → P w
  at_variable P w e p = subst (λ d. P (record { slot = w.slot; depth = d })) (sym e) p

  variable : (e : Env) (w : Lval) (f : Piece) → slots_wrong N e (reverse y.slots) ≡ 0 → HasType e w (found f) → w.depth ≡ 0 → Stands N f y.slots w.slot
  variable e w f fit has none = stands N e y.slots w.slot f fit has.named (subst (λ d. type_at e (record { slot = w.slot; depth = d }) ≡ found f) none has.is)

  -- an assignment to a variable
  replaces : (i : ℕ) (o : Operand) (v old : Value) (rest : List Value) → pop o h ≡ Some (record { item = v; hand = with_temps rest h }) → slice_get y.slots i ≡ Some old → FollowsNone (ending (in_slot i) (slice_get y.slots i)) → Done (instr.Assign (record { slot = i; depth = 0 }) o)
  replaces i o v old rest e there none =
      let within : i < length y.slots = slice_get_within y.slots i old there in
      subst (λ c. IsSome (prepared servers (instr.Assign (record { slot = i; depth = 0 }) o) (prepare c h))) (sym (ap (ending (in_slot i)) there ∙ ending_none (in_slot i) old old_none))
      (subst (λ p. Goes (then_some p (λ t. replace_slot i nowhere t.item t.hand))) (sym e)
      (subst (λ x. Goes (then_some x (λ q. then_some (put_slot i v (label_dropped q (with_temps rest h))) (drop_value nowhere q)))) (sym there) (by (nat_lt i (length y.slots)) (grind (arith, nat_tests, within)))))
    where
      old_none : FollowsNone (ending (in_slot i) (Some old))
      old_none = subst (λ x. FollowsNone (ending (in_slot i) x)) there none

      by : (b : Bool) → b ≡ true → Goes (then_some (if b then Some (with_slots (slice_set y.slots i v) (label_dropped old (with_temps rest h))) else None) (drop_value nowhere old))
      by true q = goes y r.cache (in_slot i) nowhere old (with_slots (slice_set y.slots i v) (label_dropped old (with_temps rest h))) refl refl (slot_spare y r.cache i old uses there) old_none
      by false q = absurd (cc q)

  -- the value on top goes, or the newest variable
  discards : (v : Value) → last_of y.temps ≡ Some v → FollowsNone (ending on_top (last_of y.temps)) → Done instr.Discard
  discards v there none =
      let v_none : FollowsNone (ending on_top (Some v)) = subst (λ x. FollowsNone (ending on_top x)) there none in
      let h2 : Hand = label_dropped v (with_temps (front_of y.temps) h) in
      subst (λ c. IsSome (prepared servers instr.Discard (prepare c h))) (sym (ap (ending on_top) there ∙ ending_none on_top v v_none))
      (subst (λ x. Goes (then_some {X = Popped Value} (option_map (λ q. record { item = q; hand = with_temps (front_of y.temps) h }) x) (λ t. drop_value nowhere t.item (label_dropped t.item t.hand)))) (sym there)
      (goes y r.cache on_top nowhere v h2 refl refl (temp_spare y r.cache (length y.temps - 1) v uses there) v_none))

  drops_slot : (v : Value) → last_of y.slots ≡ Some v → FollowsNone (ending (in_slot (length y.slots - 1)) (last_of y.slots)) → Done instr.DropSlot
  drops_slot v there none =
      let s : Spot = in_slot (length y.slots - 1) in
      let v_none : FollowsNone (ending s (Some v)) = subst (λ x. FollowsNone (ending s x)) there none in
      let h2 : Hand = label_dropped v (with_slots (front_of y.slots) h) in
      subst (λ c. IsSome (prepared servers instr.DropSlot (prepare c h))) (sym (ap (ending s) there ∙ ending_none s v v_none))
      (subst (λ x. Goes (then_some {X = Popped Value} (option_map (λ q. record { item = q; hand = with_slots (front_of y.slots) h }) x) (λ t. drop_value nowhere t.item (label_dropped t.item t.hand)))) (sym there)
      (goes y r.cache s nowhere v h2 refl refl (slot_spare y r.cache (length y.slots - 1) v uses there) v_none))

  -- what the lock of a block holds, above its mark
  unlocks : (e : Env) (w : Lval) (name : Text) (x : OwnedType) → slots_wrong N (with_lock e w name x) (reverse y.slots) ≡ 0 → Done instr.Unlock
  unlocks e w name x fit =
      let top = newest_of N (record { name = Some name; part = whole (own x) }) (record { name = None; part = whole (shared (w ∷ [])) } ∷ e) y.slots fit in
      let v = owned_form N x top.item top.form in
      let below = newest_of N (record { name = None; part = whole (shared (w ∷ [])) }) e (front_of y.slots) top.left in
      let m = mark_form below.item below.form in
      line.unlocks servers r y u v.0 m.0 (top.last ∙ ap Some v.1) (below.last ∙ ap Some m.1)

  -- where the instruction's type and the forms of what stands in the thread are known
  pub by_type : (E E2 : Entry) (i : Instr) → InstrTypes table E i E2 → IsHere (instr_kind i) → (instr_kind i ≡ step_join → y.gift ≡ None) → temps_wrong N E.temps (reverse y.temps) ≡ 0 → slots_wrong N E.env (reverse y.slots) ≡ 0 → FollowsNone (access_of i y) → Done i
  by_type _ _ _ (i_let {ts = ts} {us = us} {o = o} {k = q} x takes new) here bare temps slots f = let g = gets N o ts us q h takes temps in line.lets servers r y u o g.item g.rest g.pops
  by_type _ _ _ (i_assign {e = e} {ts = ts} {us = us} {o = o} {w = w} {k = q} {p = p} takes has opens kept shape below) here bare temps slots f =
      let g = gets N o ts us q h takes temps in
      let none = not_assigned w w.depth y f in
      let v = variable e w p slots has none in
      at_variable (λ x. Done (instr.Assign x o)) w none (replaces w.slot o g.item v.item g.rest g.pops v.there (subst (λ d. FollowsNone (assigned w d y)) none f))
  by_type _ _ _ (i_copy {e = e} {w = w} {k = q} waits has copied free) here bare temps slots f =
      let none = not_copied w w.depth f in
      let v = variable e w (whole q) slots has none in
      let two = second_form N q v.item copied v.form in
      at_variable (λ x. Done (instr.Read x false)) w none (line.copies servers r y u w.slot v.item two.0 v.there two.1)
  by_type _ _ _ (i_move {e = e} {w = w} {k = q} waits has moved free own_path) here bare temps slots f =
      let none = not_taken w w.depth f in
      let v = variable e w (whole q) slots has none in
      at_variable (λ x. Done (instr.Read x true)) w none (line.moves servers r y u w.slot v.item v.there)
  by_type _ _ _ (i_borrow {w = w} waits has free) here bare temps slots f = at_variable (λ x. Done (instr.Borrow x)) w (no_shared f) (line.shares servers r y u w.slot)
  by_type _ _ _ (i_borrow_mut {w = w} waits has opens) here bare temps slots f = at_variable (λ x. Done (instr.BorrowMut x)) w (no_lent f) (line.lends servers r y u w.slot)
  by_type _ _ _ (i_box {ts = ts} {us = us} {x = x} {o = o} takes full) here bare temps slots f =
      let g = gets N o ts us (own x) h takes temps in
      let v = got_owned N o h x us g in
      line.boxes servers r y u o v.0 g.rest grow v.2
  by_type _ _ _ (i_arith {ts = ts} {us = us} {vs = vs} {f = op} {a = a} {b = b} right left) here bare temps slots f =
      let g = gets N b ts us (own int) h right temps in
      let n = got_int N b h us g in
      let g2 = gets N a us vs (own int) (with_temps g.rest h) left g.left in
      let m = got_int N a (with_temps g.rest h) vs g2 in
      line.sums servers r y u op a b m.0 n.0 g.rest g2.rest n.1 m.1
  by_type _ _ _ (i_print {ts = ts} {us = us} {o = o} takes) here bare temps slots f =
      let g = gets N o ts us (own int) h takes temps in
      let n = got_int N o h us g in
      line.prints servers r y u o n.0 g.rest n.1
  by_type _ _ _ (i_discard {k = q} (takes_pop {ts = us} waits)) here bare temps slots f = let top = top_of N q us y.temps temps in discards top.item top.last f
  by_type _ _ _ (i_drop {e = e} {s = s} named locked alive) here bare temps slots f = let top = newest_of N s e y.slots slots in drops_slot top.item top.last f
  by_type _ _ _ (i_spawn waits pass body full) here bare temps slots f = absurd here
  by_type _ _ _ (i_join {ts = ts} {us = us} {x = x} {o = o} takes) here bare temps slots f =
      let g = gets N o ts us (own (task x)) h takes temps in
      let v = task_form N x g.item g.form in
      line.joins servers r y u o g.item v.0 g.rest (bare refl) g.pops v.1
  by_type _ _ _ (i_mutex {ts = ts} {us = us} {x = x} {o = o} takes full) here bare temps slots f =
      let g = gets N o ts us (own x) h takes temps in
      let v = got_owned N o h x us g in
      line.mutexes servers r y u o v.0 g.rest make v.2
  by_type _ _ _ (i_dup {e = e} {x = x} {w = w} waits has free) here bare temps slots f =
      let none = no_star f in
      let v = variable e w (whole (own (mutex x))) slots has none in
      let m = mutex_form N x v.item v.form in
      at_variable (λ q. Done (instr.Dup q)) w none (line.dups servers r y u w.slot m.0 (v.there ∙ ap Some m.1))
  by_type _ _ _ (i_lock {e = e} {x = x} {w = w} name waits has free new) here bare temps slots f =
      let none = no_star f in
      let v = variable e w (whole (own (mutex x))) slots has none in
      let m = mutex_form N x v.item v.form in
      at_variable (λ q. Done (instr.Lock q)) w none (line.locks servers r y u w.slot m.0 (v.there ∙ ap Some m.1))
  by_type _ _ _ (i_unlock {e = e} {x = x} {w = w} {name = name} held) here bare temps slots f = unlocks e w name x slots
  by_type _ _ _ (i_par waits first second body other) here bare temps slots f = absurd here
  by_type _ _ _ i_par_end here bare temps slots f = absurd here

  pub by_row : (E : Entry) (i : Instr) (ss : Successors) → Leads table y.pc E i ss → IsHere (instr_kind i) → (instr_kind i ≡ step_join → y.gift ≡ None) → temps_wrong N E.temps (reverse y.temps) ≡ 0 → slots_wrong N E.env (reverse y.slots) ≡ 0 → FollowsNone (access_of i y) → Done i
  by_row E i _ (to_next {y = E2} typed) here bare temps slots f = by_type E E2 i typed here bare temps slots f
  by_row _ _ _ (ends {ts = ts} {g = x} {o = o} takes) here bare temps slots f =
      let g = gets N o ts [] (own x) h takes temps in
      let v = got_owned N o h x [] g in
      line.ends servers r y u o v.0 g.rest v.2

-- IN A COHERENT CLUSTER

module _ (k : Cluster) (n t : ℕ) (s : Server) (y : ThreadState) (i : Instr) (z : Steps k n t s y i) where
  pub follows_none : IsHere (instr_kind i) → (instr_kind i ≡ step_join → y.gift ≡ None) → FollowsNone (access_of i y) → HasResult k n (Step t)
  follows_none here bare f =
      has_result k n t s y i z
      (by_row k.options.servers s.rest y (names k n t s y i z) (types k n t s y i z).table (usable k n t s y i z) (grows k n t s y i z) (makes k n t s y i z) (entry k n t s y i z) i (typed k n t s y i z).0 (typed k n t s y i z).1 here bare (temps_fit k n t s y i z) (slots_fit k n t s y i z) f)

pub quiet_steps : (kind : Kind) → IsHere kind → (kind ≡ step_join → ⊥) → StepsHaveResults kind FollowsNone
quiet_steps kind here no_join k n t s y i coherent few server on at code is f =
    follows_none k n t s y i (record { coherent = coherent; few = few; here = server; on = on; at = at; code = code })
    (subst IsHere (sym is) here) (λ e. absurd (no_join (sym is ∙ e))) f

-- a join asks, or takes the result that came
pub join_steps : StepsHaveResults step_join FollowsNone
join_steps k n t s y i coherent few server on at code is f = by y.gift refl i code is f
  where
    by : (g : Option Owned) → y.gift ≡ g → (j : Instr) → slice_get k.code y.pc ≡ Some j → instr_kind j ≡ step_join → FollowsNone (access_of j y) → HasResult k n (Step t)
    by None e j c is f = follows_none k n t s y j (record { coherent = coherent; few = few; here = server; on = on; at = at; code = c }) (subst IsHere (sym is) tt) (λ q. e) f
    by (Some v) e (instr.Join o) c is f = steps_have_results.joins k n t s y o v coherent.sound server on at e c
    by (Some v) e _ c is f = absurd (cc is)

pub pair_steps : StepsHaveResults step_par_end FollowsNone
pair_steps k n t s y i coherent few server on at code is f = by i code is
  where
    by : (j : Instr) → slice_get k.code y.pc ≡ Some j → instr_kind j ≡ step_par_end → HasResult k n (Step t)
    by instr.ParEnd c e = steps_have_results.pairs k n t s y coherent.sound server on at c
    by _ c e = absurd (cc e)
