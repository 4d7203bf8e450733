-- Each unlock, from a coherent cluster: a content doesn't own its own mutex, so that a mutex which is in the state before is in it afterwards.
use Rattle.std.proofs.Common.{◌≡◌, ℕ, ◌+◌, ◌<◌, ◌≤◌, Bool, true, false, List, [], ◌∷◌, ◌++◌, reverse, Option, Some, None, is_some, refl, sym, ap, subst, ◌∙◌, arith}
use Rattle.std.proofs.lemmas.List.{reverse-append}
use Rattle.law_words_writes.proofs.Below.law_results_reads.Below.coloured_heap.Times.{both}
use Rattle.law_words_writes.specs.Below.law_results_reads.Below.fr_base.declared.name.MutexNo.{MutexNo}
use Rattle.law_words_writes.specs.Below.law_results_reads.Below.fr_base.declared.instruction.Instr.{Instr}
use Rattle.law_words_writes.specs.Below.law_results_reads.Below.fr_base.declared.instruction.Instr.TheVariants as instr
use Rattle.law_words_writes.specs.Below.law_results_reads.Below.fr_typing.Kinds.{Owned as OwnedType, own, shared, mutable, view, Piece, whole, gone, boxed}
use Rattle.law_words_writes.specs.Below.law_results_reads.Below.fr_typing.Places.{Slot, Env}
use Rattle.law_words_writes.specs.Below.law_results_reads.Below.fr_sound.States.{owned_part}
use Rattle.law_words_writes.specs.Below.law_results_reads.Below.heap_partition.declared.value.Owned.{Owned}
use Rattle.law_words_writes.specs.Below.law_results_reads.Below.read_cache.Cache.{Copy}
use Rattle.law_words_writes.specs.Below.law_results_reads.Below.thread_state.View.{ThreadState}
use Rattle.law_words_writes.specs.Below.law_results_reads.Below.thread_state.declared.value.Value.{Value}
use Rattle.law_words_writes.specs.Below.law_results_reads.Below.thread_state.declared.value.Value.TheVariants as value
use Rattle.law_words_writes.specs.Below.law_results_reads.Below.server_model.declared.event.Event.{Event}
use Rattle.law_words_writes.specs.Below.law_results_reads.Below.server_model.Servers.{Server, Cluster}
use Rattle.law_words_writes.specs.Below.law_results_reads.Below.server_model.Clusters.{apply}
use Rattle.law_words_writes.specs.Below.law_results_reads.Below.server_model.Events.{Stepped, begin_work, stepped}
use Rattle.law_words_writes.specs.Below.law_results_reads.Below.server_model.Events.{step as server_step}
use Rattle.law_words_writes.specs.Below.law_results_reads.Below.coherent_memory.Names.{tot, one, other}
use Rattle.law_words_writes.specs.Below.law_results_reads.Below.coherent_memory.Things.{Thing, as_content}
use Rattle.law_words_writes.specs.Below.law_results_reads.Below.coherent_memory.Sight.{sight}
use Rattle.law_words_writes.specs.Below.law_results_reads.Below.coherent_memory.OneHeap.{Node, mutex_n, owns, is_in_state}
use Rattle.law_words_writes.specs.Below.law_results_reads.Below.coherent_memory.Coherent.{IsSound}
use Rattle.law_words_writes.specs.Below.law_results_reads.Below.law_counts_sums.Laws.{Gives}
use Rattle.law_words_writes.proofs.Below.law_results_reads.Below.law_counts_sums.Results.{both_give}
use Rattle.law_words_writes.specs.Below.law_results_reads.Below.coherent_types.Names.{NameTypes, fits, fits_some, is_there, is_type}
use Rattle.law_words_writes.specs.Below.law_results_reads.Below.coherent_types.ClusterTypes.{has_form, slot_form, slots_wrong, locked_of, IsCoherent}
use Rattle.law_heap_writes.proofs.drops.TypedStep as typed
use Rattle.law_heap_steps.proofs.turns.Parts.{owned_in}
use Rattle.law_heap_steps.proofs.turns.OneTurn.{after}
use Rattle.law_heap_steps.specs.turns.Turns.{IsPlainStep, ArePlainSteps, instr_of, thread_of}
use Rattle.law_heap_steps.proofs.turns.Events.{AtStep, Sends, events_are}
use Rattle.law_heap_steps.proofs.turns.Clauses.{same_thread}
use Rattle.law_heap_steps.specs.mutexes.Locks.{marked, IsThere}
use Rattle.law_heap_steps.proofs.mutexes.Changed as changed
use Rattle.law_heap_steps.proofs.mutexes.NewMutex.{rest_less}
use Rattle.law_heap_steps.proofs.mutexes.Places.{there_too}
use Rattle.law_heap_steps.proofs.mutexes.ThreadTurns.{Next}
use Rattle.law_heap_steps.proofs.mutexes.UnlockLines as unlock_lines
use Rattle.law_heap_steps.proofs.mutexes.Clauses.{unlocks}
use Rattle.law_heap_writes.specs.drops.Drops.{IsGone, unlocks_mutex}
use Rattle.law_heap_writes.proofs.drops.Under.{under_names}
use Rattle.law_heap_writes.proofs.drops.Clauses.{stepping}
use Rattle.law_heap_writes.proofs.drops.Levels as levels
use Rattle.law_heap_writes.proofs.drops.Levels.{same_type, fewer}
use Rattle.law_heap_writes.proofs.drops.Reaches as reaches
use Rattle.law_heap_writes.proofs.drops.Outside as outside
use Rattle.law_heap_writes.proofs.drops.ThreadLoses as loses
use Rattle.law_heap_writes.proofs.drops.UnlockGone as unlock
use Rattle.law_heap_writes.proofs.drops.UnlockGone.{unlocks_of_gone}

-- A CONTENT AGREES WITH ITS MUTEX'S TYPE

not_other : (b : Bool) → other b ≡ 0 → b ≡ true
not_other true e = refl
not_other false e = absurd (cc e)

no_more : (a b : ℕ) → a + b ≡ 0 → (a ≡ 0) × (b ≡ 0)
no_more a b e = (omega (arith, e), omega (arith, e))

part_fits : (n : NameTypes) (p : Piece) (v : Owned) → has_form n p (value.Own v) ≡ true → fits_some n (owned_part p) v ≡ true
part_fits n (whole (own o)) v e = (both (is_there v) (fits n o v) e).1
part_fits n (whole (shared us)) v e = absurd (cc e)
part_fits n (whole (mutable us)) v e = absurd (cc e)
part_fits n (whole (view o)) v e = absurd (cc e)
part_fits n (gone k) v e = absurd (cc e)
part_fits n (boxed p) v e = (both (is_there v) (fits_some n (owned_part (boxed p)) v) e).1

slot_fits : (n : NameTypes) (s : Slot) (b : Bool) (v : Owned) → slot_form n s b (value.Own v) ≡ true → fits_some n (owned_part s.part) v ≡ true
slot_fits n s true v e = part_fits n s.part v e
slot_fits n s false v e = absurd (cc e)

fits_of : (n : NameTypes) (o : Option OwnedType) (p : OwnedType) (v : Owned) → is_type o p ≡ true → fits_some n o v ≡ true → fits n p v ≡ true
fits_of n None p v e f = absurd (cc e)
fits_of n (Some q) p v e f = subst (λ x. fits n x v ≡ true) (same_type q p e) f

content_fits : (n : NameTypes) (m : MutexNo) (v : Owned) (e : Env) (us : List Value) → slots_wrong n e (value.Own v ∷ value.Held m ∷ us) ≡ 0 → locked_of n e (value.Own v ∷ value.Held m ∷ us) ≡ 0 → fits n (n.mutex m) v ≡ true
content_fits n m v [] us y z = absurd (omega (arith, y))
content_fits n m v (c ∷ e) us y z =
    let fit = not_other (slot_form n c (is_some c.name) (value.Own v)) (no_more (other (slot_form n c (is_some c.name) (value.Own v))) (slots_wrong n e (value.Held m ∷ us)) y).0 in
    let type = not_other (is_type (owned_part c.part) (n.mutex m)) (no_more (other (is_type (owned_part c.part) (n.mutex m))) (locked_of n e (value.Held m ∷ us)) z).0 in
    fits_of n (owned_part c.part) (n.mutex m) v type (slot_fits n c (is_some c.name) v fit)

module _ (k : Cluster) (co : IsCoherent k) (e : Event) (s : Server) (t : ℕ) (x : ThreadState) (at : AtStep k e instr.Unlock s t x) where
  abbrev n : NameTypes
  n = levels.n k co

  module _ (m : MutexNo) (v : Owned) (rest : List Value) (split : x.slots ≡ (rest ++ value.Held m ∷ []) ++ value.Own v ∷ []) where
    newest : reverse x.slots ≡ value.Own v ∷ value.Held m ∷ reverse rest
    newest = ap reverse split ∙ reverse-append (rest ++ value.Held m ∷ []) (value.Own v ∷ []) ∙ ap (λ l. value.Own v ∷ l) (reverse-append rest (value.Held m ∷ []))

    content_agrees : fits n (n.mutex m) v ≡ true
    content_agrees =
        let E = typed.entry k co e instr.Unlock s t x at in
        content_fits n m v E.env (reverse rest) (subst (λ l. slots_wrong n E.env l ≡ 0) newest (typed.slots_fit k co e instr.Unlock s t x at)) (subst (λ l. locked_of n E.env l ≡ 0) newest (typed.locked_fits k co e instr.Unlock s t x at))

    abbrev sound : IsSound k
    sound = co.sound

    abbrev became : ThreadState
    became = after x (x.pc + 1) rest x.temps

    bare : x.gift ≡ None
    bare = unlock.bare k sound e s t x at

    even : (q : Node) → owned_in q x.slots + owned_in q x.temps ≡ owned_in q rest + owned_in q x.temps + one (owns q v)
    even = unlock.even k sound e s t x at m v rest split

    abbrev Rest : List Thing
    Rest = loses.Rest k sound e instr.Unlock refl s t x at bare v became even

    none_bad : tot (levels.bad k co) Rest ≡ 0
    none_bad = let l = rest_less k sound e s at.here t x at.at at.number (levels.bad k co) in let z = levels.all_agree k co in omega (arith, l, z)

    falls : (w q : Node) → 1 ≤ tot (under_names (loses.s2 k sound e instr.Unlock refl s t x at bare v became even) w q) (loses.B k sound e instr.Unlock refl s t x at bare v became even) → levels.level n q < levels.level n w
    falls w q l =
        let at_start = loses.under_before k sound e instr.Unlock refl s t x at bare v became even (λ r. refl) (loses.once_then k sound e instr.Unlock refl s t x at bare v became even (unlock.goes2 k sound e s t x at m v rest split) refl) w q in
        levels.levels_fall k co w q Rest none_bad (omega (arith, l, at_start))

    -- where it is in the state before, it is so afterwards
    in_then : is_in_state (unlock.s1 k sound e s t x at m v rest split) (mutex_n m) ≡ true → is_in_state (unlock.s3 k sound e s t x at m v rest split) (mutex_n m) ≡ true
    in_then here =
        let in_v = sym (loses.same_in k sound e instr.Unlock refl s t x at bare v became even (mutex_n m) refl) ∙ here in
        let in_none = reaches.still_in k s.rest.number (unlock.y k sound e s t x at m v rest split) (unlock.B k sound e s t x at m v rest split) v (mutex_n m) (levels.level n) (λ q it. fewer n (n.mutex m) q v content_agrees it) falls in_v in
        outside.more k s.rest.number (unlock.y k sound e s t x at m v rest split) s.rest (unlock.C k sound e s t x at m v rest split) (as_content m) (mutex_n m) v (mutex_n m) in_none

    in_before : is_in_state (sight k) (mutex_n m) ≡ true → is_in_state (unlock.s1 k sound e s t x at m v rest split) (mutex_n m) ≡ true
    in_before = there_too (is_in_state (unlock.s1 k sound e s t x at m v rest split) (mutex_n m)) (is_in_state (sight k) (mutex_n m)) _ _ ((changed.state_before k sound e s at.here t x at.at at.number).mutexes m)

    stays : is_in_state (sight k) (mutex_n m) ≡ true → (cs : List Copy) → Sends k e s (stepped s (unlock.d k sound e s t x at m v rest split cs)) → is_in_state (sight (Next k sound e instr.Unlock refl s t x at (unlock.d k sound e s t x at m v rest split cs))) (mutex_n m) ≡ true
    stays here cs goes =
        sym (changed.nodes_after k sound e s at.here t x at.at at.number (unlock.d k sound e s t x at m v rest split cs) became (ap (λ g. (let z : ThreadState = record became { gift = g } in z)) bare) (unlock.G2 k sound e s t x at m v rest split) (unlock.moves_to k sound e s t x at m v rest split cs) goes
        (loses.beside1 k sound e instr.Unlock refl s t x at bare v became even) (tt, (tt, tt)) refl (unlock_lines.once_then k sound e s t x at m v rest split) (mutex_n m)) ∙ in_then (in_before here)

  -- what the mutex of the unlock is
  same_mark : {m w : MutexNo} → Some m ≡ Some w → m ≡ w
  same_mark e = cc

  unlock_stays : (m : MutexNo) → marked x ≡ Some m → is_in_state (sight k) (mutex_n m) ≡ true
      → Gives (λ (d : Stepped). Sends k e s (stepped s d) → is_in_state (sight (Next k co.sound e instr.Unlock refl s t x at d)) (mutex_n m) ≡ true) (server_step k.options.servers instr.Unlock (record { work = begin_work s.rest; thread = x }))
  unlock_stays m mark here =
      unlock.each_done k co.sound e s t x at (λ d. Sends k e s (stepped s d) → is_in_state (sight (Next k co.sound e instr.Unlock refl s t x at d)) (mutex_n m) ≡ true)
      (λ w v rest split it cs. (let same : w ≡ m = same_mark (sym it ∙ mark) in
      subst (λ z. Sends k e s (stepped s (unlock.d k co.sound e s t x at w v rest split cs)) → is_in_state (sight (Next k co.sound e instr.Unlock refl s t x at (unlock.d k co.sound e s t x at w v rest split cs))) (mutex_n z) ≡ true) same
      (stays w v rest split (ap (λ z. is_in_state (sight k) (mutex_n z)) same ∙ here) cs)))

pub unlocks_plain : ArePlainSteps IsCoherent unlocks_mutex
unlocks_plain k e i q it co few = let y = stepping k e i q in by i q it y.0 y.1
  where
    whole : (y : ThreadState) → instr_of k e ≡ Some instr.Unlock → thread_of k e ≡ Some y → (o : Option MutexNo) → marked y ≡ o → Gives (IsPlainStep k) (apply k e)
    whole y q th None mark = unlocks_of_gone k e y q th (subst (IsGone k) (sym mark) tt) co.sound few
    whole y q th (Some m) mark = of (is_in_state (sight k) (mutex_n m)) refl
      where
        of : (b : Bool) → is_in_state (sight k) (mutex_n m) ≡ b → Gives (IsPlainStep k) (apply k e)
        of false f = unlocks_of_gone k e y q th (subst (IsGone k) (sym mark) f) co.sound few
        of true f =
            both_give (λ d. IsThere d.0 (Some m)) (λ d. IsThere d.0 (marked y) → IsPlainStep k d) (IsPlainStep k) (apply k e)
            (events_are (λ d. IsThere d.0 (Some m)) k e instr.Unlock co.sound few (λ s t x at. unlock_stays k co e s t x at m (ap marked (same_thread k e instr.Unlock s t x y at th) ∙ mark) f) q)
            (unlocks k e y q th co.sound few) (λ d there plain. plain (subst (IsThere d.0) (sym mark) there))

    by : (i : Instr) → instr_of k e ≡ Some i → unlocks_mutex i ≡ true → (y : ThreadState) → thread_of k e ≡ Some y → Gives (IsPlainStep k) (apply k e)
    by instr.Unlock q it y th = whole y q th (marked y) refl
    by _ q it y th = absurd (cc it)
