-- A step that is done leaves the places that other threads lock or dup: each leads where it led, and the same mutex stands there.
use Rattle.std.proofs.Common.{◌≡◌, ◌≢◌, inl, inr, ℕ, zero, suc, ◌+◌, ◌-◌, ◌≤◌, ◌==◌, ◌&&◌, Bool, true, false, if◌then◌else◌, List, [], ◌∷◌, Option, Some, None, option_map, refl, sym, ap, subst, ◌∙◌, arith}
use Rattle.std.specs.Prelude.{slice_get, reverse}
use Rattle.std.proofs.lemmas.Bool.Decides.{nat_tests}
use Rattle.law_counts_asking.proofs.Below.fr_typing.PlaceLemmas.{eq_cases}
use Rattle.law_counts_asking.specs.Below.fr_base.declared.place.Lval.{Lval}
use Rattle.law_counts_asking.specs.Below.fr_base.declared.name.ObjNo.{ObjNo}
use Rattle.law_counts_asking.specs.Below.fr_base.declared.label.Plain.{Plain}
use Rattle.law_counts_asking.specs.Below.fr_base.Names.{same_object, same_plain}
use Rattle.law_counts_asking.specs.Below.fr_plain.declared.value.Value.TheVariants.{Own}
use Rattle.law_counts_asking.specs.Below.fr_plain.State.{slot_at}
use Rattle.law_counts_asking.specs.Below.fr_code.Machine.{CodeRunning}
use Rattle.law_counts_asking.specs.Below.fr_sound.Seen.{seen_cell}
use Rattle.law_counts_asking.specs.Below.fr_store.Keys.{slot_k}
use Rattle.law_counts_asking.specs.Below.fr_store.Store.{below_key}
use Rattle.law_counts_asking.proofs.Below.fr_store.Chains.{unique}
use Rattle.law_counts_asking.specs.Below.heap_partition.Plain.{plain_of}
use Rattle.law_counts_asking.specs.Below.heap_partition.declared.value.Cell.{Cell}
use Rattle.law_counts_asking.specs.Below.thread_state.View.{ThreadState, is_over}
use Rattle.law_counts_asking.specs.Below.server_model.Servers.{Cluster}
use Rattle.law_counts_asking.specs.Below.coherent_memory.Names.{tot, one, Among}
use Rattle.law_counts_asking.specs.Below.coherent_memory.Things.{Location, at_slot, in_cell, Thing, stands, things_of}
use Rattle.law_counts_asking.specs.Below.coherent_memory.Follow.{Standing, Ground, threads_in, cells_in, thread_at, cell_of, slot_of, value_of, value_in, value_behind, leads, locate, value_at}
use Rattle.law_counts_asking.specs.Below.coherent_memory.Sight.{Sight, sight}
use Rattle.law_counts_asking.specs.Below.coherent_memory.Requests.{mutex_of}
use Rattle.law_counts_asking.specs.Below.coherent_memory.OneHeap.{object_value, plain_value, running_at}
use Rattle.law_counts_asking.specs.Below.law_words_paths.paths.HeapStore.{in_store, heap_store, GoesOn, HasPaths}
use Rattle.law_counts_asking.proofs.Below.law_words_paths.paths.Shown.{shown_value, object_shown, stands_there}
use Rattle.law_counts_asking.proofs.Below.law_words_paths.paths.Alike.{IsShown, a_slot, an_object, leads_in_heap}
use Rattle.law_counts_asking.proofs.Below.law_words_paths.paths.FreshPaths.{threads_same}
use Rattle.law_words_asked.specs.Below.law_words_paths.words.Reworded.{HasPlaces}
use Rattle.law_words_asked.proofs.Below.law_words_paths.words.Standing.{InCell, cell_among, cell_found}
use Rattle.law_words_asked.proofs.Below.law_words_kept.reads.FreshReads.{Reading}
use Rattle.law_words_asked.specs.Below.law_heap_still.events.Shows.{a_thread, an_object as an_object_sign, ShownThread, shown_thread, has_both, sign_of}
use Rattle.law_words_asked.proofs.Below.law_heap_still.events.PlainValues.{plain_leads, plain_mutex, leads_plain, mutex_plain, shown_by_frames}
use Rattle.law_words_asked.proofs.Below.law_heap_still.events.Tests.{IsTest, same_part, threads, objects}
use Rattle.law_words_asked.proofs.Below.law_heap_still.events.Told.{found}
use Rattle.law_counts_waiting.proofs.waits.Written.{InChain, Written}
use Rattle.law_counts_waiting.proofs.waits.Clusters.{Weight, Leaves}
use Rattle.law_counts_waiting.proofs.waits.Found.{among_weighs, shows_thread, sees_thread, shows_itself, ShowsIt, thread_shown, shows_cell, sees_cell, ShowsCell, cell_shown, cell_weighs}

-- WHAT ANOTHER THREAD WRITES

-- a thread doesn't follow what another one writes
abbrev pub Apart : (k : Cluster) → HasPaths k → Standing → Location → Type 0
Apart k p x l = (t : ℕ) (o : ObjNo) → l ≡ in_cell o → Written k p t o → x.thread.number ≡ t

-- where it reads
pub reads_apart : (k : Cluster) (p : HasPaths k) (x : Standing) (l : Location) → Reading k p x l → Apart k p x l
reads_apart k p x l reads t o e w = w.unread x (subst (λ z. Reading k p x z) e reads)

-- in chains of its own slots
pub chain_apart : (k : Cluster) (p : HasPaths k) (x : Standing) (l : Location) → InChain k p x.thread.number l → Apart k p x l
chain_apart k p x l c t o e w =
    let v = w.chain in
    let there : below_key (heap_store k p.types) (slot_k t v.slot) v.boxes ≡ Some (in_store l) = v.leads_there ∙ ap (λ z. Some (in_store z)) (sym e) in
    threads_same (unique (heap_store k p.types) p.types.state.typed.owner (slot_k x.thread.number c.slot) (slot_k t v.slot) c.boxes v.boxes (in_store l) c.leads_there there).0

-- THE CLUSTER AFTERWARDS

truth_cases : (b : Bool) (P : Bool → Type 0) → (b ≡ true → P true) → (b ≡ false → P false) → P b
truth_cases true P f g = f refl
truth_cases false P f g = g refl

module _ (k c : Cluster) (t server : ℕ) (p : HasPaths k) (after : HasPlaces c) (leaves : Leaves k p t server (things_of k) (things_of c)) where
  abbrev G : Ground
  G = (sight k).ground

  abbrev G2 : Ground
  G2 = (sight c).ground

  -- THREADS

  -- each other thread stands there, and shows the same
  pub record StillThere (x : Standing) : Type 0 where
    pub standing : Standing
    pub found : thread_at (sight c).ground.threads x.thread.number ≡ Some standing
    pub same : shown_thread standing.thread ≡ shown_thread x.thread

  thread_own : (x : Standing) → x.thread.number ≢ t → (z : ShownThread) → z.number ≡ t → one (same_part z (shown_thread x.thread)) ≡ 0
  thread_own x ne z e =
      truth_cases (same_part z (shown_thread x.thread)) (λ b. one b ≡ 0)
      (λ q. (let test : IsTest same_part = threads in absurd (ne (ap (λ (a : ShownThread). a.number) (sym (test.tells z (shown_thread x.thread) q)) ∙ e)))) (λ q. refl)

  abbrev thread_weight : (x : Standing) → x.thread.number ≢ t → Weight k p t
  thread_weight x ne = record { weight = shows_thread (shown_thread x.thread); sees = sees_thread (shown_thread x.thread); own = λ z b e. thread_own x ne z e; apart = λ o h a. refl }

  counted : (x : Standing) (b : List Thing) → Among x (threads_in b) → 1 ≤ tot (λ y. shows_thread (shown_thread x.thread) (sign_of y)) b
  counted x [] h = absurd h
  counted x (stands s q u ∷ b) (inl e) =
      let mine : shows_thread (shown_thread x.thread) (a_thread (shown_thread u) (has_both u.phase)) ≡ 1 = ap (λ (y : Standing). shows_thread (shown_thread y.thread) (a_thread (shown_thread u) (has_both u.phase))) (sym e) ∙ shows_itself u (has_both u.phase) in
      omega (arith, mine)
  counted x (stands s q u ∷ b) (inr h) = omega (arith, counted x b h)
  counted x (_ ∷ b) h = omega (arith, counted x b h)

  pub still_there : (x : Standing) → Among x (threads_in (things_of k)) → x.thread.number ≢ t → StillThere x
  still_there x among ne =
      let more : tot (λ y. shows_thread (shown_thread x.thread) (sign_of y)) (things_of k) ≤ tot (λ y. shows_thread (shown_thread x.thread) (sign_of y)) (things_of c) = leaves.much (thread_weight x ne) in
      let r = thread_shown (shown_thread x.thread) (things_of c) (omega (arith, more, counted x (things_of k) among)) in
      let number : r.standing.thread.number ≡ x.thread.number = ap (λ (z : ShownThread). z.number) r.same in
      record { standing = r.standing; found = subst (λ u. thread_at (sight c).ground.threads u ≡ Some r.standing) number (found r.standing (things_of c) (after.numbers_differ r.standing.thread.number) r.among); same = r.same }

  -- CELLS

  -- a cell that another thread follows has the value that it had
  cell_apart : (x : Standing) (o : ObjNo) (v : Plain) → Apart k p x (in_cell o) → x.thread.number ≢ t → (q : ObjNo) → Written k p t q → (a : Plain) → one (same_object q o && same_plain a v) ≡ 0
  cell_apart x o v follows ne q h a =
      truth_cases (same_object q o) (λ b. one (b && same_plain a v) ≡ 0)
      (λ e. (let test : IsTest same_object = objects in absurd (ne (follows t q (ap in_cell (sym (test.tells q o e))) h)))) (λ e. refl)

  abbrev cell_weight : (x : Standing) (o : ObjNo) (v : Plain) → Apart k p x (in_cell o) → x.thread.number ≢ t → Weight k p t
  cell_weight x o v follows ne = record { weight = shows_cell o v; sees = sees_cell o v; own = λ z b e. refl; apart = cell_apart x o v follows ne }

  pub cell_kept : (x : Standing) (o : ObjNo) (v : Plain) → Apart k p x (in_cell o) → x.thread.number ≢ t → (d : Cell) → cell_of G.cells o ≡ Some d → plain_of d.value ≡ v → (d2 : Cell) × (cell_of G2.cells o ≡ Some d2) × (plain_of d2.value ≡ v)
  cell_kept x o v follows ne d there is =
      let more : tot (λ y. shows_cell o v (sign_of y)) (things_of k) ≤ tot (λ y. shows_cell o v (sign_of y)) (things_of c) = leaves.much (cell_weight x o v follows ne) in
      let a = cell_among o d (things_of k) there in
      let weighs : shows_cell o v (sign_of a.thing) ≤ tot (λ y. shows_cell o v (sign_of y)) (things_of k) = among_weighs (λ y. shows_cell o v (sign_of y)) a.thing (things_of k) a.among in
      let r = cell_shown o v (things_of c) (omega (arith, more, weighs, cell_weighs o v d a.thing a.is a.object is)) in
      (r.cell, subst (λ q. cell_of G2.cells q ≡ Some r.cell) r.object (cell_found r.cell r.thing (things_of c) (after.home_of_each r.cell.object) r.is r.among), r.value)

  -- PLACES

  -- those that another thread follows
  module _ (x : Standing) (g : GoesOn k x) (ne : x.thread.number ≢ t) (w : Lval) (follows : (d : ℕ) (l : Location) → d ≤ w.depth → locate (sight k).ground x.thread.number w.slot d ≡ Some l → Apart k p x l) where
    abbrev n : ℕ
    n = x.thread.number

    still : StillThere x
    still = still_there x g.among ne

    slots_at : (i : ℕ) → option_map plain_value (slice_get x.thread.slots i) ≡ option_map plain_value (slice_get still.standing.thread.slots i)
    slots_at i =
        sym (shown_value x.thread.slots i) ∙ ap (λ l. slot_at (reverse l) i) (shown_by_frames x.thread.slots still.standing.thread.slots (sym (ap (λ (z : ShownThread). z.slots) still.same)))
        ∙ shown_value still.standing.thread.slots i

    value_kept : (d : ℕ) (l : Location) → d ≤ w.depth → locate G n w.slot d ≡ Some l → IsShown k p x g l → option_map plain_value (value_in G l) ≡ option_map plain_value (value_in G2 l)
    value_kept d _ le located (a_slot i) = ap (λ o. option_map plain_value (slot_of o i)) (stands_there k p x g) ∙ slots_at i ∙ ap (λ o. option_map plain_value (slot_of o i)) (sym still.found)
    value_kept d _ le located (an_object o v e) = by (object_value (sight k) o) refl e
      where
        by : (q : Option Plain) → object_value (sight k) o ≡ q → seen_cell p.types.typing.gives q ≡ Some v → option_map plain_value (value_in G (in_cell o)) ≡ option_map plain_value (value_in G2 (in_cell o))
        by None q f = absurd (cc f)
        by (Some a) q f =
            let b = object_shown (sight k) o a q in
            let b2 = cell_kept x o a (follows d (in_cell o) le located) ne b.0 b.1 b.2 in
            ap (λ z. option_map plain_value (value_of z)) b.1 ∙ ap (λ z. Some (Own z)) (b.2 ∙ sym b2.2) ∙ ap (λ z. option_map plain_value (value_of z)) (sym b2.1)

    behind_kept : (d : ℕ) → d ≤ w.depth → (o : Option Location) → locate G n w.slot d ≡ o → option_map plain_value (value_behind G o) ≡ option_map plain_value (value_behind G2 o)
    behind_kept d le None e = refl
    behind_kept d le (Some l) e = value_kept d l le e (leads_in_heap k p x g w.slot d l e).1

    pub place_kept : (d : ℕ) → d ≤ w.depth → locate G n w.slot d ≡ locate G2 n w.slot d
    place_kept zero le = refl
    place_kept (suc d) le =
        let at : Option Location = locate G n w.slot d in
        leads_plain n (value_behind G at) ∙ ap (plain_leads n) (behind_kept d (omega (arith, le)) at refl) ∙ sym (leads_plain n (value_behind G2 at)) ∙ ap (λ o. leads n (value_behind G2 o)) (place_kept d (omega (arith, le)))

    pub mutex_kept : mutex_of (value_at G n w) ≡ mutex_of (value_at G2 n w)
    mutex_kept =
        let at : Option Location = locate G n w.slot w.depth in
        mutex_plain (value_behind G at) ∙ ap plain_mutex (behind_kept w.depth (omega arith) at refl) ∙ sym (mutex_plain (value_behind G2 at)) ∙ ap (λ o. mutex_of (value_behind G2 o)) (place_kept w.depth (omega arith))
