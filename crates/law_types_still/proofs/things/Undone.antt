-- Event by event: whatever does no plain step leaves a cluster that has types.
use Rattle.std.proofs.Common.{◌≡◌, ℕ, ◌+◌, ◌≤◌, List, [], ◌∷◌, Option, None, sym, ap₂, ◌∙◌, subst, arith}
use Rattle.std.proofs.Math.Path.{fun_ext}
use Rattle.law_counts_things.specs.Below.fr_plain.PlainState.{SameState}
use Rattle.law_counts_things.specs.Below.fr_code.Machine.{CodeState}
use Rattle.law_counts_things.specs.Below.fr_code.CodeTable.{IsTable}
use Rattle.law_counts_things.specs.Below.heap_partition.declared.value.Owned.{Owned}
use Rattle.law_counts_things.specs.Below.journal.View.{EntryView}
use Rattle.law_counts_things.specs.Below.server_model.declared.event.Event.{Event}
use Rattle.law_counts_things.specs.Below.server_model.Servers.{Server, Cluster}
use Rattle.law_counts_things.specs.Below.server_model.Clusters.{apply}
use Rattle.law_counts_things.specs.Below.coherent_memory.Names.{tot}
use Rattle.law_counts_things.specs.Below.coherent_memory.Things.{Spot, in_slot, in_temp, as_gift, as_content, as_result, in_hand, Thing, holds, lies, flies, stands, server_things, things_of}
use Rattle.law_counts_things.specs.Below.coherent_memory.Follow.{Standing, threads_in}
use Rattle.law_counts_things.specs.Below.coherent_memory.Sight.{sight}
use Rattle.law_counts_things.specs.Below.coherent_memory.OneHeap.{one_heap}
use Rattle.law_counts_things.specs.Below.coherent_memory.Coherent.{IsSound}
use Rattle.law_counts_things.specs.Below.law_counts_sums.Laws.{Gives, FewEvents}
use Rattle.law_counts_things.proofs.Below.law_counts_sums.Results.{both_give, weaker}
use Rattle.law_counts_things.proofs.Below.law_counts_sums.KnownSound.{on_standing, sum_standing}
use Rattle.law_counts_things.specs.Below.coherent_types.Names.{NameTypes, names_of}
use Rattle.law_counts_things.specs.Below.coherent_types.ClusterTypes.{Types, IsCoherent, CodeStateTypes, misfit, gift_misfit, misfits}
use Rattle.law_types_still.proofs.Below.law_words_paths.paths.Alike.{coherent_has_paths}
use Rattle.law_types_still.specs.Below.law_heap_still.events.Shows.{gift_spot}
use Rattle.law_types_still.proofs.Below.law_heap_still.events.Told.{at_most, found}
use Rattle.law_types_still.proofs.Below.law_heap_still.events.Sites.{leads_by}
use Rattle.law_types_still.proofs.Below.law_heap_still.events.Drops.{named}
use Rattle.law_types_still.proofs.Below.law_heap_still.events.Alike.{HeedAlike, Heeds}
use Rattle.law_types_still.proofs.Below.law_heap_still.undone.Undone.{event_goes, each_undone}
use Rattle.law_types_still.specs.threads.Threads.{TypesThreads}
use Rattle.law_types_still.proofs.threads.Viewing.{all_none}
use Rattle.law_types_still.proofs.threads.Undone.{undone_keep}
use Rattle.law_types_still.specs.things.Agrees.{UndoneKeepsTypes, UndoneKeepsCoherence}
use Rattle.law_types_still.proofs.things.Events.{event_leaves}
use Rattle.law_types_still.proofs.things.Things.{given_misfit, kept_misfit, agreeing, server_from, server_to}
use Rattle.law_types_still.proofs.things.Lifted.{lifted}
use Rattle.law_types_still.proofs.things.Cells.{cell_misfit, cells_agree}
use Rattle.law_types_still.proofs.things.Gifts.{what_comes, gift_is, spot_found, spot_same}

-- PARTS OF MISFITS

module _ (n : NameTypes) (spot : ℕ → Option Spot) where
  abbrev given : Standing → ℕ
  given x = given_misfit n spot x.thread.number x.thread.gift

  -- a value, by where it stands
  held_kept : (p : Spot) (v : Owned) → kept_misfit n spot (holds p v) ≤ misfit n (holds p v) + 0
  held_kept (as_content m) v = omega arith
  held_kept (as_result t) v = omega arith
  held_kept (as_gift t) v = omega arith
  held_kept (in_slot t i) v = omega arith
  held_kept (in_temp t i) v = omega arith
  held_kept in_hand v = omega arith

  -- what stands as a content, a result or a gift misfits as such, or as its thread's gift
  kept_in : (x : Thing) → kept_misfit n spot x ≤ misfit n x + on_standing given x
  kept_in (holds p v) = held_kept p v
  kept_in (stands r p t) = omega arith
  kept_in (lies r a c) = omega arith
  kept_in (flies w c) = omega arith
  kept_in _ = omega arith

  -- a value, by where it stands
  held_parts : (p : Spot) (v : Owned) → misfit n (holds p v) ≤ kept_misfit n spot (holds p v) + 0
  held_parts (as_content m) v = omega arith
  held_parts (as_result t) v = omega arith
  held_parts (as_gift t) v = omega arith
  held_parts (in_slot t i) v = omega arith
  held_parts (in_temp t i) v = omega arith
  held_parts in_hand v = omega arith

  -- and the other way, with cells
  parts_of : (x : Thing) → misfit n x ≤ kept_misfit n spot x + cell_misfit n x
  parts_of (holds p v) = held_parts p v
  parts_of (lies r a c) = omega arith
  parts_of (flies w c) = omega arith
  parts_of _ = omega arith

  -- a gift is one of the first, and a cell misfits as such
  given_in : (x : Thing) → on_standing given x ≤ kept_misfit n spot x
  given_in (stands r p t) = omega arith
  given_in _ = omega arith

  cell_in : (x : Thing) → cell_misfit n x ≤ misfit n x
  cell_in (lies r a c) = omega arith
  cell_in (flies w c) = omega arith
  cell_in _ = omega arith

  -- sums of what is at most two others
  two_at_most : (f g h : Thing → ℕ) → ((x : Thing) → f x ≤ g x + h x) → (b : List Thing) → tot f b ≤ tot g b + tot h b
  two_at_most f g h e [] = omega arith
  two_at_most f g h e (x ∷ b) = omega (arith, e x, two_at_most f g h e b)

-- states that show the same are the same
same_is : (a b : CodeState) → SameState a b → a ≡ b
same_is a b h =
    ap₂ (λ f g. (let s : CodeState = record a { thread = f; made = g } in s)) (fun_ext h.threads) (fun_ext h.made)
    ∙ ap₂ (λ f g. (let s : CodeState = record b { pair = f; object = g; mutex = a.mutex; is_given = a.is_given } in s)) (fun_ext h.pairs) (fun_ext h.objects)
    ∙ ap₂ (λ f g. (let s : CodeState = record b { mutex = f; is_given = g } in s)) (fun_ext h.mutexes) (fun_ext h.given)

module _ (k : Cluster) (e : Event) (co : IsCoherent k) (few : FewEvents k) where
  abbrev sound : IsSound k
  sound = co.sound

  abbrev c : Types k
  c = co.types

  abbrev n : NameTypes
  n = names_of c.object c.typing.gives

  abbrev spot : ℕ → Option Spot
  spot = gift_spot (sight k)

  -- BEFORE

  gifts_before : tot (given n spot) (threads_in (things_of k)) ≡ 0
  gifts_before =
      let all : tot (misfit n) (things_of k) + tot (gift_misfit n (sight k)) (threads_in (things_of k)) ≡ 0 = c.agree in
      all_none (gift_misfit n (sight k)) (given n spot) (threads_in (things_of k)) (λ x h none. sym (gift_is n spot (sight k) x (spot_found (sight k) x (found x (things_of k) (sound.names.numbers_differ x.thread.number) h))) ∙ none) (omega (arith, all))

  kept_before : tot (kept_misfit n spot) (things_of k) ≡ 0
  kept_before =
      let all : tot (misfit n) (things_of k) + tot (gift_misfit n (sight k)) (threads_in (things_of k)) ≡ 0 = c.agree in
      omega (arith, all, two_at_most n spot (kept_misfit n spot) (misfit n) (on_standing (given n spot)) (kept_in n spot) (things_of k), sum_standing (given n spot) (things_of k), gifts_before)

  cells_before : tot (cell_misfit n) (things_of k) ≡ 0
  cells_before =
      let all : tot (misfit n) (things_of k) + tot (gift_misfit n (sight k)) (threads_in (things_of k)) ≡ 0 = c.agree in omega (arith, all, at_most (cell_misfit n) (misfit n) (cell_in n spot) (things_of k))

  -- THE EVENT

  abbrev D : Type 0
  D = Cluster × EntryView

  abbrev IsUndone : EntryView → Type 0
  IsUndone r = r.done ≡ None

  abbrev Kept : D → Type 0
  Kept d = d.1.done ≡ None → tot (kept_misfit n spot) (things_of d.0) ≡ 0

  abbrev Cells : D → Type 0
  Cells d = d.1.done ≡ None → tot (cell_misfit n) (things_of d.0) ≡ 0

  abbrev Shows : D → Type 0
  Shows d = d.1.done ≡ None → (d.0.code ≡ k.code) × HeedAlike (named k) (sight k) (things_of k) (things_of d.0)

  abbrev Threads : D → Type 0
  Threads d = d.1.done ≡ None → TypesThreads k co.types d.0

  abbrev Heap : D → Type 0
  Heap d = d.1.done ≡ None → SameState (one_heap d.0) (one_heap k)

  kept_after : Gives Kept (apply k e)
  kept_after =
      lifted (kept_misfit n spot) IsUndone k e sound few kept_before (λ s here on none.
      weaker _ (λ (r : Server × EntryView). r.1.done ≡ None → tot (kept_misfit n spot) (server_things r.0) ≡ 0) _ (event_leaves (agreeing n spot) k.code k.options s (what_comes n k sound e.server s here) (server_from n spot s none) e.what) (λ r u z. server_to n spot r.0 (u z)))

  cells_after : Gives Cells (apply k e)
  cells_after = lifted (cell_misfit n) IsUndone k e sound few cells_before (λ s here on none. cells_agree n k sound e.server s here none e.what on)

  shows_after : Gives Shows (apply k e)
  shows_after =
      leads_by IsUndone (λ w. Heeds (named k) (sight k) w) (λ z. (z.code ≡ k.code) × HeedAlike (named k) (sight k) (things_of k) (things_of z)) k e sound few (λ z code alike. (code, alike)) (λ s here on. event_goes k sound e.server s here e.what on)

  -- AFTERWARDS

  agrees : (z : Cluster) → z.code ≡ k.code → HeedAlike (named k) (sight k) (things_of k) (things_of z) → tot (kept_misfit n spot) (things_of z) ≡ 0 → tot (cell_misfit n) (things_of z) ≡ 0 → misfits n (sight z) ≡ 0
  agrees z code alike kept cells =
      let gifts : tot (given n spot) (threads_in (things_of z)) ≡ 0 = omega (arith, sum_standing (given n spot) (things_of z), at_most (on_standing (given n spot)) (kept_misfit n spot) (given_in n spot) (things_of z), kept) in
      let fit : tot (gift_misfit n (sight z)) (threads_in (things_of z)) ≡ 0 =
      all_none (given n spot) (gift_misfit n (sight z)) (threads_in (things_of z)) (λ x h none. gift_is n spot (sight z) x (spot_same k sound (coherent_has_paths k co) z code alike x h) ∙ none) gifts in
      omega (arith, kept, cells, fit, two_at_most n spot (misfit n) (kept_misfit n spot) (cell_misfit n) (parts_of n spot) (things_of z))

  types_after : (z : Cluster) → z.code ≡ k.code → TypesThreads k co.types z → SameState (one_heap z) (one_heap k) → misfits n (sight z) ≡ 0 → Types z
  types_after z code threads heap agree = record {
    table = c.table;
    is_table = subst (λ cs. IsTable cs c.table) (sym code) c.is_table;
    object = c.object;
    typing = c.typing;
    state = subst (CodeStateTypes c.table c.typing) (sym (same_is (one_heap z) (one_heap k) heap)) c.state;
    agree = agree;
    forms = threads.forms;
    locked = threads.locked;
    lead = threads.lead;
    views = threads.views;
    ends = threads.ends;
  }

  with_it : (P Q : D → Type 0) → Gives P (apply k e) → Gives Q (apply k e) → Gives (λ d. P d × Q d) (apply k e)
  with_it P Q p q = both_give P Q (λ d. P d × Q d) (apply k e) p q (λ d a b. (a, b))

  types_stay : Gives (λ (d : D). d.1.done ≡ None → Types d.0) (apply k e)
  types_stay =
      both_give (λ d. Kept d × Cells d) (λ d. Shows d × (Threads d × Heap d)) (λ (d : D). d.1.done ≡ None → Types d.0) (apply k e) (with_it Kept Cells kept_after cells_after)
      (with_it Shows (λ d. Threads d × Heap d) shows_after (with_it Threads Heap (undone_keep k e co few) (each_undone k e co few)))
      (λ d u v none.
      let shows = v.0 none in
      types_after d.0 shows.0 (v.1.0 none) (v.1.1 none) (agrees d.0 shows.0 shows.1 (u.0 none) (u.1 none)))

pub undone_types : UndoneKeepsTypes
undone_types k e co few = types_stay k e co few

pub undone_coherence : UndoneKeepsCoherence
undone_coherence k e co few = weaker (λ (d : Cluster × EntryView). d.1.done ≡ None → Types d.0) (λ (d : Cluster × EntryView). d.1.done ≡ None → IsSound d.0 → IsCoherent d.0) (apply k e) (undone_types k e co few) (λ d u none sound. record { sound = sound; types = u none })
