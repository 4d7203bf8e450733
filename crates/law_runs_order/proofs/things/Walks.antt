-- The sentences of walks, over things in another order.
use Rattle.std.proofs.Common.{◌≡◌, ℕ, zero, suc, ◌+◌, ◌==◌, ◌&&◌, if◌then◌else◌, List, Option, Some, None, refl, ap, ap₂, ◌∙◌}
use Rattle.std.specs.Prelude.{nat_lt}
use Rattle.law_runs_rounds.specs.Below.law_runs_coherent.Below.fr_base.declared.place.Lval.{Lval}
use Rattle.law_runs_rounds.specs.Below.law_runs_coherent.Below.heap_partition.declared.value.Owned.TheVariants as owned
use Rattle.law_runs_rounds.specs.Below.law_runs_coherent.Below.thread_state.declared.phase.Phase.{Phase}
use Rattle.law_runs_rounds.specs.Below.law_runs_coherent.Below.thread_state.declared.phase.Phase.TheVariants as phase
use Rattle.law_runs_rounds.specs.Below.law_runs_coherent.Below.thread_state.declared.value.Value.{Value}
use Rattle.law_runs_rounds.specs.Below.law_runs_coherent.Below.thread_state.declared.value.Value.TheVariants as value
use Rattle.law_runs_rounds.specs.Below.law_runs_coherent.Below.server_model.Servers.{Server, Cluster}
use Rattle.law_runs_rounds.specs.Below.law_runs_coherent.Below.coherent_memory.Names.{tot, one, other, if_so, some}
use Rattle.law_runs_rounds.specs.Below.law_runs_coherent.Below.coherent_memory.Things.{Location, servers_things, things_of}
use Rattle.law_runs_rounds.specs.Below.law_runs_coherent.Below.coherent_memory.Follow.{Standing, Ground, locate, value_behind}
use Rattle.law_runs_rounds.specs.Below.law_runs_coherent.Below.coherent_memory.Sight.{Sight, sight}
use Rattle.law_runs_rounds.specs.Below.law_runs_coherent.Below.coherent_memory.Weights.{lies_at, copies}
use Rattle.law_runs_rounds.specs.Below.law_runs_coherent.Below.coherent_memory.Paths.{Path, no_path, reads, shares, lends, writes, ends, Awaited, to_write, awaited, first_unreadable, written_place}
use Rattle.law_runs_rounds.specs.Below.law_runs_coherent.Below.coherent_memory.Walking.{over_hops, over_place, over_passed, away, passed_wrong, copied_box, passed_boxes_wrong, stale_hop, passed_stale_wrong, words_kept, loose_hop, is_pull, waits_for_lent, has_followed, lost_place, followed_wrong, path, first_of, next_hop, in_turn, asked_for, not_asked, out_of_turn, turn_wrong}
use Rattle.law_runs_order.specs.things.SameThings.{Reordered}
use Rattle.law_runs_order.proofs.things.Places.{located_same, found_same, hop_same, awaited_same, followed_same}
use Rattle.law_runs_order.proofs.things.Sights.{Apart, thread_same, cell_same, stale_same}
use Rattle.law_runs_order.proofs.things.Memory.{over_threads}

module _ (k : Cluster) (servers : List Server) (r : Reordered (things_of k) (servers_things servers)) (once : Apart (servers_things servers)) where
  abbrev s : Sight
  s = sight k

  abbrev t : Sight
  t = sight (record k { servers = servers })

  abbrev g : Ground
  g = s.ground

  abbrev h : Ground
  h = t.ground

  -- WHAT A WRITE HAS PASSED

  hops_over : (n slot : ℕ) (f f2 : Option Location → Option Value → ℕ) → ((l : Option Location) (v : Option Value) → f l v ≡ f2 l v) → (d : ℕ) → over_hops g n slot f d ≡ over_hops h n slot f2 d
  hops_over n slot f f2 e zero = refl
  hops_over n slot f f2 e (suc d) =
      ap₂ (λ m i. m + i)
      (e (locate g n slot d) (value_behind g (locate g n slot d)) ∙ ap₂ f2 (located_same g h (thread_same k servers r once) (cell_same k servers r once) n slot d) (found_same g h (thread_same k servers r once) (cell_same k servers r once) n slot d))
      (hops_over n slot f f2 e d)

  place_over : (n d : ℕ) (f f2 : Option Location → Option Value → ℕ) → ((l : Option Location) (v : Option Value) → f l v ≡ f2 l v) → (w : Option Lval) → over_place g n d f w ≡ over_place h n d f2 w
  place_over n d f f2 e None = refl
  place_over n d f f2 e (Some w) = hops_over n w.slot f f2 e d

  passed_over : (f f2 : ℕ → Option Location → Option Value → ℕ) → ((n : ℕ) (l : Option Location) (v : Option Value) → f n l v ≡ f2 n l v) → (x : Standing) → over_passed s f x ≡ over_passed t f2 x
  passed_over f f2 e x = place_over x.thread.number x.thread.passed (f x.server) (f2 x.server) (e x.server) (written_place (path s x))

  away_same : (n : ℕ) (l : Option Location) (v : Option Value) → away s n l v ≡ away t n l v
  away_same n l (Some (value.Own (owned.Box p))) = ap (λ m. other (some m)) (r.sums (lies_at n p.object))
  away_same n l (Some (value.Mut q)) = ap (λ m. other (some m)) (r.sums (lies_at n q.object))
  away_same n l _ = refl

  pub passed_same : passed_wrong s ≡ passed_wrong t
  passed_same = over_threads k servers r once (over_passed s (away s)) (over_passed t (away t)) (passed_over (away s) (away t) away_same)

  box_same : (n : ℕ) (l : Option Location) (v : Option Value) → copied_box s n l v ≡ copied_box t n l v
  box_same n l (Some (value.Own (owned.Box p))) = r.sums (copies p.word)
  box_same n l _ = refl

  pub passed_boxes_same : passed_boxes_wrong s ≡ passed_boxes_wrong t
  passed_boxes_same = over_threads k servers r once (over_passed s (copied_box s)) (over_passed t (copied_box t)) (passed_over (copied_box s) (copied_box t) box_same)

  stale_hop_same : (n : ℕ) (l : Option Location) (v : Option Value) → stale_hop s n l v ≡ stale_hop t n l v
  stale_hop_same n l (Some (value.Own (owned.Box p))) = ap one (stale_same k servers r once l)
  stale_hop_same n l (Some (value.Mut q)) = ap one (stale_same k servers r once l)
  stale_hop_same n l _ = refl

  pub passed_stale_same : passed_stale_wrong s ≡ passed_stale_wrong t
  passed_stale_same = over_threads k servers r once (over_passed s (stale_hop s)) (over_passed t (stale_hop t)) (passed_over (stale_hop s) (stale_hop t) stale_hop_same)

  -- A FOLLOWED PLACE

  awaits : (n : ℕ) (p : Path) → awaited k.options.colours g n p ≡ awaited k.options.colours h n p
  awaits = awaited_same g h (thread_same k servers r once) (cell_same k servers r once) k.options.colours

  lent_same : (x : Standing) (p : Path) (w : ℕ) → waits_for_lent s x p w ≡ waits_for_lent t x p w
  lent_same x (lends p) w = ap (λ l. is_pull l w) (awaits x.thread.number (lends p))
  lent_same x _ w = refl

  has_same : (x : Standing) (p : Phase) → has_followed s x p ≡ has_followed t x p
  has_same x (phase.WaitCell w) = lent_same x (path s x) w
  has_same x _ = refl

  lost_same : (x : Standing) → lost_place s x ≡ lost_place t x
  lost_same x =
      ap₂ if_so (has_same x x.thread.phase)
      (ap (tot (loose_hop x.server (words_kept x.thread))) (followed_same g h (thread_same k servers r once) (cell_same k servers r once) x.thread.number (path s x)))

  pub followed_wrong_same : followed_wrong s ≡ followed_wrong t
  followed_wrong_same = over_threads k servers r once (lost_place s) (lost_place t) lost_same

  -- WHAT IS WAITED FOR

  next_same : (x : Standing) (p : Lval) → next_hop s x p ≡ next_hop t x p
  next_same x p =
      ap (λ v. if nat_lt x.thread.passed p.depth then first_of (to_write v) else None) (hop_same g h (thread_same k servers r once) (cell_same k servers r once) x.thread.number p x.thread.passed)

  unreadable_same : (x : Standing) (p : Path)
      → first_unreadable (words_kept x.thread) x.server (awaited k.options.colours g x.thread.number p) ≡ first_unreadable (words_kept x.thread) x.server (awaited k.options.colours h x.thread.number p)
  unreadable_same x p = ap (first_unreadable (words_kept x.thread) x.server) (awaits x.thread.number p)

  turn_is : (x : Standing) (w : ℕ) (p : Path) → in_turn s x w p ≡ in_turn t x w p
  turn_is x w no_path = refl
  turn_is x w (reads p) = unreadable_same x (reads p)
  turn_is x w (shares p) = unreadable_same x (shares p)
  turn_is x w (lends p) = unreadable_same x (lends p)
  turn_is x w (writes p) = next_same x p
  turn_is x w (ends q) = ap (λ o. if q.word == w then first_of (to_write (Some (value.Mut q))) else o) (next_same x q.holder)

  asked_same : (x : Standing) (w : ℕ) (o : Option Awaited) → not_asked s x w o ≡ not_asked t x w o
  asked_same x w None = refl
  asked_same x w (Some c) = ap (λ n. other (c.word == w && some n)) (r.sums (asked_for x.thread.number c))

  out_same : (x : Standing) (p : Phase) → out_of_turn s x p ≡ out_of_turn t x p
  out_same x (phase.WaitCell w) = asked_same x w (in_turn s x w (path s x)) ∙ ap (not_asked t x w) (turn_is x w (path s x))
  out_same x _ = refl

  pub turn_same : turn_wrong s ≡ turn_wrong t
  turn_same = over_threads k servers r once (λ x. out_of_turn s x x.thread.phase) (λ x. out_of_turn t x x.thread.phase) (λ x. out_same x x.thread.phase)
