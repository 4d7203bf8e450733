-- What is ahead of a read or a borrow after a step that asks on it: no more, star by star, and no more of the last pointer of a borrow.
use Rattle.std.proofs.Common.{◌≡◌, ◌≤◌, ◌<◌, ℕ, zero, suc, ◌+◌, ◌==◌, ◌&&◌, ◌||◌, Bool, true, false, if◌then◌else◌, List, [], ◌∷◌, ◌++◌, length, reverse, Option, Some, None, refl, sym, ap, subst, ◌∙◌, arith, append-nil, append_assoc, length-append}
use Rattle.std.specs.Prelude.{slice_get}
use Rattle.law_length_asks.specs.Below.law_walks_others.Below.fr_base.declared.name.ObjNo.{ObjNo}
use Rattle.law_length_asks.specs.Below.law_walks_others.Below.fr_base.declared.place.Lval.{Lval}
use Rattle.law_length_asks.specs.Below.law_walks_others.Below.fr_base.declared.instruction.Instr.{Instr}
use Rattle.law_length_asks.specs.Below.law_walks_others.Below.fr_base.declared.settings.Options.{Options}
use Rattle.law_length_asks.specs.Below.law_walks_others.Below.global_addr.Words.{colour_of}
use Rattle.law_length_asks.specs.Below.law_walks_others.Below.heap_partition.declared.value.Cell.{Cell}
use Rattle.law_length_asks.specs.Below.law_walks_others.Below.heap_partition.declared.value.Owned.TheVariants as owned
use Rattle.law_length_asks.specs.Below.law_walks_others.Below.journal.View.{EntryView}
use Rattle.law_length_asks.specs.Below.law_walks_others.Below.thread_state.View.{ThreadState}
use Rattle.law_length_asks.specs.Below.law_walks_others.Below.thread_state.declared.value.Value.{Value}
use Rattle.law_length_asks.specs.Below.law_walks_others.Below.thread_state.declared.value.Value.TheVariants as value
use Rattle.law_length_asks.specs.Below.law_walks_others.Below.server_model.Servers.{Server, Cluster}
use Rattle.law_length_asks.specs.Below.law_walks_others.Below.server_model.Work.{Hand}
use Rattle.law_length_asks.specs.Below.law_walks_others.Below.server_model.Prepare.{requested, access_of, prepare}
use Rattle.law_length_asks.specs.Below.law_walks_others.Below.server_model.Events.{begin_work, wait_step}
use Rattle.law_length_asks.specs.Below.law_walks_others.Below.coherent_memory.Things.{Location, at_slot, in_cell}
use Rattle.law_length_asks.specs.Below.law_walks_others.Below.coherent_memory.Follow.{Standing, Ground, cell_of, value_of, value_in, value_behind, slot_of, locate, hop_at, hops_from, hops}
use Rattle.law_length_asks.specs.Below.law_walks_others.Below.coherent_memory.Paths.{Awaited, to_read, to_write, to_clean, is_spent, all_to, borrow_to, is_readable}
use Rattle.law_length_asks.specs.Below.law_walks_others.Below.coherent_memory.Sight.{sight}
use Rattle.law_length_asks.specs.Below.law_walks_others.Below.coherent_memory.Walking.{words_kept}
use Rattle.law_length_asks.proofs.Below.law_walks_others.Below.coherent_memory.Passing.{one_more}
use Rattle.law_length_asks.specs.Below.law_walks_others.Below.law_words_paths.paths.HeapStore.{GoesOn, HasPaths}
use Rattle.law_length_asks.proofs.Below.law_walks_others.Below.law_words_paths.paths.Alike.{IsShown, a_slot as shown_slot, an_object, leads_in_heap}
use Rattle.law_length_asks.proofs.Below.law_walks_others.Below.law_words_paths.paths.Shown.{stands_there}
use Rattle.law_walks_own.specs.Below.law_words_paths.words.Reworded.{HasPlaces}
use Rattle.law_walks_own.specs.Below.law_words_kept.reads.Reading.{Reads}
use Rattle.law_length_asks.proofs.Below.law_walks_others.Below.law_results_reads.Known.{Steps, goes, paths, standing}
use Rattle.law_length_asks.specs.Below.law_walks_others.Below.law_counts_waiting.waits.Places.{LeadsAsItDid}
use Rattle.law_length_asks.proofs.Below.law_walks_own.steps.Own.{Own}
use Rattle.law_length_asks.proofs.Below.law_walks_own.steps.ReadWalk.{under, hop_deep}
use Rattle.law_length_asks.proofs.Below.law_walks_own.steps.ReadCells.{on_way, cell_stays}
use Rattle.law_length_asks.proofs.Below.law_walks_own.steps.Behind.{slot_then, same_place}
use Rattle.law_length_asks.specs.ahead.Ahead.{ahead_from}
use Rattle.law_length_asks.proofs.ahead.Lists.{from_few}
use Rattle.law_length_asks.proofs.ahead.Compare.{A, no_more}
use Rattle.law_length_asks.proofs.left.Kin.{Kin, same, pins, cleans}
use Rattle.law_length_asks.proofs.left.Halts.{Halted}

-- TWO LISTS, one behind the other

abbrev join : ℕ → ℕ → ℕ → ℕ
join zero a l = a
join (suc m) a l = suc m + l

append_ahead : (kept : List ℕ) (s : ℕ) (xs ys : List Awaited) → ahead_from kept s (xs ++ ys) ≡ join (ahead_from kept s xs) (ahead_from kept s ys) (length ys)
append_ahead kept s [] ys = refl
append_ahead kept s (a ∷ xs) ys = by (is_readable kept s a) (append_ahead kept s xs ys)
  where
    by : (b : Bool) → ahead_from kept s (xs ++ ys) ≡ join (ahead_from kept s xs) (ahead_from kept s ys) (length ys)
        → (if b then ahead_from kept s (xs ++ ys) else suc (length (xs ++ ys))) ≡ join (if b then ahead_from kept s xs else suc (length xs)) (ahead_from kept s ys) (length ys)
    by true g = g
    by false g = omega (arith, length-append xs ys)

join_less : (a a2 b b2 l l2 : ℕ) → a2 ≤ a → b2 ≤ b → l2 ≤ l → b2 ≤ l2 → join a2 b2 l2 ≤ join a b l
join_less zero zero b b2 l l2 p q r u = q
join_less zero (suc a2) b b2 l l2 p q r u = absurd (omega (arith, p))
join_less (suc a) zero b b2 l l2 p q r u = omega (arith, r, u)
join_less (suc a) (suc a2) b b2 l l2 p q r u = omega (arith, p, r)

-- no more is ahead of both where no more is of each, and the second is no longer
parts_less : (s : ℕ) (kept kept2 : List ℕ) (xs xs2 ys ys2 : List Awaited) → ahead_from kept2 s xs2 ≤ ahead_from kept s xs → ahead_from kept2 s ys2 ≤ ahead_from kept s ys → length ys2 ≤ length ys → ahead_from kept2 s (xs2 ++ ys2) ≤ ahead_from kept s (xs ++ ys)
parts_less s kept kept2 xs xs2 ys ys2 a b l =
    omega (arith, append_ahead kept s xs ys, append_ahead kept2 s xs2 ys2, join_less (ahead_from kept s xs) (ahead_from kept2 s xs2) (ahead_from kept s ys) (ahead_from kept2 s ys2) (length ys) (length ys2) a b l (from_few kept2 s ys2))

-- a borrow reads the pointers before its last
borrow_append : (colours : ℕ) (f : Option Value → List Awaited) (xs : List (Option Value)) (v : Option Value) → borrow_to colours f (xs ++ v ∷ []) ≡ all_to (to_read colours) xs ++ f v
borrow_append colours f [] v = refl
borrow_append colours f (x ∷ []) v = ap (λ l. l ++ f v) (sym (append-nil (to_read colours x)))
borrow_append colours f (x ∷ y ∷ xs) v = ap (λ l. to_read colours x ++ l) (borrow_append colours f (y ∷ xs) v) ∙ sym (append_assoc (to_read colours x) (all_to (to_read colours) (y ∷ xs)) (f v))

-- THE LAST POINTER

-- no more is awaited of a pointer that is kin to the first one
record NoMore (s : ℕ) (kept kept2 : List ℕ) (xs ys : List Awaited) : Type 0 where
  few : ahead_from kept2 s ys ≤ ahead_from kept s xs
  short : length ys ≤ length xs

abbrev one_write : ℕ → ObjNo → List Awaited
one_write w o = record { word = w; object = o; comes = true; by_copy = false } ∷ []

-- what comes isn't read by a copy
same_write : (s : ℕ) (kept kept2 : List ℕ) (w : ℕ) (o : ObjNo) → NoMore s kept kept2 (one_write w o) (one_write w o)
same_write s kept kept2 w o = record { few = omega arith; short = omega arith }

none_awaited : (s : ℕ) (kept kept2 : List ℕ) → NoMore s kept kept2 [] []
none_awaited s kept kept2 = record { few = omega arith; short = omega arith }

clean_same : (colours s : ℕ) (kept kept2 : List ℕ) (v : Option Value) → NoMore s kept kept2 (to_clean colours v) (to_clean colours v)
clean_same colours s kept kept2 (Some (value.Mut r)) = by (is_spent colours r)
  where
    by : (b : Bool) → NoMore s kept kept2 (if b then one_write r.word r.object else []) (if b then one_write r.word r.object else [])
    by true = same_write s kept kept2 r.word r.object
    by false = none_awaited s kept kept2
clean_same colours s kept kept2 None = none_awaited s kept kept2
clean_same colours s kept kept2 (Some v) = none_awaited s kept kept2

clean_kin : (colours s : ℕ) (kept kept2 : List ℕ) (u v : Option Value) → Kin u v → NoMore s kept kept2 (to_clean colours u) (to_clean colours v)
clean_kin colours s kept kept2 u _ same = clean_same colours s kept kept2 u
clean_kin colours s kept kept2 _ _ (pins q r a b) = none_awaited s kept kept2
clean_kin colours s kept kept2 _ _ (cleans q r d c e) =
    subst (λ b. NoMore s kept kept2 (to_clean colours (Some (value.Mut q))) (if b && (colour_of r.word + 1 == colours) then one_write r.word r.object else [])) (sym c) (record { few = omega arith; short = omega arith })

write_same : (s : ℕ) (kept kept2 : List ℕ) (v : Option Value) → NoMore s kept kept2 (to_write v) (to_write v)
write_same s kept kept2 (Some (value.Own (owned.Box p))) = same_write s kept kept2 p.word p.object
write_same s kept kept2 (Some (value.Mut r)) = same_write s kept kept2 r.word r.object
write_same s kept kept2 None = none_awaited s kept kept2
write_same s kept kept2 (Some v) = none_awaited s kept kept2

write_kin : (s : ℕ) (kept kept2 : List ℕ) (u v : Option Value) → Kin u v → NoMore s kept kept2 (to_write u) (to_write v)
write_kin s kept kept2 u _ same = write_same s kept kept2 u
write_kin s kept kept2 _ _ (pins q r a b) = none_awaited s kept kept2
write_kin s kept kept2 _ _ (cleans q r d c e) = record { few = (let g : ahead_from kept2 s (to_write (Some (value.Mut r))) ≡ ahead_from kept s (to_write (Some (value.Mut q))) = ap {B = ℕ} (λ n. if (n == s) || false then 0 else 1) e in omega (arith, g)); short = omega arith }

-- ALL STARS

-- the pointers of a place are those of its slot, whatever its stars
hops_slot : (g : Ground) (t : ℕ) (w : Lval) (m n : ℕ) → hops_from g t w n ≡ hops_from g t (record { slot = w.slot; depth = m }) n
hops_slot g t w m zero = refl
hops_slot g t w m (suc n) = ap (λ l. hop_at g t w n ∷ l) (hops_slot g t w m n)

stars_slot : (kept : List ℕ) (s colours : ℕ) (g : Ground) (t : ℕ) (w : Lval) (m n : ℕ) → A s kept colours g t w n ≡ A s kept colours g t (record { slot = w.slot; depth = m }) n
stars_slot kept s colours g t w m n = ap (λ l. ahead_from kept s (all_to (to_read colours) (reverse l))) (hops_slot g t w m n)

kin_of : (u v u2 v2 : Option Value) → u2 ≡ u → v2 ≡ v → Kin u v → Kin u2 v2
kin_of u v u2 v2 e f g = subst (λ a. Kin a v2) (sym e) (subst (λ b. Kin u b) (sym f) g)

module _ (k c : Cluster) (v : EntryView) (t : ℕ) (o : Own k c v t) (after : HasPlaces c) (options : c.options ≡ k.options) (w : Lval) (m : ℕ) (reads : Reads o.instruction w m) (h : Hand)
    (asked : prepare (access_of o.instruction o.thread) (record { work = begin_work o.server.rest; thread = o.thread }) ≡ requested h) (is : o.result ≡ wait_step h) (leads_so : LeadsAsItDid k c o.thread.number w) (halts : Halted k c v t o w m h) where
  abbrev n : ℕ
  n = o.number

  abbrev s : Server
  s = o.server

  abbrev y : ThreadState
  y = o.thread

  abbrev i : Instr
  i = o.instruction

  abbrev z : Steps k n t s y i
  z = o.steps

  abbrev r : ℕ
  r = s.rest.number

  abbrev x : Standing
  x = standing k n t s y i z

  abbrev G : Ground
  G = (sight k).ground

  abbrev G2 : Ground
  G2 = (sight c).ground

  abbrev tn : ℕ
  tn = y.number

  abbrev kept : List ℕ
  kept = words_kept y

  abbrev kept2 : List ℕ
  kept2 = words_kept h.thread

  abbrev colours : ℕ
  colours = (sight k).options.colours

  abbrev colours2 : ℕ
  colours2 = (sight c).options.colours

  abbrev p : HasPaths k
  p = paths k n t s y i z

  abbrev on : GoesOn k x
  on = goes k n t s y i z

  same_colours : colours2 ≡ colours
  same_colours = ap (λ (q : Options). q.colours) options

  -- no more is ahead of the stars that are read
  pub stars_less : A r kept2 colours2 G2 tn w m ≤ A r kept colours G tn w m
  stars_less =
      let less = no_more r colours colours2 kept kept2 G G2 tn (record { slot = w.slot; depth = m }) (λ d le. leads_so d (let u = under k n t s y i z w m reads in omega (arith, le, u))) halts.near m (omega arith) in
      omega (arith, less, stars_slot kept r colours G tn w m m, stars_slot kept2 r colours2 G2 tn w m m)

  -- a pointer of the place is kin to what it was
  object_kin : (q : ObjNo) (u : Value) → value_in G (in_cell q) ≡ Some u → value_in G2 (in_cell q) ≡ Some u
  object_kin q u stands = by (cell_of G.cells q) refl stands
    where
      by : (d : Option Cell) → cell_of G.cells q ≡ d → value_of d ≡ Some u → value_in G2 (in_cell q) ≡ Some u
      by None e f = absurd (cc f)
      by (Some d) e f = cell_stays k c v t o after w m reads h (on_way asked) is q d e ∙ f

  there_kin : (l : Location) (u : Value) → IsShown k p x on l → value_in G l ≡ Some u → Kin (value_in G l) (value_in G2 l)
  there_kin _ u (shown_slot b) stands = kin_of (slice_get y.slots b) (slice_get h.thread.slots b) (value_in G (at_slot tn b)) (value_in G2 (at_slot tn b)) (ap (λ q. slot_of q b) (stands_there k p x on)) (slot_then k c v t o after h is b) (halts.kin b)
  there_kin _ u (an_object q e f) stands = kin_of (Some u) (Some u) (value_in G (in_cell q)) (value_in G2 (in_cell q)) stands (object_kin q u stands) same

  pub hop_kin : (d : ℕ) → d < w.depth → Kin (hop_at (sight k).ground o.thread.number w d) (hop_at (sight c).ground o.thread.number w d)
  hop_kin d lt = by (locate G tn w.slot d) refl
    where
      by : (q : Option Location) → locate G tn w.slot d ≡ q → Kin (hop_at G tn w d) (hop_at G2 tn w d)
      by None e = kin_of None None (hop_at G tn w d) (hop_at G2 tn w d) (ap (value_behind G) e) (ap (value_behind G2) (leads_so d (omega (arith, lt)) ∙ e)) same
      by (Some l) e =
          let there = hop_deep k n t s y i z w m reads d lt l e in
          kin_of (value_in G l) (value_in G2 l) (hop_at G tn w d) (hop_at G2 tn w d) (ap (value_behind G) e) (same_place k c tn w leads_so d (omega (arith, lt)) l e) (there_kin l there.0 (leads_in_heap k p x on w.slot d l e).1 there.1)

  -- A BORROW

  abbrev B : List ℕ → ℕ → Ground → (Option Value → List Awaited) → ℕ
  B kp cs g f = ahead_from kp r (borrow_to cs f (hops g tn w (suc m)))

  last_star : (kp : List ℕ) (cs : ℕ) (g : Ground) (f : Option Value → List Awaited) → B kp cs g f ≡ ahead_from kp r (all_to (to_read cs) (hops g tn w m) ++ f (hop_at g tn w m))
  last_star kp cs g f = ap (λ l. ahead_from kp r (borrow_to cs f l)) (one_more g tn w m) ∙ ap (ahead_from kp r) (borrow_append cs f (hops g tn w m) (hop_at g tn w m))

  borrow_less : (f f2 : Option Value → List Awaited) → NoMore r kept kept2 (f (hop_at G tn w m)) (f2 (hop_at G2 tn w m)) → B kept2 colours2 G2 f2 ≤ B kept colours G f
  borrow_less f f2 last =
      let a = last_star kept colours G f in
      let b = last_star kept2 colours2 G2 f2 in
      omega (arith, a, b, parts_less r kept kept2 (all_to (to_read colours) (hops G tn w m)) (all_to (to_read colours2) (hops G2 tn w m)) (f (hop_at G tn w m)) (f2 (hop_at G2 tn w m)) stars_less last.few last.short)

  pub shares_less : w.depth ≡ suc m → ahead_from kept2 r (borrow_to colours2 (to_clean colours2) (hops G2 tn w w.depth)) ≤ ahead_from kept r (borrow_to colours (to_clean colours) (hops G tn w w.depth))
  shares_less deep =
      let lt : m < w.depth = omega (arith, deep) in
      let last : NoMore r kept kept2 (to_clean colours (hop_at G tn w m)) (to_clean colours2 (hop_at G2 tn w m)) = subst (λ q. NoMore r kept kept2 (to_clean colours (hop_at G tn w m)) (to_clean q (hop_at G2 tn w m))) (sym same_colours) (clean_kin colours r kept kept2 (hop_at G tn w m) (hop_at G2 tn w m) (hop_kin m lt)) in
      let a = ap (λ q. ahead_from kept r (borrow_to colours (to_clean colours) (hops G tn w q))) deep in
      let b = ap (λ q. ahead_from kept2 r (borrow_to colours2 (to_clean colours2) (hops G2 tn w q))) deep in
      omega (arith, a, b, borrow_less (to_clean colours) (to_clean colours2) last)

  pub lends_less : w.depth ≡ suc m → ahead_from kept2 r (borrow_to colours2 to_write (hops G2 tn w w.depth)) ≤ ahead_from kept r (borrow_to colours to_write (hops G tn w w.depth))
  lends_less deep =
      let lt : m < w.depth = omega (arith, deep) in
      let last : NoMore r kept kept2 (to_write (hop_at G tn w m)) (to_write (hop_at G2 tn w m)) = write_kin r kept kept2 (hop_at G tn w m) (hop_at G2 tn w m) (hop_kin m lt) in
      let a = ap (λ q. ahead_from kept r (borrow_to colours to_write (hops G tn w q))) deep in
      let b = ap (λ q. ahead_from kept2 r (borrow_to colours2 to_write (hops G2 tn w q))) deep in
      omega (arith, a, b, borrow_less to_write to_write last)
