-- The thread to which an object came has at hand what it has followed, and what it has passed lies at its server.
use Rattle.std.proofs.Common.{◌≡◌, ◌⊎◌, inl, inr, ◌≤◌, ℕ, zero, suc, ◌+◌, Bool, true, false, Option, Some, None, refl, sym, ap, subst, ◌∙◌, arith}
use Rattle.std.specs.Prelude.{slice_get}
use Rattle.law_counts_waiting.specs.Below.fr_base.Lists.{last_of}
use Rattle.law_counts_waiting.specs.Below.fr_base.declared.name.ObjNo.{ObjNo}
use Rattle.law_counts_waiting.specs.Below.fr_base.declared.place.Lval.{Lval}
use Rattle.law_counts_waiting.specs.Below.fr_base.declared.instruction.Instr.{Instr}
use Rattle.law_counts_waiting.specs.Below.fr_base.declared.instruction.Instr.TheVariants as instr
use Rattle.law_counts_waiting.specs.Below.fr_base.Names.{same_object}
use Rattle.law_counts_waiting.specs.Below.heap_partition.declared.value.Cell.{Cell}
use Rattle.law_counts_waiting.specs.Below.heap_partition.declared.value.Owned.{Owned}
use Rattle.law_counts_waiting.specs.Below.heap_partition.declared.value.Owned.TheVariants as owned
use Rattle.law_counts_waiting.specs.Below.thread_state.View.{ThreadState, is_over}
use Rattle.law_counts_waiting.specs.Below.thread_state.declared.phase.Phase.{Phase}
use Rattle.law_counts_waiting.specs.Below.thread_state.declared.phase.Phase.TheVariants as phase
use Rattle.law_counts_waiting.specs.Below.thread_state.declared.value.Value.{Value}
use Rattle.law_counts_waiting.specs.Below.thread_state.declared.value.Value.TheVariants as value
use Rattle.law_counts_waiting.specs.Below.server_msgs.declared.message.Message.TheVariants as message
use Rattle.law_counts_waiting.specs.Below.server_model.declared.event.Event.{Event}
use Rattle.law_counts_waiting.specs.Below.server_model.Prepare.{is_taken}
use Rattle.law_counts_waiting.specs.Below.server_model.Servers.{Cluster}
use Rattle.law_counts_waiting.specs.Below.coherent_memory.Names.{tot, one, other, some, Among}
use Rattle.law_counts_waiting.specs.Below.coherent_memory.Things.{Location, things_of}
use Rattle.law_counts_waiting.specs.Below.coherent_memory.Follow.{Standing, Ground, threads_in, thread_at, cell_of, value_of, leads, locate, hop_at}
use Rattle.law_counts_waiting.specs.Below.coherent_memory.Paths.{Path, no_path, reads, shares, lends, writes, ends, path_of, ending, taking, assigning, written_place}
use Rattle.law_counts_waiting.specs.Below.coherent_memory.Passing.{FollowedLaw, PassedLaw}
use Rattle.law_counts_waiting.specs.Below.coherent_memory.Sight.{Sight, sight}
use Rattle.law_counts_waiting.specs.Below.coherent_memory.Weights.{lies_at}
use Rattle.law_counts_waiting.specs.Below.coherent_memory.Walking.{instr_of, path, waits_for_lent, lost_place, over_hops, over_place, over_passed, away}
use Rattle.law_counts_waiting.proofs.Below.coherent_memory.Followed.{followed_law}
use Rattle.law_counts_waiting.proofs.Below.coherent_memory.Passing.{passed_law}
use Rattle.law_counts_waiting.proofs.Below.coherent_memory.Words.{none_at}
use Rattle.law_counts_waiting.specs.Below.coherent_types.ClusterTypes.{IsCoherent}
use Rattle.law_counts_waiting.specs.Below.law_counts_sums.Laws.{FewEvents}
use Rattle.law_counts_waiting.proofs.Below.law_counts_sums.Bags.{thread_number}
use Rattle.law_counts_waiting.specs.Below.law_words_paths.paths.HeapStore.{GoesOn, HasPaths}
use Rattle.law_counts_waiting.proofs.Below.law_words_paths.paths.Alike.{coherent_has_paths}
use Rattle.law_walks_others.proofs.Below.law_heap_still.events.Tests.{objects}
use Rattle.law_walks_others.proofs.Below.law_heap_still.events.Told.{told, thread_told, at_thread as at_number, found}
use Rattle.law_counts_waiting.specs.Below.law_words_paths.words.Reworded.{HasPlaces}
use Rattle.law_counts_waiting.specs.Below.law_words_paths.words.Unmoved.{pointing, Delivers}
use Rattle.law_walks_others.proofs.pointers.Still.{places_of}
use Rattle.law_walks_others.proofs.pointers.Sentences.{SameOn, lost_same}
use Rattle.law_walks_others.proofs.arrivals.Unworded.{unworded}
use Rattle.law_walks_others.proofs.arrivals.Seen.{Leaves}
use Rattle.law_walks_others.proofs.arrivals.Others.{lies_left, lies_new}
use Rattle.law_walks_others.proofs.arrivals.Own.{takes, OwnLeft}
use Rattle.law_walks_others.proofs.arrivals.Itself as itself
use Rattle.law_walks_others.proofs.arrivals.Places.{hop_same, cells_see, Found, cell_then}

-- PATHS THAT LEND

lent_path : (s : Sight) (x : Standing) (p : Path) (w : ℕ) → waits_for_lent s x p w ≡ true → (v : Lval) × (p ≡ lends v)
lent_path s x (lends v) w e = (v, refl)
lent_path s x no_path w e = absurd (cc e)
lent_path s x (reads v) w e = absurd (cc e)
lent_path s x (shares v) w e = absurd (cc e)
lent_path s x (writes v) w e = absurd (cc e)
lent_path s x (ends r) w e = absurd (cc e)

ending_no_lend : (v : Option Value) (p : Lval) → ending v ≡ lends p → ⊥
ending_no_lend (Some (value.Mut r)) p e = cc e
ending_no_lend None p e = cc e
ending_no_lend (Some _) p e = cc e

-- what a path lends is told by the instruction alone
lends_any : (o : Option Instr) (t u : ThreadState) (v : Lval) → path_of o t ≡ lends v → path_of o u ≡ lends v
lends_any (Some (instr.BorrowMut w)) t u v e = e
lends_any (Some (instr.Assign w a)) t u v e = absurd (by w.depth e)
  where
    by : (d : ℕ) → assigning t.slots w d ≡ lends v → ⊥
    by zero f = ending_no_lend (slice_get t.slots w.slot) v f
    by (suc d) f = cc f
lends_any (Some (instr.Read w true)) t u v e = absurd (by w.depth e)
  where
    by : (d : ℕ) → taking w d ≡ lends v → ⊥
    by zero f = cc f
    by (suc d) f = cc f
lends_any (Some instr.DropSlot) t u v e = absurd (ending_no_lend (last_of t.slots) v e)
lends_any (Some instr.Discard) t u v e = absurd (ending_no_lend (last_of t.temps) v e)
lends_any (Some (instr.Read w false)) t u v e = absurd (cc e)
lends_any None t u v e = absurd (cc e)
lends_any (Some i) t u v e = absurd (cc e)

-- WHAT IS SEEN OF A POINTER WITHOUT ITS WORD

abbrev part : Owned → Owned
part (owned.Box b) = owned.Box (record b { word = 0 })
part v = v

part_seen : (v : Owned) → unworded (Some (value.Own v)) ≡ Some (value.Own (part v))
part_seen (owned.Box b) = refl
part_seen owned.Nothing = refl
part_seen owned.Unit = refl
part_seen (owned.Int n) = refl
part_seen (owned.Mutex m) = refl
part_seen (owned.Task m) = refl

leads_seen : (t : ℕ) (v : Option Value) → leads t (unworded v) ≡ leads t v
leads_seen t (Some (value.Own (owned.Box b))) = refl
leads_seen t (Some (value.Mut r)) = refl
leads_seen t None = refl
leads_seen t (Some (value.Own v)) = refl
leads_seen t (Some v) = refl

away_seen : (s : Sight) (r : ℕ) (l m : Option Location) (v : Option Value) → away s r l (unworded v) ≡ away s r m v
away_seen s r l m (Some (value.Own (owned.Box b))) = refl
away_seen s r l m (Some (value.Mut q)) = refl
away_seen s r l m None = refl
away_seen s r l m (Some (value.Own v)) = refl
away_seen s r l m (Some v) = refl

away_same : (s : Sight) (r : ℕ) (l m : Option Location) (u v : Option Value) → unworded u ≡ unworded v → away s r l u ≡ away s r m v
away_same s r l m u v e = sym (away_seen s r None l u) ∙ ap (away s r None) e ∙ away_seen s r None m v

same_less : {m n : ℕ} → m ≡ n → m ≤ n
same_less e = omega (arith, e)

none_true : (b : Bool) → other b ≡ 0 → b ≡ true
none_true true z = refl
none_true false z = absurd (cc z)

some_one : (m : ℕ) → some m ≡ true → 1 ≤ m
some_one zero e = absurd (cc e)
some_one (suc m) e = omega arith

one_some : (m : ℕ) → 1 ≤ m → some m ≡ true
one_some zero l = absurd (omega (arith, l))
one_some (suc m) l = refl

module _ (k : Cluster) (e : Event) (old : ℕ) (cell : Cell) (t : ℕ) (d : Delivers k e (message.Moved old cell t)) (co : IsCoherent k) (few : FewEvents k) (c : Cluster) (code : c.code ≡ k.code) (options : c.options ≡ k.options) (after : HasPlaces c) (leaves : Leaves k d.server.rest.number cell t c) (left : OwnLeft k e old cell t d co few c)
    (y2 : Standing) (among : Among y2 (sight c).ground.threads) (number : y2.thread.number ≡ t) where
  abbrev y : ThreadState
  y = left.thread

  abbrev me : Standing
  me = record { server = d.server.rest.number; packed = false; thread = y }

  abbrev G : Ground
  G = (sight k).ground

  abbrev G2 : Ground
  G2 = (sight c).ground

  p : HasPaths k
  p = coherent_has_paths k co

  before : HasPlaces k
  before = places_of co

  goes_me : GoesOn k me
  goes_me = record { among = itself.listed k e old cell t d co few c after left y2 among number; going = ap is_over (itself.waiting k e old cell t d co few c after left y2 among number) }

  same_number : y2.thread.number ≡ y.number
  same_number = number ∙ sym (thread_number d.server.threads t y left.at)

  -- WHAT IT HAS FOLLOWED

  module _ (taken : is_taken y2.thread.phase ≡ true) where
    cells_then : (q : ObjNo) (z : Cell) → cell_of G.cells q ≡ Some z → value_of (cell_of G2.cells q) ≡ Some (value.Own z.value)
    cells_then q z there =
        let a : Found k c after (λ v. v) grown q z = cell_then k c after (λ v. v) grown q z there in
        ap value_of a.there ∙ ap (λ v. Some (value.Own v)) a.alike
      where
        has_taken_it : 1 ≤ tot (at_number takes t) (things_of c)
        has_taken_it =
            let there2 : thread_at (threads_in (things_of c)) t ≡ Some y2 = subst (λ n. thread_at (threads_in (things_of c)) n ≡ Some y2) number (found y2 (things_of c) (after.numbers_differ y2.thread.number) among) in
            let is : told takes (thread_at (threads_in (things_of c)) t) ≡ takes y2 = ap (told takes) there2 in
            let mine : takes y2 ≡ 1 = ap one taken in
            omega (arith, is, mine, thread_told takes t (things_of c) (after.numbers_differ t))

        grown : (q2 : ObjNo) (v : Owned) → tot (λ x. Rattle.law_walks_others.proofs.pointers.Cells.cell_weight (cells_see (λ u. u) q2 v) x) (things_of k) ≤ tot (λ x. Rattle.law_walks_others.proofs.pointers.Cells.cell_weight (cells_see (λ u. u) q2 v) x) (things_of c)
        grown q2 v = let l = left.cells (cells_see (λ u. u) q2 v) (record { threads = λ r b u. refl; messages = λ r m. refl }) has_taken_it in omega (arith, l)

    path_then : (v : Lval) → path (sight k) me ≡ lends v → path (sight k) y2 ≡ lends v
    path_then v is = ap (λ n. path_of (slice_get k.code n) y2.thread) (itself.same_pc k e old cell t d co few c after left y2 among number) ∙ lends_any (slice_get k.code y.pc) y y2.thread v is

    same_hops : (w : Lval) (m : ℕ) → hop_at G2 y.number w m ≡ hop_at G y.number w m
    same_hops w m = hop_same k c (λ v. v) (λ u v. refl) p before after me goes_me y2 among same_number (itself.slots_same k e old cell t d co few c after left y2 among number taken) cells_then w m

    on_path : SameOn k c y2.thread.number (path (sight k) y2)
    on_path =
        let lent = lent_path (sight k) me (path (sight k) me) old (itself.lent_before k e old cell t d co few c after left y2 among number taken) in
        subst (SameOn k c y2.thread.number) (sym (path_then lent.0 lent.1)) (λ m lt. subst (λ n. pointing (hop_at G2 n lent.0 m) ≡ pointing (hop_at G n lent.0 m)) (sym same_number) (ap pointing (same_hops lent.0 m)))

    taken_followed : lost_place (sight c) y2 ≡ 0
    taken_followed =
        let was : lost_place (sight k) me ≡ 0 = none_at (lost_place (sight k)) me G.threads (let law : FollowedLaw = followed_law in law.none_counted (sight k) co.sound.walks.have_followed) goes_me.among in
        lost_same k c y2 code options on_path ∙ itself.none_lost k e old cell t d co few c after left y2 among number taken was

  pub own_followed : lost_place (sight c) y2 ≡ 0
  own_followed = by y2.thread.phase refl (itself.goes k e old cell t d co few c after left y2 among number)
    where
      got : y2.thread.phase ≡ phase.Got → lost_place (sight c) y2 ≡ 0
      got f =
          let followed_not : Rattle.law_counts_waiting.specs.Below.coherent_memory.Walking.has_followed (sight c) y2 y2.thread.phase ≡ false = ap (Rattle.law_counts_waiting.specs.Below.coherent_memory.Walking.has_followed (sight c) y2) f ∙ ap (λ v. Rattle.law_counts_waiting.specs.Below.coherent_memory.Walking.has_gift_there v (instr_of (sight c) y2)) (itself.no_gift_then k e old cell t d co few c after left y2 among number) in
          ap (λ b. Rattle.law_counts_waiting.specs.Below.coherent_memory.Names.if_so b (tot (Rattle.law_counts_waiting.specs.Below.coherent_memory.Walking.loose_hop y2.server (Rattle.law_counts_waiting.specs.Below.coherent_memory.Walking.words_kept y2.thread)) (Rattle.law_counts_waiting.specs.Below.coherent_memory.Paths.followed G2 y2.thread.number (path (sight c) y2)))) followed_not

      by : (q : Phase) → y2.thread.phase ≡ q → itself.goes_on q ≡ true → lost_place (sight c) y2 ≡ 0
      by phase.Got f g = got f
      by (phase.Taken v) f g = taken_followed (ap is_taken f)
      by q f g = absurd (cc g)

  -- WHAT IT HAS PASSED

  cells_seen : (q : ObjNo) (z : Cell) → cell_of G.cells q ≡ Some z → unworded (value_of (cell_of G2.cells q)) ≡ unworded (Some (value.Own z.value))
  cells_seen q z there =
      let a : Found k c after part grown q z = cell_then k c after part grown q z there in
      ap (λ o. unworded (value_of o)) a.there ∙ part_seen a.cell.value ∙ ap (λ v. Some (value.Own v)) a.alike ∙ sym (part_seen z.value)
    where
      grown : (q2 : ObjNo) (v : Owned) → tot (λ x. Rattle.law_walks_others.proofs.pointers.Cells.cell_weight (cells_see part q2 v) x) (things_of k) ≤ tot (λ x. Rattle.law_walks_others.proofs.pointers.Cells.cell_weight (cells_see part q2 v) x) (things_of c)
      grown q2 v = let l = leaves.cells (cells_see part q2 v) (record { threads = λ r b u. refl; messages = λ r m. refl; words = λ r new z2 b f. same_less refl }) in omega (arith, l)

  hops_seen : (w : Lval) (m : ℕ) → unworded (hop_at G2 y.number w m) ≡ unworded (hop_at G y.number w m)
  hops_seen w m = hop_same k c unworded leads_seen p before after me goes_me y2 among same_number (itself.slots_alike k e old cell t d co few c after left y2 among number) cells_seen w m

  abbrev r : ℕ
  r = d.server.rest.number

  object_on : (o : ObjNo) → other (some (tot (lies_at r o) (things_of k))) ≡ 0 → other (some (tot (lies_at r o) (things_of c))) ≡ 0
  object_on o z =
      let was = some_one (tot (lies_at r o) (things_of k)) (none_true (some (tot (lies_at r o) (things_of k))) z) in
      let is : 1 ≤ tot (lies_at r o) (things_of c) = omega (arith, was, lies_left k c r cell t before after leaves r o) in
      ap other (one_some (tot (lies_at r o) (things_of c)) is)

  away_on : (l : Option Location) (v : Option Value) → away (sight k) r l v ≡ 0 → away (sight c) r l v ≡ 0
  away_on l (Some (value.Own (owned.Box b))) z = object_on b.object z
  away_on l (Some (value.Mut q)) z = object_on q.object z
  away_on l (Some (value.SharedSlot i)) z = refl
  away_on l (Some (value.MutSlot i)) z = refl
  away_on l None z = absurd (cc z)
  away_on l (Some value.Gone) z = absurd (cc z)
  away_on l (Some (value.Own v)) z = absurd (cc z)
  away_on l (Some (value.Shared q)) z = absurd (cc z)
  away_on l (Some (value.Held m)) z = absurd (cc z)

  it_lies : (o : ObjNo) → same_object o cell.object ≡ true → other (some (tot (lies_at r o) (things_of c))) ≡ 0
  it_lies o f = ap other (one_some (tot (lies_at r o) (things_of c)) (subst (λ q. 1 ≤ tot (lies_at r q) (things_of c)) (sym (objects.tells o cell.object f)) (lies_new k c r cell t before after leaves)))

  next_lies : (l : Option Location) (v : Option Value) → itself.to_object cell.object v ≡ true → away (sight c) r l v ≡ 0
  next_lies l (Some (value.Own (owned.Box b))) f = it_lies b.object f
  next_lies l (Some (value.Mut q)) f = it_lies q.object f
  next_lies l (Some (value.SharedSlot i)) f = absurd (cc f)
  next_lies l (Some (value.MutSlot i)) f = absurd (cc f)
  next_lies l None f = absurd (cc f)
  next_lies l (Some value.Gone) f = absurd (cc f)
  next_lies l (Some (value.Own v)) f = absurd (cc f)
  next_lies l (Some (value.Shared q)) f = absurd (cc f)
  next_lies l (Some (value.Held m)) f = absurd (cc f)

  over_on : (w : Lval) (m : ℕ) → over_hops G y.number w.slot (away (sight k) r) m ≡ 0 → over_hops G2 y.number w.slot (away (sight c) r) m ≡ 0
  over_on w zero z = refl
  over_on w (suc m) z =
      let here : away (sight c) r (locate G y.number w.slot m) (hop_at G y.number w m) ≡ 0 = away_on (locate G y.number w.slot m) (hop_at G y.number w m) (omega (arith, z)) in
      let there = away_same (sight c) r (locate G2 y.number w.slot m) (locate G y.number w.slot m) (hop_at G2 y.number w m) (hop_at G y.number w m) (hops_seen w m) in
      omega (arith, here, there, over_on w m (omega (arith, z)))

  place_on : (o : Option Lval) → over_place G y.number y.passed (away (sight k) r) o ≡ 0 → over_place G2 y.number y.passed (away (sight c) r) o ≡ 0
  place_on None z = refl
  place_on (Some w) z = over_on w y.passed z

  next_on : (o : Option Lval) → itself.next_at k e old cell t d co few c after left y2 among number o ≡ true → over_place G y.number y.passed (away (sight k) r) o ≡ 0 → over_place G2 y.number (y.passed + 1) (away (sight c) r) o ≡ 0
  next_on None f z = refl
  next_on (Some w) f z =
      let one_more : y.passed + 1 ≡ suc y.passed = omega arith in
      let here : away (sight c) r (locate G y.number w.slot y.passed) (hop_at G y.number w y.passed) ≡ 0 = next_lies (locate G y.number w.slot y.passed) (hop_at G y.number w y.passed) f in
      let there = away_same (sight c) r (locate G2 y.number w.slot y.passed) (locate G y.number w.slot y.passed) (hop_at G2 y.number w y.passed) (hop_at G y.number w y.passed) (hops_seen w y.passed) in
      ap (over_hops G2 y.number w.slot (away (sight c) r)) one_more ∙ whole here there (over_on w y.passed z)
    where
      whole : {a b m : ℕ} → a ≡ 0 → b ≡ a → m ≡ 0 → b + m ≡ 0
      whole f g h = omega (arith, f, g, h)

  pub own_passed : over_passed (sight c) (away (sight c)) y2 ≡ 0
  own_passed =
      let law : PassedLaw = passed_law in
      let none = law.none_counted k co.sound.walks.have_passed in
      let was : over_passed (sight k) (away (sight k)) me ≡ 0 = none_at (over_passed (sight k) (away (sight k))) me G.threads (omega (arith, none)) goes_me.among in
      ap (λ s. over_place G2 y2.thread.number y2.thread.passed (away (sight c) s) (written_place (path (sight c) y2))) (itself.at_server k e old cell t d co few c after left y2 among number)
      ∙ ap (over_place G2 y2.thread.number y2.thread.passed (away (sight c) r)) (itself.same_place k e old cell t d co few c after left y2 among number code)
      ∙ ap (λ n. over_place G2 n y2.thread.passed (away (sight c) r) (written_place (path (sight k) me))) same_number
      ∙ by was (itself.passed_so k e old cell t d co few c after left y2 among number)
    where
      by : over_passed (sight k) (away (sight k)) me ≡ 0 → (y2.thread.passed ≡ y.passed) ⊎ ((y2.thread.passed ≡ y.passed + 1) × (itself.next_to_it k e old cell t d co few c after left y2 among number ≡ true)) → over_place G2 y.number y2.thread.passed (away (sight c) r) (written_place (path (sight k) me)) ≡ 0
      by was (inl f) = ap (λ m. over_place G2 y.number m (away (sight c) r) (written_place (path (sight k) me))) f ∙ place_on (written_place (path (sight k) me)) was
      by was (inr f) = ap (λ m. over_place G2 y.number m (away (sight c) r) (written_place (path (sight k) me))) f.0 ∙ next_on (written_place (path (sight k) me)) f.1 was
