-- What is told of the thread to which an object came: it has got it or has taken it, leads where it led, and has passed one hop more at most.
use Rattle.std.proofs.Common.{◌≡◌, ◌⊎◌, inl, inr, ℕ, ◌+◌, ◌-◌, ◌==◌, ◌&&◌, Bool, true, false, Option, Some, None, is_some, refl, sym, ap, subst, ◌∙◌, arith}
use Rattle.std.specs.Prelude.{slice_get, length}
use Rattle.std.proofs.lemmas.Bool.Decides.{nat_tests}
use Rattle.std.proofs.lemmas.Bool.{eq-eqb}
use Rattle.law_counts_waiting.specs.Below.fr_base.Lists.{last_of}
use Rattle.law_counts_waiting.specs.Below.fr_base.declared.name.ObjNo.{ObjNo}
use Rattle.law_counts_waiting.specs.Below.fr_base.declared.place.Lval.{Lval}
use Rattle.law_counts_waiting.specs.Below.fr_base.declared.instruction.Instr.{Instr}
use Rattle.law_counts_waiting.specs.Below.fr_base.declared.instruction.Instr.TheVariants as instr
use Rattle.law_counts_waiting.specs.Below.fr_base.Names.{same_object}
use Rattle.law_counts_waiting.specs.Below.heap_partition.declared.value.Cell.{Cell}
use Rattle.law_counts_waiting.specs.Below.heap_partition.declared.value.Owned.{Owned}
use Rattle.law_counts_waiting.specs.Below.heap_partition.declared.value.Owned.TheVariants as owned
use Rattle.law_counts_waiting.specs.Below.thread_state.View.{ThreadState}
use Rattle.law_counts_waiting.specs.Below.thread_state.declared.phase.Phase.{Phase}
use Rattle.law_counts_waiting.specs.Below.thread_state.declared.phase.Phase.TheVariants as phase
use Rattle.law_counts_waiting.specs.Below.thread_state.declared.value.Value.{Value}
use Rattle.law_counts_waiting.specs.Below.thread_state.declared.value.Value.TheVariants as value
use Rattle.law_counts_waiting.specs.Below.server_msgs.declared.message.Message.TheVariants as message
use Rattle.law_counts_waiting.specs.Below.server_model.declared.event.Event.{Event}
use Rattle.law_counts_waiting.specs.Below.server_model.Prepare.{is_taken}
use Rattle.law_counts_waiting.specs.Below.server_model.Servers.{Server, Cluster}
use Rattle.law_counts_waiting.specs.Below.server_model.Work.{Hand}
use Rattle.law_counts_waiting.specs.Below.coherent_memory.Names.{tot, one, other, if_so, Among}
use Rattle.law_counts_waiting.specs.Below.coherent_memory.Things.{things_of}
use Rattle.law_counts_waiting.specs.Below.coherent_memory.Follow.{Standing, threads_in, thread_at, hop_at}
use Rattle.law_counts_waiting.specs.Below.coherent_memory.Paths.{path_of, written_place, followed}
use Rattle.law_counts_waiting.specs.Below.coherent_memory.Sight.{sight}
use Rattle.law_counts_waiting.specs.Below.coherent_memory.Walking.{path, words_kept, loose_hop, waits_for_lent, has_followed, lost_place}
use Rattle.law_counts_waiting.specs.Below.coherent_memory.Requests.{is_got}
use Rattle.law_counts_waiting.specs.Below.coherent_types.ClusterTypes.{IsCoherent}
use Rattle.law_counts_waiting.specs.Below.law_counts_sums.Laws.{FewEvents}
use Rattle.law_counts_waiting.proofs.Below.law_counts_sums.GiftsTaken.{no_gift}
use Rattle.law_counts_waiting.proofs.Below.law_counts_sums.ThreadThere.{thread_there}
use Rattle.law_counts_waiting.proofs.Below.law_words_paths.paths.Contained.{among_thread}
use Rattle.law_walks_others.proofs.Below.law_heap_still.events.Tests.{objects}
use Rattle.law_walks_others.proofs.Below.law_heap_still.events.Told.{told, same_told, thread_told, found}
use Rattle.law_counts_waiting.specs.Below.law_words_paths.words.Reworded.{HasPlaces}
use Rattle.law_counts_waiting.specs.Below.law_words_paths.words.Unmoved.{Delivers}
use Rattle.law_walks_others.proofs.pointers.Tests.{same_value, values}
use Rattle.law_walks_others.proofs.arrivals.Unworded.{unworded, LeadsAlike, place_same}
use Rattle.law_walks_others.proofs.arrivals.Landing.{Landed, Goes, has_got, has_taken, Passes, as_before, one_more, PointsTo, by_box, by_reference}
use Rattle.law_walks_others.proofs.arrivals.Waiter.{waits_under_it}
use Rattle.law_walks_others.proofs.arrivals.Own.{OwnLeft}

-- a pointer to the object
abbrev pub to_object : ObjNo → Option Value → Bool
to_object o (Some (value.Own (owned.Box p))) = same_object p.object o
to_object o (Some (value.Mut r)) = same_object r.object o
to_object o v = false

points_so : (o : ObjNo) (v : Value) → PointsTo o v → to_object o (Some v) ≡ true
points_so o _ (by_box b e) = subst (λ q. same_object b.object q ≡ true) e (objects.itself b.object)
points_so o _ (by_reference r e) = subst (λ q. same_object r.object q ≡ true) e (objects.itself r.object)

both_true : (p q : Bool) → p ≡ true → q ≡ true → (p && q) ≡ true
both_true true q a b = b
both_true false q a b = absurd (cc a)

and_first : (p q : Bool) → (p && q) ≡ true → p ≡ true
and_first true q e = refl
and_first false q e = absurd (cc e)

and_last : (p q : Bool) → (p && q) ≡ true → q ≡ true
and_last true q e = e
and_last false q e = absurd (cc e)

-- it has got something, or taken it
abbrev pub goes_on : Phase → Bool
goes_on phase.Got = true
goes_on (phase.Taken v) = true
goes_on p = false

-- the path sees no phase
path_phase : (o : Option Instr) (t : ThreadState) (q : Phase) → path_of o (record t { phase = q }) ≡ path_of o t
path_phase None t q = refl
path_phase (Some (instr.Read w true)) t q = refl
path_phase (Some (instr.Read w false)) t q = refl
path_phase (Some i) t q = refl

same_where : (b : Bool) (m n : ℕ) → b ≡ true → if_so b ((m - n) + (n - m)) ≡ 0 → m ≡ n
same_where true m n e z = omega (arith, z)
same_where false m n e z = absurd (cc e)

module _ (k : Cluster) (e : Event) (old : ℕ) (cell : Cell) (t : ℕ) (d : Delivers k e (message.Moved old cell t)) (co : IsCoherent k) (few : FewEvents k) (c : Cluster) (after : HasPlaces c) (left : OwnLeft k e old cell t d co few c) (y2 : Standing) (among : Among y2 (sight c).ground.threads) (number : y2.thread.number ≡ t) where
  abbrev y : ThreadState
  y = left.thread

  abbrev s : Server
  s = d.server

  abbrev me : Standing
  me = record { server = s.rest.number; packed = false; thread = y }

  abbrev pub IsLanded : Hand → Type 0
  IsLanded h = Landed k co few e.server d.place s d.there old cell t y left.at h

  abbrev st : Hand → Standing
  st h = record { server = s.rest.number; packed = false; thread = h.thread }

  -- what is told of each hand that landed is told of it
  pub as_told : (g : Standing → ℕ) (m : ℕ) → ((h : Hand) → IsLanded h → g (st h) ≡ m) → g y2 ≡ m
  as_told g m each =
      let there : thread_at (threads_in (things_of c)) t ≡ Some y2 = subst (λ n. thread_at (threads_in (things_of c)) n ≡ Some y2) number (found y2 (things_of c) (after.numbers_differ y2.thread.number) among) in
      let is : told g (thread_at (threads_in (things_of c)) t) ≡ g y2 = ap (told g) there in
      omega (arith, is, thread_told g t (things_of c) (after.numbers_differ t), left.told_then g m each)

  pub waiting : y.phase ≡ phase.WaitCell old
  waiting = waits_under_it k co.sound e.server s d.there d.place old cell t d.message y left.at

  pub listed : Among me (sight k).ground.threads
  listed = (among_thread (sight k).ground.threads t me (thread_there k co.sound e.server s d.there t y left.at)).0

  pub bare : y.gift ≡ None
  bare = no_gift k co.sound e.server s d.there t y left.at (ap is_got waiting)

  -- WHERE IT STANDS

  pub at_server : y2.server ≡ s.rest.number
  at_server = as_told (λ x. x.server) s.rest.number (λ h a. refl)

  pub same_pc : y2.thread.pc ≡ y.pc
  same_pc = as_told (λ x. x.thread.pc) y.pc (λ h a. (let so = a.thread in so.pc))

  pub goes : goes_on y2.thread.phase ≡ true
  goes = by (goes_on y2.thread.phase) (as_told (λ x. other (goes_on x.thread.phase)) 0 (λ h a. (let so = a.thread in phase_so h.thread so.goes)))
    where
      phase_so : (th : ThreadState) → Goes k co few e.server d.place s d.there old cell t y left.at th → other (goes_on th.phase) ≡ 0
      phase_so th (has_got f p) = ap (λ q. other (goes_on q)) f
      phase_so th (has_taken v f p) = ap (λ (z : ThreadState). other (goes_on z.phase)) f

      by : (b : Bool) → other b ≡ 0 → b ≡ true
      by true z = refl
      by false z = absurd (cc z)

  pub no_gift_then : y2.thread.gift ≡ None
  no_gift_then = none y2.thread.gift (as_told (λ x. one (is_some x.thread.gift)) 0 (λ h a. (let so = a.thread in ap (λ v. one (is_some v)) (so.gift ∙ bare))))
    where
      none : (v : Option Owned) → one (is_some v) ≡ 0 → v ≡ None
      none None z = refl
      none (Some v) z = absurd (cc z)

  -- WHERE ITS POINTERS LEAD

  pub slots_alike : (j : ℕ) → unworded (slice_get y2.thread.slots j) ≡ unworded (slice_get y.slots j)
  slots_alike j = same_told same_value values (unworded (slice_get y2.thread.slots j)) (unworded (slice_get y.slots j)) (λ f. as_told (λ x. told f (unworded (slice_get x.thread.slots j))) (told f (unworded (slice_get y.slots j))) (λ h a. (let so = a.thread in let alike = so.alike in ap (told f) (alike.slots j))))

  alike : LeadsAlike y2.thread y
  alike = record {
    slots = slots_alike;
    size = as_told (λ x. length x.thread.slots) (length y.slots) (λ h a. (let so = a.thread in let alike = so.alike in alike.size));
    top = same_told same_value values (unworded (last_of y2.thread.temps)) (unworded (last_of y.temps)) (λ f. as_told (λ x. told f (unworded (last_of x.thread.temps))) (told f (unworded (last_of y.temps))) (λ h a. (let so = a.thread in let alike = so.alike in ap (told f) alike.top)));
  }

  pub same_place : (code : c.code ≡ k.code) → written_place (path (sight c) y2) ≡ written_place (path (sight k) me)
  same_place code = ap (λ cs. written_place (path_of (slice_get cs y2.thread.pc) y2.thread)) code ∙ ap (λ n. written_place (path_of (slice_get k.code n) y2.thread)) same_pc ∙ place_same (slice_get k.code y.pc) y2.thread y alike

  -- WHAT IT HAS PASSED

  abbrev pub next_at : Option Lval → Bool
  next_at None = false
  next_at (Some w) = to_object cell.object (hop_at (sight k).ground y.number w y.passed)

  abbrev pub next_to_it : Bool
  next_to_it = next_at (written_place (path (sight k) me))

  abbrev passes_more : ℕ → Bool → ℕ
  passes_more m true = 0
  passes_more m false = other ((m == y.passed + 1) && next_to_it)

  pub passed_so : (y2.thread.passed ≡ y.passed) ⊎ ((y2.thread.passed ≡ y.passed + 1) × (next_to_it ≡ true))
  passed_so = by (y2.thread.passed == y.passed) refl (as_told (λ x. passes_more x.thread.passed (x.thread.passed == y.passed)) 0 (λ h a. (let so = a.thread in so_far h.thread so.goes)))
    where
      before : (m : ℕ) → m ≡ y.passed → passes_more m (m == y.passed) ≡ 0
      before m f = ap (passes_more m) (eq-eqb m y.passed f)

      of_passes : (m : ℕ) → Passes k co few e.server d.place s d.there old cell t y left.at m → passes_more m (m == y.passed) ≡ 0
      of_passes m (as_before f) = before m f
      of_passes m (one_more f w place v hop points) = tested (m == y.passed)
        where
          next : next_to_it ≡ true
          next = ap next_at place ∙ ap (to_object cell.object) hop ∙ points_so cell.object v points

          tested : (b : Bool) → passes_more m b ≡ 0
          tested true = refl
          tested false = ap other (both_true (m == y.passed + 1) next_to_it (eq-eqb m (y.passed + 1) f) next)

      so_far : (th : ThreadState) → Goes k co few e.server d.place s d.there old cell t y left.at th → passes_more th.passed (th.passed == y.passed) ≡ 0
      so_far th (has_got f p) = of_passes th.passed p
      so_far th (has_taken v f p) = before th.passed (ap (λ (z : ThreadState). z.passed) f)

      none_true : (b : Bool) → other b ≡ 0 → b ≡ true
      none_true true z = refl
      none_true false z = absurd (cc z)

      by : (b : Bool) → (y2.thread.passed == y.passed) ≡ b → passes_more y2.thread.passed b ≡ 0 → (y2.thread.passed ≡ y.passed) ⊎ ((y2.thread.passed ≡ y.passed + 1) × (next_to_it ≡ true))
      by true f z = inl (grind (arith, nat_tests, f))
      by false f z =
          let all = none_true ((y2.thread.passed == y.passed + 1) && next_to_it) z in
          let first = and_first (y2.thread.passed == y.passed + 1) next_to_it all in
          inr (grind (arith, nat_tests, first), and_last (y2.thread.passed == y.passed + 1) next_to_it all)

  -- WHERE IT HAS TAKEN THE OBJECT

  module _ (taken : is_taken y2.thread.phase ≡ true) where
    pub slots_same : (j : ℕ) → slice_get y2.thread.slots j ≡ slice_get y.slots j
    slots_same j = same_told same_value values (slice_get y2.thread.slots j) (slice_get y.slots j) (λ f.
        same_where (is_taken y2.thread.phase) (told f (slice_get y2.thread.slots j)) (told f (slice_get y.slots j)) taken
        (as_told (λ x. if_so (is_taken x.thread.phase) ((told f (slice_get x.thread.slots j) - told f (slice_get y.slots j)) + (told f (slice_get y.slots j) - told f (slice_get x.thread.slots j)))) 0 (λ h a. (let so = a.thread in of f h.thread so.goes))))
      where
        none : (m : ℕ) → (m - m) + (m - m) ≡ 0
        none m = omega arith

        of : (f : Value → ℕ) (th : ThreadState) → Goes k co few e.server d.place s d.there old cell t y left.at th → if_so (is_taken th.phase) ((told f (slice_get th.slots j) - told f (slice_get y.slots j)) + (told f (slice_get y.slots j) - told f (slice_get th.slots j))) ≡ 0
        of f th (has_got g p) = ap (λ q. if_so (is_taken q) ((told f (slice_get th.slots j) - told f (slice_get y.slots j)) + (told f (slice_get y.slots j) - told f (slice_get th.slots j)))) g
        of f th (has_taken v g p) = ap (λ (z : ThreadState). if_so (is_taken z.phase) ((told f (slice_get z.slots j) - told f (slice_get y.slots j)) + (told f (slice_get y.slots j) - told f (slice_get z.slots j)))) g ∙ none (told f (slice_get y.slots j))

    pub lent_before : waits_for_lent (sight k) me (path (sight k) me) old ≡ true
    lent_before = none_wrong (waits_for_lent (sight k) me (path (sight k) me) old) (is_taken y2.thread.phase) taken (as_told (λ x. if_so (is_taken x.thread.phase) (other (waits_for_lent (sight k) me (path (sight k) me) old))) 0 (λ h a. (let so = a.thread in of h.thread so.goes)))
      where
        of : (th : ThreadState) → Goes k co few e.server d.place s d.there old cell t y left.at th → if_so (is_taken th.phase) (other (waits_for_lent (sight k) me (path (sight k) me) old)) ≡ 0
        of th (has_got g p) = ap (λ q. if_so (is_taken q) (other (waits_for_lent (sight k) me (path (sight k) me) old))) g
        of th (has_taken v g p) = zero_if (is_taken th.phase) (other (waits_for_lent (sight k) me (path (sight k) me) old)) (ap other p)
          where
            zero_if : (b : Bool) (m : ℕ) → m ≡ 0 → if_so b m ≡ 0
            zero_if true m z = z
            zero_if false m z = refl

        none_wrong : (w b : Bool) → b ≡ true → if_so b (other w) ≡ 0 → w ≡ true
        none_wrong true b f z = refl
        none_wrong false true f z = absurd (cc z)
        none_wrong false false f z = absurd (cc f)

    -- each pointer that it had followed is at hand still
    pub none_lost : lost_place (sight k) me ≡ 0 → lost_place (sight k) y2 ≡ 0
    none_lost z = at_it (is_taken y2.thread.phase) taken (as_told (λ x. if_so (is_taken x.thread.phase) (lost_place (sight k) x)) 0 (λ h a. (let so = a.thread in of h.thread so.goes)))
      where
        was : tot (loose_hop s.rest.number (words_kept y)) (followed (sight k).ground y.number (path (sight k) me)) ≡ 0
        was = sym (ap (λ b. if_so b (tot (loose_hop s.rest.number (words_kept y)) (followed (sight k).ground y.number (path (sight k) me)))) (ap (has_followed (sight k) me) waiting ∙ lent_before)) ∙ z

        taken_then : (v : ℕ) → lost_place (sight k) (record { server = s.rest.number; packed = false; thread = record y { phase = phase.Taken v } }) ≡ 0
        taken_then v = ap (λ p. tot (loose_hop s.rest.number (words_kept y)) (followed (sight k).ground y.number p)) (path_phase (slice_get k.code y.pc) y (phase.Taken v)) ∙ was

        of : (th : ThreadState) → Goes k co few e.server d.place s d.there old cell t y left.at th → if_so (is_taken th.phase) (lost_place (sight k) (record { server = s.rest.number; packed = false; thread = th })) ≡ 0
        of th (has_got g p) = ap (λ q. if_so (is_taken q) (lost_place (sight k) (record { server = s.rest.number; packed = false; thread = th }))) g
        of th (has_taken v g p) = ap (λ (u : ThreadState). if_so (is_taken u.phase) (lost_place (sight k) (record { server = s.rest.number; packed = false; thread = u }))) g ∙ taken_then v

        at_it : (b : Bool) → b ≡ true → if_so b (lost_place (sight k) y2) ≡ 0 → lost_place (sight k) y2 ≡ 0
        at_it true f z2 = z2
        at_it false f z2 = absurd (cc f)
