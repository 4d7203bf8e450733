-- Going up from the branches of pairs to their parents comes to an end, after each event of a sound cluster.
use Rattle.std.proofs.Common.{◌≡◌, inl, inr, ℕ, suc, ◌+◌, ◌≤◌, ◌<◌, ◌==◌, Bool, true, false, List, [], ◌∷◌, ◌++◌, refl, ap, subst, arith}
use Rattle.law_results_reads.proofs.Below.fr_typing.PlaceLemmas.{eq_cases}
use Rattle.law_results_reads.specs.Below.join_home.Tasks.{TaskState, in_pair}
use Rattle.law_results_reads.specs.Below.journal.View.{EntryView}
use Rattle.law_results_reads.specs.Below.server_model.Servers.{Cluster}
use Rattle.law_results_reads.specs.Below.server_model.Clusters.{apply}
use Rattle.law_results_reads.specs.Below.coherent_memory.Names.{tot, one, other, if_so, some, Among}
use Rattle.law_results_reads.specs.Below.coherent_memory.Things.{Thing, noted, stands, things_of}
use Rattle.law_results_reads.specs.Below.coherent_memory.Follow.{Standing, threads_in}
use Rattle.law_results_reads.specs.Below.coherent_memory.Sight.{sight}
use Rattle.law_results_reads.specs.Below.coherent_memory.Weights.{is_thread}
use Rattle.law_results_reads.specs.Below.coherent_memory.Ranks.{Step, Falls}
use Rattle.law_results_reads.specs.Below.coherent_memory.Rooted.{parents_of, parents}
use Rattle.law_results_reads.specs.Below.coherent_memory.Naming.{threads, named_mutexes, uncounted_thread, uncounted_mutex}
use Rattle.law_results_reads.specs.Below.coherent_memory.Requests.{half_noted}
use Rattle.law_results_reads.specs.Below.coherent_memory.Coherent.{IsSound, Holds, parents_end}
use Rattle.law_results_reads.proofs.Below.coherent_memory.Names.{left_none}
use Rattle.law_results_reads.proofs.Below.coherent_memory.Ranks.{numbers_none}
use Rattle.law_results_reads.specs.Below.law_counts_sums.Laws.{PairsNoted, NumbersDiffer}
use Rattle.law_results_reads.proofs.Below.law_counts_sums.Results.{both_give}
use Rattle.law_results_reads.proofs.Below.law_counts_sums.Applied.{handed_part}
use Rattle.law_results_reads.proofs.Below.law_counts_sums.Sending.{each_event_sends}
use Rattle.law_results_reads.proofs.Below.law_counts_sums.TurnEvents.{asking_applied}
use Rattle.law_counts_things.specs.things.Laws.{EachEventKeeps}
use Rattle.law_counts_asking.proofs.Branches.{is_counted, pair_of, waits_unpaired, is_some_number, ParentOf, parent_of, noted_before, unpaired_after}

-- RANKS

-- the steps from a note
abbrev steps_at : ℕ → TaskState → List (Step ℕ)
steps_at t z = parents_of (noted 0 (record { thread = t; state = z }))

module _ (rank : ℕ → ℕ) where
  -- what all that stand have together
  abbrev standing_rank : Thing → ℕ
  standing_rank (stands r q x) = rank x.number
  standing_rank x = 0

  -- none that stands has more
  rank_less : (p : ℕ) (b : List Thing) → 1 ≤ tot (is_thread p) b → rank p ≤ tot standing_rank b
  rank_less p [] l = absurd (omega (arith, l))
  rank_less p (stands r q x ∷ b) l =
      eq_cases (λ d. 1 ≤ one d + tot (is_thread p) b → rank p ≤ rank x.number + tot standing_rank b) x.number p (λ e m. let same = ap rank e in omega (arith, same)) (λ ne m. omega (arith, rank_less p b (omega (arith, m)))) l
  rank_less p (_ ∷ b) l = omega (arith, rank_less p b (omega (arith, l)))

  -- a rank that falls on steps falls on the first of them
  falls_first : (es fs : List (Step ℕ)) → Falls rank (es ++ fs) → Falls rank es
  falls_first [] fs h = tt
  falls_first (e ∷ es) fs h = (h.0, falls_first es fs h.1)

  -- and on the others
  falls_rest : (es fs : List (Step ℕ)) → Falls rank (es ++ fs) → Falls rank fs
  falls_rest [] fs h = h
  falls_rest (e ∷ es) fs h = falls_rest es fs h.1

  -- and the other way
  falls_both : (es fs : List (Step ℕ)) → Falls rank es → Falls rank fs → Falls rank (es ++ fs)
  falls_both [] fs g h = h
  falls_both (e ∷ es) fs g h = (g.0, falls_both es fs g.1 h)

  -- from a branch that is noted in a pair to the parent
  falls_note : (p t : ℕ) (b : List Thing) → Falls rank (parents b) → 1 ≤ tot (pair_of p t) b → rank p < rank t
  falls_note p t [] h l = absurd (omega (arith, l))
  falls_note p t (noted r x ∷ b) h l = by x.thread x.state (falls_note p t b (falls_rest (parents_of (noted r x)) (parents b) h)) (falls_first (parents_of (noted r x)) (parents b) h) l
    where
      nothing : (c : Bool) → if_so c 0 ≡ 0
      nothing true = refl
      nothing false = refl

      by : (u : ℕ) (z : TaskState) → (1 ≤ tot (pair_of p t) b → rank p < rank t) → Falls rank (steps_at u z) → 1 ≤ if_so (u == t) (one (half_noted z p)) + tot (pair_of p t) b → rank p < rank t
      by u (in_pair q o) go f m =
          eq_cases (λ c. 1 ≤ if_so c (one (q == p)) + tot (pair_of p t) b → rank p < rank t) u t
          (λ e n. eq_cases (λ c. 1 ≤ one c + tot (pair_of p t) b → rank p < rank t) q p (λ g j. subst (λ a. rank a < rank t) g (subst (λ a. rank q < rank a) e f.0)) (λ ne j. go (omega (arith, j))) n) (λ ne n. go (omega (arith, n))) m
      by u z go f m = go (omega (arith, m, nothing (u == t)))
  falls_note p t (_ ∷ b) h l = falls_note p t b h (omega (arith, l))

-- who stands is among the threads that are named
pub named_none : (w : ℕ → ℕ) (p : ℕ) (b : List Thing) → tot (threads w) b ≡ 0 → 1 ≤ tot (is_thread p) b → w p ≡ 0
named_none w p [] z l = absurd (omega (arith, l))
named_none w p (stands r q x ∷ b) z l =
    eq_cases (λ d. 1 ≤ one d + tot (is_thread p) b → w p ≡ 0) x.number p (λ e m. subst (λ n. w n ≡ 0) e (omega (arith, z))) (λ ne m. named_none w p b (omega (arith, z)) (omega (arith, m))) l
named_none w p (_ ∷ b) z l = named_none w p b (omega (arith, z)) (omega (arith, l))

-- what isn't wrong is so
truly : (b : Bool) → other b ≡ 0 → b ≡ true
truly true y = refl
truly false y = absurd (cc y)

-- AFTERWARDS

abbrev Waiting : Cluster → Cluster → Type 0
Waiting k c = tot (λ (x : Standing). waits_unpaired (sight k) x.thread.number x.thread.phase) (threads_in (things_of c)) ≡ 0

abbrev Noted : Cluster → Type 0
Noted c = PairsNoted c × NumbersDiffer c

module _ (k c : Cluster) (sound : IsSound k) (none : Waiting k c) (pairs : PairsNoted c) (differ : NumbersDiffer c) where
  abbrev rank : ℕ → ℕ
  rank = sound.rooted.parents_end.rank

  -- more than any thread that stood
  abbrev above : ℕ
  above = suc (tot (standing_rank rank) (things_of k))

  abbrev ranked : Bool → ℕ → ℕ
  ranked true n = n
  ranked false n = above

  -- the rank of a thread afterwards: new ones are above all
  abbrev rank_then : ℕ → ℕ
  rank_then t = ranked (is_counted (sight k) t) (rank t)

  -- the parent of a pair stood before
  stood : (p t : ℕ) → ParentOf k c p t → 1 ≤ tot (is_thread p) (things_of k)
  stood p t it = is_some_number (tot (is_thread p) (things_of k)) (truly (some (tot (is_thread p) (things_of k))) it.stood)

  -- so it keeps its rank
  parent_rank : (p t : ℕ) → ParentOf k c p t → rank_then p ≡ rank p
  parent_rank p t it =
      let named = left_none (tot (threads (uncounted_thread (sight k))) (things_of k)) (tot (named_mutexes (uncounted_mutex (sight k))) (things_of k)) sound.names.names_counted in
      ap (λ b. ranked b (rank p)) (truly (is_counted (sight k) p) (named_none (uncounted_thread (sight k)) p (things_of k) named (stood p t it)))

  -- the rank falls from a branch to its parent
  step_falls : (p t : ℕ) → ParentOf k c p t → rank_then p < rank_then t
  step_falls p t it = by (is_counted (sight k) t) refl
    where
      by : (b : Bool) → is_counted (sight k) t ≡ b → rank_then p < ranked b (rank t)
      by true e = let low = parent_rank p t it in omega (arith, low, falls_note rank p t (things_of k) sound.rooted.parents_end.falls (noted_before k c p t it e))
      by false e = let low = parent_rank p t it in omega (arith, low, rank_less rank p (things_of k) (stood p t it))

  -- from each that is noted
  all_fall : (b : List Thing) → ((x : Thing) → Among x b → Among x (things_of c)) → Falls rank_then (parents b)
  all_fall [] i = tt
  all_fall (noted r x ∷ b) i = falls_both rank_then (parents_of (noted r x)) (parents b) (here x.state refl) (all_fall b (λ y m. i y (inr m)))
    where
      here : (z : TaskState) → x.state ≡ z → Falls rank_then (steps_at x.thread z)
      here (in_pair p o) e = (step_falls p x.thread (parent_of k c none pairs differ r p x o (i (noted r x) (inl refl)) e), tt)
      here z e = tt
  all_fall (_ ∷ b) i = all_fall b (λ y m. i y (inr m))

  -- so going up ends
  ends_then : Holds c parents_end
  ends_then = numbers_none (parents (things_of c)) (record { rank = rank_then; falls = all_fall (things_of c) (λ x h. h) })

-- after whatever event
pub parents_kept : EachEventKeeps parents_end
parents_kept k e sound few =
    both_give (λ (d : Cluster × EntryView). Waiting k d.0) (λ (d : Cluster × EntryView). Noted d.0) (λ (d : Cluster × EntryView). Holds d.0 parents_end) (apply k e) (unpaired_after k e sound few)
    (both_give (λ (d : Cluster × EntryView). PairsNoted d.0) (λ (d : Cluster × EntryView). NumbersDiffer d.0) (λ (d : Cluster × EntryView). Noted d.0) (apply k e) (asking_applied PairsNoted (λ c g. g.pairs_noted) k e sound few)
    (handed_part NumbersDiffer (λ c sums. sums.numbers_differ) k e sound few (each_event_sends k e sound few)) (λ d a b. (a, b)))
    (λ d w u. ends_then k d.0 sound w u.0 u.1)
