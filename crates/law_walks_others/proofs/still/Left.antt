-- What a thread has passed for a write lies at its server after the delivery of a `move` or a `drop`: no object is fetched away that a write has passed.
use Rattle.std.proofs.Common.{◌≡◌, ◌⊎◌, inl, inr, ℕ, suc, ◌≤◌, ◌<◌, ◌==◌, ◌&&◌, not, nat_le, Bool, true, false, Option, Some, None, refl, sym, ap, subst, ◌∙◌, arith}
use Rattle.std.proofs.lemmas.Bool.Decides.{nat_tests}
use Rattle.law_walks_others.specs.Below.fr_base.declared.name.ObjNo.{ObjNo}
use Rattle.law_walks_others.specs.Below.fr_base.declared.place.Lval.{Lval}
use Rattle.law_walks_others.specs.Below.fr_base.Names.{same_object}
use Rattle.law_walks_others.specs.Below.thread_state.declared.phase.Phase.{Phase}
use Rattle.law_walks_others.specs.Below.thread_state.declared.phase.Phase.TheVariants as phase
use Rattle.law_walks_others.specs.Below.server_msgs.declared.message.Message.{Message}
use Rattle.law_walks_others.specs.Below.server_msgs.declared.message.Message.TheVariants as message
use Rattle.law_walks_others.specs.Below.journal.View.{EntryView}
use Rattle.law_walks_others.specs.Below.server_model.declared.event.Event.{Event}
use Rattle.law_walks_others.specs.Below.server_model.Servers.{Cluster}
use Rattle.law_walks_others.specs.Below.server_model.Clusters.{apply}
use Rattle.law_walks_others.specs.Below.coherent_memory.Names.{tot, one, if_so, Among}
use Rattle.law_walks_others.specs.Below.coherent_memory.Things.{in_cell, things_of}
use Rattle.law_walks_others.specs.Below.coherent_memory.Follow.{Standing, threads_in, thread_at, locate}
use Rattle.law_walks_others.specs.Below.coherent_memory.Paths.{Path, no_path, reads, shares, lends, writes, ends, written_place}
use Rattle.law_walks_others.specs.Below.coherent_memory.Passing.{PassedLaw}
use Rattle.law_walks_others.specs.Below.coherent_memory.Sight.{Sight, sight}
use Rattle.law_walks_others.specs.Below.coherent_memory.Weights.{lies_at}
use Rattle.law_walks_others.specs.Below.coherent_memory.Walking.{path, in_walk, over_place, over_passed, away, hop_count, too_far}
use Rattle.law_walks_others.specs.Below.coherent_memory.Coherent.{Holds, passed_in_a_walk, passed_lie_here}
use Rattle.law_walks_others.proofs.Below.coherent_memory.Passing.{passed_law}
use Rattle.law_walks_others.proofs.Below.coherent_memory.Words.{none_at, none_all}
use Rattle.law_walks_others.specs.Below.coherent_types.ClusterTypes.{IsCoherent}
use Rattle.law_walks_others.specs.Below.law_words_paths.paths.HeapStore.{GoesOn, HasPaths}
use Rattle.law_walks_others.proofs.Below.law_words_paths.paths.Alike.{coherent_has_paths}
use Rattle.law_walks_others.proofs.Below.law_words_paths.paths.Sole.{some_is}
use Rattle.law_walks_others.specs.Below.law_words_paths.words.Reworded.{HasPlaces}
use Rattle.law_walks_others.specs.Below.law_words_paths.words.Unmoved.{Delivers}
use Rattle.law_walks_others.specs.Below.law_counts_sums.Laws.{Gives, FewEvents}
use Rattle.law_walks_others.proofs.Below.law_counts_sums.Results.{both_give}
use Rattle.law_walks_others.proofs.Below.law_counts_sums.Sending.{applied_part}
use Rattle.law_walks_others.proofs.Below.law_heap_still.events.Tests.{IsTest, objects}
use Rattle.law_walks_others.proofs.Below.law_heap_still.events.Told.{found}
use Rattle.law_walks_others.proofs.Below.law_counts_things.things.Sentences.{passed_kept}
use Rattle.law_walks_others.specs.Below.law_counts_waiting.waits.Places.{Follows}
use Rattle.law_walks_others.proofs.pointers.Still.{Lasts}
use Rattle.law_walks_others.proofs.pointers.New.{newly, IsQuiet, new_ones}
use Rattle.law_walks_others.proofs.pointers.Followed.{Aside, Told, of_thread, same_settings}
use Rattle.law_walks_others.proofs.pointers.Deliveries.{None_own, None_changed, moves_last, drops_last}
use Rattle.law_walks_others.proofs.pointers.Others.{follows_apart}
use Rattle.law_walks_others.proofs.pointers.Ways.{OnPath, on_path}
use Rattle.law_walks_others.proofs.still.Dropped.{drop_aside, quiet}
use Rattle.law_walks_others.proofs.still.Lying.{LiesOn, moves_lie, drops_lie}
use Rattle.law_walks_others.proofs.still.Mover.{Mover, mover, lies_home}
use Rattle.law_walks_others.proofs.still.Passing.{away_still}

object_cases : (a b : ObjNo) (P : Type 0) → (a ≡ b → P) → ((a ≡ b → ⊥) → P) → P
object_cases a b P equal other = by (same_object a b) refl
  where
    test : IsTest same_object
    test = objects

    by : (q : Bool) → same_object a b ≡ q → P
    by true e = equal (test.tells a b e)
    by false e = other (λ f. absurd (cc (sym e ∙ ap (same_object a) (sym f) ∙ test.itself a)))

-- WHO IS IDLE HAS PASSED NOTHING

abbrev idle : Phase → Bool
idle phase.Ready = true
idle phase.Over = true
idle q = false

unpassed : (m : ℕ) (b : Bool) → (m == 0) ≡ b → one (true && not b) ≡ 0 → m ≡ 0
unpassed m true f z = grind (arith, nat_tests, f)
unpassed m false f z = absurd (cc z)

idle_passed : (q : Phase) (m : ℕ) → idle q ≡ true → one (not (in_walk q) && not (m == 0)) ≡ 0 → m ≡ 0
idle_passed phase.Ready m e z = unpassed m (m == 0) refl z
idle_passed phase.Over m e z = unpassed m (m == 0) refl z
idle_passed q m e z = absurd (cc e)

none_passed : (s : Sight) (r t : ℕ) (o : Option Lval) → over_place s.ground t 0 (away s r) o ≡ 0
none_passed s r t None = refl
none_passed s r t (Some w) = refl

-- THE PLACE OF A WRITE IS ONE THAT IS FOLLOWED

abbrev Fits : Cluster → Standing → Lval → Type 0
Fits k x w = (w.depth ≡ 0) ⊎ Follows k x w

written_fits : (k : Cluster) (x : Standing) (w : Lval) → written_place (path (sight k) x) ≡ Some w → Fits k x w
written_fits k x w is = by (path (sight k) x) (on_path k x (Fits k x) (λ v e. inl e) (λ v f. inr f)) is
  where
    by : (p : Path) → OnPath (Fits k x) p → written_place p ≡ Some w → Fits k x w
    by (writes v) h e = subst (Fits k x) (some_is e) h
    by (ends r) h e = subst (Fits k x) (some_is e) h
    by no_path h e = absurd (cc e)
    by (reads v) h e = absurd (cc e)
    by (shares v) h e = absurd (cc e)
    by (lends v) h e = absurd (cc e)

module _ (k : Cluster) (e : Event) (m : Message) (o : ObjNo) (coherent : IsCoherent k) (few : FewEvents k) (Changed : ObjNo → Type 0) (lasts : Gives (λ (d : Cluster × EntryView). Lasts k d.0 None_own Changed) (apply k e)) (apart : (t slot n : ℕ) (q : ObjNo) → locate (sight k).ground t slot n ≡ Some (in_cell q) → Changed q → ⊥)
    (lie : Gives (LiesOn o k) (apply k e)) (unpassed_one : (x : Standing) (w : Lval) → GoesOn k x → written_place (path (sight k) x) ≡ Some w → (i : ℕ) → i < x.thread.passed → x.thread.passed ≤ w.depth → locate (sight k).ground x.thread.number w.slot (suc i) ≡ Some (in_cell o) → 1 ≤ tot (lies_at x.server o) (things_of k) → ⊥) where
  abbrev aside : Aside k None_own Changed
  aside x g ne w f n q le located h = apart x.thread.number w.slot n q located h

  places : Gives (λ (d : Cluster × EntryView). HasPlaces d.0) (apply k e)
  places = applied_part HasPlaces (λ c s. record { numbers_differ = s.numbers_differ; home_of_each = s.home_of_each; owner_of_each = s.owner_of_each }) k e coherent.sound few

  abbrev Settings : Cluster × EntryView → Type 0
  Settings d = (d.0.code ≡ k.code) × (d.0.options ≡ k.options)

  abbrev New : Cluster × EntryView → Type 0
  New d = (tot (newly k) (threads_in (things_of d.0)) ≡ 0) × Holds d.0 passed_in_a_walk

  abbrev There : Cluster × EntryView → Type 0
  There d = HasPlaces d.0 × LiesOn o k d

  abbrev Known : Cluster × EntryView → Type 0
  Known d = Settings d × (There d × New d)

  abbrev away_at : Sight → Standing → ℕ
  away_at s x = over_passed s (away s) x

  far : (x : Standing) → Among x (sight k).ground.threads → too_far (sight k) x ≡ 0
  far x among = none_at (too_far (sight k)) x (sight k).ground.threads coherent.sound.walks.passed_within among

  within : (x : Standing) (w : Lval) → Among x (sight k).ground.threads → written_place (path (sight k) x) ≡ Some w → x.thread.passed ≤ w.depth
  within x w among is =
      let all : Rattle.law_walks_others.specs.Below.coherent_memory.Names.other (nat_le x.thread.passed (hop_count (written_place (path (sight k) x)))) ≡ 0 = far x among in
      let mine : Rattle.law_walks_others.specs.Below.coherent_memory.Names.other (nat_le x.thread.passed w.depth) ≡ 0 = subst (λ p. Rattle.law_walks_others.specs.Below.coherent_memory.Names.other (nat_le x.thread.passed (hop_count p)) ≡ 0) is all in
      le (nat_le x.thread.passed w.depth) refl mine
    where
      le : (b : Bool) → nat_le x.thread.passed w.depth ≡ b → Rattle.law_walks_others.specs.Below.coherent_memory.Names.other b ≡ 0 → x.thread.passed ≤ w.depth
      le true e z = grind (arith, nat_tests, e)
      le false e z = absurd (cc z)

  told : (d : Cluster × EntryView) (a : Known d) (b : Lasts k d.0 None_own Changed) → Told k d.0 None_own Changed coherent (coherent_has_paths k coherent) (record { code = a.0.0; options = a.0.1; places = a.1.0.0; lasts = b; new = a.1.1.0; walks = a.1.1.1 }) aside away_at
  told d a b = record {
    before = λ x among. (let law : PassedLaw = passed_law in let none = law.none_counted k coherent.sound.walks.have_passed in none_at (away_at (sight k)) x (sight k).ground.threads (omega (arith, none)) among);
    kept = λ x g ne same z.
        away_still k d.0 x a.0.0 same (λ w is i q lt led l.
        object_cases q o (1 ≤ tot (lies_at x.server q) (things_of d.0))
        (λ f. absurd (unpassed_one x w g is i lt (within x w g.among is) (led ∙ ap (λ p. Some (in_cell p)) f) (subst (λ p. 1 ≤ tot (lies_at x.server p) (things_of k)) f l)))
        (λ ne2. omega (arith, l, a.1.0.1 x.server q ne2))) (far x g.among) z;
    rests = λ x e2 g b2. (let none = idle_passed x.thread.phase x.thread.passed e2 b2 in ap (λ n. over_place (sight d.0).ground x.thread.number n (away (sight d.0) x.server) (written_place (path (sight d.0) x))) none ∙ none_passed (sight d.0) x.server x.thread.number (written_place (path (sight d.0) x)));
  }

  pub lie_then : IsQuiet k e → Gives (λ (d : Cluster × EntryView). Holds d.0 passed_lie_here) (apply k e)
  lie_then still =
      both_give Known (λ (d : Cluster × EntryView). Lasts k d.0 None_own Changed) (λ (d : Cluster × EntryView). Holds d.0 passed_lie_here) (apply k e)
      (both_give Settings (λ d. There d × New d) Known (apply k e) (same_settings k e)
      (both_give There New (λ d. There d × New d) (apply k e) (both_give (λ (d : Cluster × EntryView). HasPlaces d.0) (LiesOn o k) There (apply k e) places lie (λ d a b. (a, b)))
      (both_give (λ (d : Cluster × EntryView). tot (newly k) (threads_in (things_of d.0)) ≡ 0) (λ (d : Cluster × EntryView). Holds d.0 passed_in_a_walk) New (apply k e) (new_ones k coherent.sound e still few) (passed_kept k e coherent.sound few) (λ d a b. (a, b)))
      (λ d a b. (a, b))) (λ d a b. (a, b))) lasts
      (λ d a b. none_all (away_at (sight d.0)) (threads_in (things_of d.0)) (λ y among. of_thread k d.0 None_own Changed coherent (coherent_has_paths k coherent) (record { code = a.0.0; options = a.0.1; places = a.1.0.0; lasts = b; new = a.1.1.0; walks = a.1.1.1 }) aside away_at (told d a b) y among (λ h. h)))

-- AN OBJECT LEAVES

module _ (k : Cluster) (e : Event) (w : ℕ) (o : ObjNo) (a t : ℕ) (d : Delivers k e (message.Move w o a t)) (coherent : IsCoherent k) (few : FewEvents k) where
  p : HasPaths k
  p = coherent_has_paths k coherent

  asker : Mover k p w a o
  asker = mover k p coherent.sound e.server d.server d.there d.place w a t o d.message

  -- who has passed it stands where it lies, and so did who asked for it
  move_unpassed : (x : Standing) (v : Lval) → GoesOn k x → written_place (path (sight k) x) ≡ Some v → (i : ℕ) → i < x.thread.passed → x.thread.passed ≤ v.depth → locate (sight k).ground x.thread.number v.slot (suc i) ≡ Some (in_cell o) → 1 ≤ tot (lies_at x.server o) (things_of k) → ⊥
  move_unpassed x v g is i lt le led l = lies_home k p coherent.sound e.server d.server d.there d.place w a t o d.message x.server l (λ f. asker.elsewhere (sym f ∙ same_server))
    where
      followed : Follows k x v
      followed = by (written_fits k x v is)
        where
          by : Fits k x v → Follows k x v
          by (inl none) = absurd (omega (arith, none, lt, le))
          by (inr f) = f

      number : x.thread.number ≡ asker.standing.thread.number
      number = follows_apart k p x g v followed (suc i) (in_cell o) (omega (arith, lt, le)) led asker.standing.thread.number o refl asker.writes_it

      found_there : (y : Standing) → Among y (sight k).ground.threads → thread_at (sight k).ground.threads y.thread.number ≡ Some y
      found_there y among = found y (things_of k) (coherent.sound.names.numbers_differ y.thread.number) among

      same_server : x.server ≡ a
      same_server =
          let goes = asker.goes in
          let same : x ≡ asker.standing = some_is (sym (found_there x g.among) ∙ ap (thread_at (sight k).ground.threads) number ∙ found_there asker.standing goes.among) in
          ap (λ (y : Standing). y.server) same ∙ asker.server

  pub move_lies : Gives (λ (r : Cluster × EntryView). Holds r.0 passed_lie_here) (apply k e)
  move_lies =
      lie_then k e (message.Move w o a t) o coherent few None_changed (moves_last k e w o a t d coherent.sound few) (λ u slot n q located h. h) (moves_lie k e w o a t d coherent.sound few) move_unpassed
      (quiet k e (message.Move w o a t) d (λ v c u f. cc) (λ v c u f. cc))

-- AN OBJECT GOES

pub drop_lies : (k : Cluster) (e : Event) (w : ℕ) (o : ObjNo) → Delivers k e (message.Drop w o) → IsCoherent k → FewEvents k → Gives (λ (r : Cluster × EntryView). Holds r.0 passed_lie_here) (apply k e)
drop_lies k e w o d coherent few =
    lie_then k e (message.Drop w o) o coherent few (λ q. o ≡ q) (drops_last k e w o d coherent.sound few) (drop_aside k coherent e w o d) (drops_lie k e w o d coherent.sound few)
    (λ x v g is i lt le led l. drop_aside k coherent e w o d x.thread.number v.slot (suc i) o led refl) (quiet k e (message.Drop w o) d (λ v c u f. cc) (λ v c u f. cc))
