-- After the delivery of an object each other thread stands as it stood, and each cell on the way of a place has its value, or a box with the new word.
use Rattle.std.proofs.Common.{◌≡◌, ◌⊎◌, inl, inr, ℕ, ◌+◌, ◌-◌, ◌≤◌, ◌==◌, ◌&&◌, ◌||◌, Bool, true, false, List, Option, Some, None, refl, sym, ap, subst, ◌∙◌, arith}
use Rattle.std.proofs.lemmas.Bool.{eq-eqb}
use Rattle.law_words_ends.proofs.Below.fr_typing.PlaceLemmas.{eq_cases}
use Rattle.law_words_ends.specs.Below.fr_base.declared.name.ObjNo.{ObjNo}
use Rattle.law_words_ends.specs.Below.fr_base.declared.instruction.Instr.{Instr}
use Rattle.law_words_ends.specs.Below.fr_base.Names.{same_object}
use Rattle.law_words_ends.specs.Below.heap_partition.Same.{same_owned}
use Rattle.law_words_ends.specs.Below.heap_partition.declared.value.Cell.{Cell}
use Rattle.law_words_ends.specs.Below.heap_partition.declared.value.Owned.{Owned}
use Rattle.law_words_ends.specs.Below.thread_state.View.{ThreadState}
use Rattle.law_words_ends.specs.Below.thread_state.declared.value.Value.TheVariants as value
use Rattle.law_words_ends.specs.Below.server_model.Servers.{Server, Cluster}
use Rattle.law_words_ends.specs.Below.coherent_memory.Names.{tot, one, if_so, Among}
use Rattle.law_words_ends.specs.Below.coherent_memory.Things.{Thing, lies, flies, stands, sent, things_of}
use Rattle.law_words_ends.specs.Below.coherent_memory.Follow.{Standing, Ground, thread_at, cell_of}
use Rattle.law_words_ends.specs.Below.coherent_memory.Sight.{sight}
use Rattle.law_words_ends.specs.Below.coherent_memory.Requests.{has_word}
use Rattle.law_words_ends.proofs.Below.coherent_memory.Names.{and_left, and_right}
use Rattle.law_words_ends.specs.Below.law_words_paths.words.Reworded.{HasPlaces}
use Rattle.law_words_ends.proofs.Below.law_words_paths.words.Standing.{CellOf, lying, flying, cell_among, cell_found}
use Rattle.law_words_ends.proofs.Below.law_heap_still.events.Tests.{objects}
use Rattle.law_words_ends.proofs.Below.law_heap_still.events.Told.{told, at_thread, thread_told, tot_same}
use Rattle.law_walks_others.proofs.Below.law_counts_waiting.waits.Found.{weighing, among_weighs}
use Rattle.law_walks_others.proofs.pointers.Cells.{Seeing, cell_weight}
use Rattle.law_walks_others.proofs.pointers.Tests.{owneds}
use Rattle.law_walks_own.proofs.taken.Landed.{new, Lands, Rewords, gain, loss, Ends, gets_there, takes_there, Comes}

truly : (b : Bool) → 1 ≤ one b → b ≡ true
truly true l = refl
truly false l = absurd (omega (arith, l))

both : (p q : Bool) → p ≡ true → q ≡ true → (p && q) ≡ true
both true q a b = b
both false q a b = absurd (cc a)

left_or : (p q : Bool) → p ≡ true → (p || q) ≡ true
left_or true q e = refl
left_or false q e = absurd (cc e)

either : (p q : Bool) → (p || q) ≡ true → (p ≡ true) ⊎ (q ≡ true)
either true q e = inl refl
either false q e = inr e

truth_cases : (b : Bool) (P : Bool → Type 0) → (b ≡ true → P true) → (b ≡ false → P false) → P b
truth_cases true P f g = f refl
truth_cases false P f g = g refl

-- a cell of the object with that value, or with another one that may be there
abbrev pub shows_or : ObjNo → Owned → (Owned → Bool) → Thing → ℕ
shows_or o v may (lies s a d) = one (same_object d.object o && (same_owned d.value v || may d.value))
shows_or o v may (flies w d) = one (same_object d.object o && (same_owned d.value v || may d.value))
shows_or o v may x = 0

abbrev cells_or : ObjNo → Owned → (Owned → Bool) → Seeing
cells_or o v may = record { cells = λ r q u. one (same_object q o && (same_owned u v || may u)); threads = λ s b u. 0; messages = λ s m. 0 }

cells_so : (o : ObjNo) (v : Owned) (may : Owned → Bool) (x : Thing) → cell_weight (cells_or o v may) x ≡ shows_or o v may x
cells_so o v may (stands s b u) = refl
cells_so o v may (lies s a d) = refl
cells_so o v may (flies w d) = refl
cells_so o v may (sent s m) = refl
cells_so o v may _ = refl

abbrev threads_of : (Standing → ℕ) → ℕ → Seeing
threads_of g n = record { cells = λ r o v. 0; messages = λ s m. 0; threads = λ s b u. if_so (u.number == n) (g (record { server = s; packed = b; thread = u })) }

threads_so : (g : Standing → ℕ) (n : ℕ) (x : Thing) → cell_weight (threads_of g n) x ≡ at_thread g n x
threads_so g n (stands s b u) = refl
threads_so g n (lies s a d) = refl
threads_so g n (flies w d) = refl
threads_so g n (sent s m) = refl
threads_so g n _ = refl

weighs : (a b : List Thing) (see : Seeing) (f : Thing → ℕ) → ((x : Thing) → cell_weight see x ≡ f x) → tot (cell_weight see) a ≤ tot (cell_weight see) b → tot f a ≤ tot f b
weighs a b see f same l = omega (arith, l, tot_same (cell_weight see) f same a, tot_same (cell_weight see) f same b)

-- a thread stands there that no count tells from that one
pub record Stays (z : Cluster) (x : Standing) : Type 0 where
  pub standing : Standing
  pub found : thread_at (sight z).ground.threads x.thread.number ≡ Some standing
  pub same : (g : Standing → ℕ) → g standing ≡ g x

stays_by : (z : Cluster) (x : Standing) → ((g : Standing → ℕ) → g x ≤ told g (thread_at (sight z).ground.threads x.thread.number)) → Stays z x
stays_by z x less = by (thread_at (sight z).ground.threads x.thread.number) refl
  where
    at : (g : Standing → ℕ) (o : Option Standing) → thread_at (sight z).ground.threads x.thread.number ≡ o → g x ≤ told g o
    at g o e = subst (λ q. g x ≤ told g q) e (less g)

    by : (o : Option Standing) → thread_at (sight z).ground.threads x.thread.number ≡ o → Stays z x
    by None e = absurd (omega (arith, at (λ u. 1) None e))
    by (Some y) e = record { standing = y; found = e; same = λ g. omega (arith, at g (Some y) e, at (λ u. (g x + g y) - g u) (Some y) e) }

-- a thread that is among the things
pub stays_there : (z : Cluster) → HasPlaces z → (n : ℕ) (u : ThreadState) → ((f : Thing → ℕ) → f (stands n false u) ≤ tot f (things_of z)) → Stays z (record { server = n; packed = false; thread = u })
stays_there z after n u there = stays_by z x less
  where
    x : Standing
    x = record { server = n; packed = false; thread = u }

    less : (g : Standing → ℕ) → g x ≤ told g (thread_at (sight z).ground.threads u.number)
    less g =
        let mine : at_thread g u.number (stands n false u) ≡ g x = ap (λ b. if_so b (g x)) (eq-eqb u.number u.number refl) in
        omega (arith, mine, there (at_thread g u.number), thread_told g u.number (things_of z) (after.numbers_differ u.number))

module _ (k z : Cluster) (before : HasPlaces k) (after : HasPlaces z) (cs : List Instr) (s : Server) (old t : ℕ) (c : Cell) (y : ThreadState) (comes : Comes cs s old t c y (things_of k) (things_of z)) where
  abbrev G : Ground
  G = (sight k).ground

  abbrev G2 : Ground
  G2 = (sight z).ground

  abbrev w1 : ℕ
  w1 = new cs s old t c y

  -- no less is there, where no less is seen of the object where it lies
  pub no_less : (see : Seeing) → Rewords cs s old t c y see → loss cs s old t c y see ≤ gain cs s old t c y see → tot (cell_weight see) (things_of k) ≤ tot (cell_weight see) (things_of z)
  no_less see r less = by comes.ends
    where
      by : Ends cs s old t c y comes.thread (things_of k) (things_of z) → tot (cell_weight see) (things_of k) ≤ tot (cell_weight see) (things_of z)
      by (gets_there e m) = let l = m (see, r) in omega (arith, l, less)
      by (takes_there u e m) = let l = m (see, r.base) in omega (arith, l, less)

  -- OTHER THREADS

  others_less : (g : Standing → ℕ) (n : ℕ) → (n ≡ t → ⊥) → tot (at_thread g n) (things_of k) ≤ tot (at_thread g n) (things_of z)
  others_less g n ne = weighs (things_of k) (things_of z) (threads_of g n) (at_thread g n) (threads_so g n) (no_less (threads_of g n) (record {
    base = record { own = λ u e. eq_cases (λ q. if_so q (g (record { server = s.rest.number; packed = false; thread = u })) ≡ 0) u.number n (λ same. absurd (ne (sym same ∙ e))) (λ other. refl) };
    gets = λ o b. omega arith;
  }) (omega arith))

  pub others_stay : (x : Standing) → thread_at G.threads x.thread.number ≡ Some x → (x.thread.number ≡ t → ⊥) → Stays z x
  others_stay x there ne =
      stays_by z x (λ g. (let b : told g (thread_at G.threads x.thread.number) ≡ g x = ap (told g) there in
      omega (arith, b, others_less g x.thread.number ne, thread_told g x.thread.number (things_of k) (before.numbers_differ x.thread.number), thread_told g x.thread.number (things_of z) (after.numbers_differ x.thread.number))))

  -- its own thread
  pub own_stays : Stays z (record { server = s.rest.number; packed = false; thread = comes.thread })
  own_stays = stays_there z after s.rest.number comes.thread comes.there

  -- CELLS

  pub record CellThen (o : ObjNo) (v : Owned) (may : Owned → Bool) : Type 0 where
    pub cell : Cell
    pub there : cell_of G2.cells o ≡ Some cell
    pub has : (cell.value ≡ v) ⊎ (may cell.value ≡ true)

  cell_by : (o : ObjNo) (d : Cell) (may : Owned → Bool) → cell_of G.cells o ≡ Some d → tot (shows_or o d.value may) (things_of k) ≤ tot (shows_or o d.value may) (things_of z) → CellThen o d.value may
  cell_by o d may there less =
      let a = cell_among o d (things_of k) there in
      let mine : shows_or o d.value may a.thing ≡ 1 = weighs_one a.thing a.is a.object in
      let r = weighing (shows_or o d.value may) (things_of z) (omega (arith, less, mine, among_weighs (shows_or o d.value may) a.thing (things_of k) a.among)) in
      by r.thing r.among r.weighs
    where
      one_so : d.object ≡ o → one (same_object d.object o && (same_owned d.value d.value || may d.value)) ≡ 1
      one_so e = ap one (both (same_object d.object o) (same_owned d.value d.value || may d.value) (subst (λ q. same_object d.object q ≡ true) e (objects.itself d.object)) (left_or (same_owned d.value d.value) (may d.value) (owneds.itself d.value)))

      weighs_one : (y : Thing) → CellOf d y → d.object ≡ o → shows_or o d.value may y ≡ 1
      weighs_one _ (lying s a) e = one_so e
      weighs_one _ (flying u) e = one_so e

      it : (d2 : Cell) (y : Thing) → CellOf d2 y → Among y (things_of z) → 1 ≤ one (same_object d2.object o && (same_owned d2.value d.value || may d2.value)) → CellThen o d.value may
      it d2 y is h l =
          let all = truly (same_object d2.object o && (same_owned d2.value d.value || may d2.value)) l in
          let object : d2.object ≡ o = objects.tells d2.object o (and_left (same_object d2.object o) (same_owned d2.value d.value || may d2.value) all) in
          record {
            cell = d2;
            there = subst (λ q. cell_of G2.cells q ≡ Some d2) object (cell_found d2 y (things_of z) (after.home_of_each d2.object) is h);
            has = says (either (same_owned d2.value d.value) (may d2.value) (and_right (same_object d2.object o) (same_owned d2.value d.value || may d2.value) all));
          }
        where
          says : (same_owned d2.value d.value ≡ true) ⊎ (may d2.value ≡ true) → (d2.value ≡ d.value) ⊎ (may d2.value ≡ true)
          says (inl e) = inl (owneds.tells d2.value d.value e)
          says (inr e) = inr e

      by : (y : Thing) → Among y (things_of z) → 1 ≤ shows_or o d.value may y → CellThen o d.value may
      by (lies s a d2) h l = it d2 (lies s a d2) (lying s a) h l
      by (flies u d2) h l = it d2 (flies u d2) (flying u) h l
      by _ h l = absurd (omega (arith, l))

  -- it has its value, or a box with the new word
  abbrev is_new : Owned → Bool
  is_new u = has_word w1 (Some (value.Own u))

  pub cell_then : (o : ObjNo) (d : Cell) → cell_of G.cells o ≡ Some d → CellThen o d.value is_new
  cell_then o d there =
      cell_by o d is_new there (weighs (things_of k) (things_of z) (cells_or o d.value is_new) (shows_or o d.value is_new) (cells_so o d.value is_new) (no_less (cells_or o d.value is_new) (record {
        base = record { own = λ u e. refl };
        gets = λ q b. truth_cases (same_object q o) (λ e. one (e && (same_owned (Rattle.law_words_ends.specs.Below.heap_partition.declared.value.Owned.TheVariants.Box b) d.value || (b.word == w1))) ≤ one (e && (same_owned (Rattle.law_words_ends.specs.Below.heap_partition.declared.value.Owned.TheVariants.Box (record b { word = w1 })) d.value || (w1 == w1))))
            (λ e. most (same_owned (Rattle.law_words_ends.specs.Below.heap_partition.declared.value.Owned.TheVariants.Box b) d.value || (b.word == w1)) (same_owned (Rattle.law_words_ends.specs.Below.heap_partition.declared.value.Owned.TheVariants.Box (record b { word = w1 })) d.value) (w1 == w1) (eq-eqb w1 w1 refl)) (λ e. omega arith);
      }) (omega arith)))
    where
      most : (p q r : Bool) → r ≡ true → one p ≤ one (q || r)
      most true true r e = omega arith
      most true false true e = omega arith
      most true false false e = absurd (cc e)
      most false q r e = omega arith

  -- where the object was taken it has its value
  pub cell_kept : (o : ObjNo) (d : Cell) → cell_of G.cells o ≡ Some d → ((w : (see : Seeing) × Lands cs s old t c y see) → tot (cell_weight w.0) (things_of k) + gain cs s old t c y w.0 ≤ tot (cell_weight w.0) (things_of z) + loss cs s old t c y w.0) → CellThen o d.value (λ u. false)
  cell_kept o d there m =
      cell_by o d (λ u. false) there (weighs (things_of k) (things_of z) (cells_or o d.value (λ u. false)) (shows_or o d.value (λ u. false)) (cells_so o d.value (λ u. false)) (let l = m (cells_or o d.value (λ u. false), record { own = λ u e. refl }) in omega (arith, l)))
