-- A copy under the word of a pointer that is neither stale nor dirty is the object's cell, and under the next colour of such a word there is none.
use Rattle.std.proofs.Common.{◌≡◌, inl, inr, ⊎_elim, ◌≤◌, ℕ, ◌+◌, ◌*◌, ◌==◌, ◌&&◌, ◌||◌, not, nat_lt, is_some, Bool, true, false, if◌then◌else◌, List, [], ◌∷◌, Option, Some, None, refl, sym, ap, subst, ◌∙◌, arith}
use Rattle.std.specs.Prelude.{slice_get}
use Rattle.std.proofs.lemmas.Bool.Decides.{nat_tests}
use Rattle.law_counts_sums.specs.Below.fr_base.declared.name.ObjNo.{ObjNo}
use Rattle.law_counts_sums.specs.Below.global_addr.Words.{colour_of, server_of, address_of, next_word}
use Rattle.law_counts_sums.specs.Below.heap_partition.declared.value.Cell.{Cell}
use Rattle.law_counts_sums.specs.Below.mut_borrow.declared.mutable.MutRef.{MutRef}
use Rattle.law_counts_sums.specs.Below.read_cache.Cache.{Copy, copy_of, cell_in, hit, is_cached, users}
use Rattle.law_counts_sums.specs.Below.thread_state.declared.value.Value.TheVariants as value
use Rattle.law_counts_sums.specs.Below.server_model.Servers.{Server, Cluster, server_at}
use Rattle.law_counts_sums.specs.Below.coherent_memory.Names.{tot, one, other, Among, same_object, same_cell}
use Rattle.law_counts_sums.specs.Below.coherent_memory.Things.{Location, at_slot, at_temp, Thing, borrows, lies, flies, vacant, retired, copied, counts, things_of}
use Rattle.law_counts_sums.specs.Below.coherent_memory.Follow.{cells_in, cell_of, value_in, slot_of, temp_of}
use Rattle.law_counts_sums.specs.Below.coherent_memory.Stale.{is_among, is_held_at, holder_of}
use Rattle.law_counts_sums.specs.Below.coherent_memory.Sight.{Pointer, pointers_in, taken_pointers, sight, word, word_of_object, is_word, cell_of_word, dirty_objects, if_dirty, is_object_among, colour_up_to, is_spot, is_issued_at, is_issued, issued}
use Rattle.law_counts_sums.specs.Below.coherent_memory.Words.{HasWords, IsStale, LeadsTo}
use Rattle.law_counts_sums.specs.Below.coherent_memory.Placing.{words, standing_in, other_copy, other_cell, clean_cell, if_clean, unless_dirty, same_words, shared_words, is_word_of}
use Rattle.law_counts_sums.specs.Below.coherent_memory.Weights.{states, below}
use Rattle.law_counts_sums.specs.Below.coherent_memory.Naming.{large_counts, events_of}
use Rattle.law_counts_sums.specs.Below.coherent_memory.Coherent.{IsSound}
use Rattle.law_counts_sums.proofs.Below.coherent_memory.Names.{and_left, and_right, same_number}
use Rattle.law_counts_sums.proofs.Below.coherent_memory.Sums.{server_parts}
use Rattle.law_counts_sums.proofs.Below.coherent_memory.Words.{named, none_at, words_law, told as told_stale}
use Rattle.law_counts_sums.proofs.Askers.{other_none}
use Rattle.law_counts_sums.proofs.Copies.{copy_word, copy_goes}
use Rattle.law_counts_sums.specs.Sums.{is_server}
use Rattle.law_counts_sums.proofs.Each.{at_most}
use Rattle.law_counts_sums.proofs.Sound.{sound_has_sums}
use Rattle.law_counts_sums.proofs.Events.{tot-server}
use Rattle.law_words_paths.specs.paths.HeapStore.{HasPaths}
use Rattle.law_words_paths.proofs.paths.Contained.{reference_there}
use Rattle.law_words_paths.proofs.paths.FreshPaths.{held_at}
use Rattle.law_words_paths.proofs.paths.InState.{only_one}
use Rattle.law_words_paths.proofs.paths.Origins.{among_first}
use Rattle.law_words_paths.proofs.paths.Pointers.{borrowed_at}
use Rattle.law_words_paths.proofs.paths.Shown.{stands_there}
use Rattle.law_results_reads.proofs.Pointing.{Stands, HomeOf, lies_there, flies_there, home_of_cell, same_cells, its_word}

-- the thing of a cell that is among the cells
among_home : (b : List Thing) (d : Cell) → Among d (cells_in b) → HomeOf b d
among_home [] d h = absurd h
among_home (lies r a c ∷ b) d (inl e) = lies_there r a (inl (ap (lies r a) e))
among_home (lies r a c ∷ b) d (inr h) = later (among_home b d h)
  where
    later : HomeOf b d → HomeOf (lies r a c ∷ b) d
    later (lies_there q m g) = lies_there q m (inr g)
    later (flies_there w g) = flies_there w (inr g)
among_home (flies w c ∷ b) d (inl e) = flies_there w (inl (ap (flies w) e))
among_home (flies w c ∷ b) d (inr h) = later (among_home b d h)
  where
    later : HomeOf b d → HomeOf (flies w c ∷ b) d
    later (lies_there q m g) = lies_there q m (inr g)
    later (flies_there v g) = flies_there v (inr g)
among_home (x ∷ b) d h = later (among_home b d h)
  where
    later : HomeOf b d → HomeOf (x ∷ b) d
    later (lies_there q m g) = lies_there q m (inr g)
    later (flies_there w g) = flies_there w (inr g)

-- the cell of a word is that of its object, where no other object has the word
by_list : (ps : List Pointer) (w : ℕ) (o : ObjNo) (c : Cell) (cs : List Cell) → ((d : Cell) → Among d cs → same_object d.object o ≡ false → is_word (word_of_object ps d.object) w ≡ false) → is_word (word_of_object ps o) w ≡ true
    → cell_of cs o ≡ Some c → cell_of_word ps cs w ≡ Some c
by_list ps w o c [] others its e = absurd cc
by_list ps w o c (d ∷ cs) others its e = by (same_object d.object o) refl e (by_list ps w o c cs (λ x h. others x (inr h)) its)
  where
    by : (q : Bool) → same_object d.object o ≡ q → (if q then Some d else cell_of cs o) ≡ Some c → (cell_of cs o ≡ Some c → cell_of_word ps cs w ≡ Some c) → (if is_word (word_of_object ps d.object) w then Some d else cell_of_word ps cs w) ≡ Some c
    by true f g go =
        let same : is_word (word_of_object ps d.object) w ≡ true = ap (λ z. is_word (word_of_object ps z) w) (named d.object o f) ∙ its in
        ap (λ b. if b then Some d else cell_of_word ps cs w) same ∙ g
    by false f g go = ap (λ b. if b then Some d else cell_of_word ps cs w) (others d (inl refl) f) ∙ go g

-- a dirty reference to the object that isn't stale
record DirtyThere (places : List Location) (b : List Thing) (o : ObjNo) : Type 0 where
  at : Location
  reference : MutRef
  among : Among (borrows at reference) b
  dirty : reference.dirty ≡ true
  fresh : is_among at places ≡ false
  object : reference.object ≡ o

dirty_there : (places : List Location) (b : List Thing) (o : ObjNo) → is_object_among o (dirty_objects places b) ≡ true → DirtyThere places b o
dirty_there places [] o e = absurd cc
dirty_there places (borrows l r ∷ b) o e = by (r.dirty && not (is_among l places)) refl e (dirty_there places b o)
  where
    later : DirtyThere places b o → DirtyThere places (borrows l r ∷ b) o
    later d = record { at = d.at; reference = d.reference; among = inr d.among; dirty = d.dirty; fresh = d.fresh; object = d.object }

    negated : (q : Bool) → not q ≡ true → q ≡ false
    negated true f = absurd cc
    negated false f = refl

    first : (p q : Bool) → same_object r.object o ≡ p → is_object_among o (dirty_objects places b) ≡ q → (p || q) ≡ true → r.dirty ≡ true → is_among l places ≡ false → (is_object_among o (dirty_objects places b) ≡ true → DirtyThere places b o) → DirtyThere places (borrows l r ∷ b) o
    first true q f g h d s go = record { at = l; reference = r; among = inl refl; dirty = d; fresh = s; object = named r.object o f }
    first false true f g h d s go = later (go g)
    first false false f g h d s go = absurd cc

    by : (q : Bool) → (r.dirty && not (is_among l places)) ≡ q → is_object_among o (if_dirty q r.object (dirty_objects places b)) ≡ true → (is_object_among o (dirty_objects places b) ≡ true → DirtyThere places b o) → DirtyThere places (borrows l r ∷ b) o
    by true f g go = first (same_object r.object o) (is_object_among o (dirty_objects places b)) refl refl g (and_left r.dirty (not (is_among l places)) f) (negated (is_among l places) (and_right r.dirty (not (is_among l places)) f)) go
    by false f g go = later (go g)
dirty_there places (x ∷ b) o e = let d = dirty_there places b o e in record { at = d.at; reference = d.reference; among = inr d.among; dirty = d.dirty; fresh = d.fresh; object = d.object }

-- where a mutable reference stands it is found
pub lent_value : (k : Cluster) (c : HasPaths k) (l : Location) (r : MutRef) → Among (borrows l r) (things_of k) → value_in (sight k).ground l ≡ Some (value.Mut r)
lent_value k c l r among =
    let s = borrowed_at k c l r among in
    let x = s.thread in
    let here_it = stands_there k c x s.goes in
    ⊎_elim (λ (a : (l ≡ at_slot x.thread.number s.number) × (slice_get x.thread.slots s.number ≡ Some (value.Mut r))). ap (value_in (sight k).ground) a.0 ∙ ap (λ o. slot_of o s.number) here_it ∙ a.1)
    (λ (a : (l ≡ at_temp x.thread.number s.number) × (slice_get x.thread.temps s.number ≡ Some (value.Mut r))). ap (value_in (sight k).ground) a.0 ∙ ap (λ o. temp_of o s.number) here_it ∙ a.1) s.at

none_issued : (colours w : ℕ) (ps : List Pointer) (b : List Thing) → ((x : Thing) → Among x b → is_issued_at colours ps w x ≡ false) → is_issued colours ps b w ≡ false
none_issued colours w ps [] f = refl
none_issued colours w ps (x ∷ b) f = ap (λ q. q || is_issued colours ps b w) (f x (inl refl)) ∙ none_issued colours w ps b (λ y h. f y (inr h))

same_spot : (r a s d : ℕ) → s ≡ r → d ≡ a → 1 ≤ one (s == r && d == a)
same_spot r a s d e f =
    let x : (s == r) ≡ true = grind (arith, nat_tests, e) in
    let y : (d == a) ≡ true = grind (arith, nat_tests, f) in
    rw x (rw y (omega arith))

-- the next colour is later
later_colour : (w : ℕ) → colour_up_to (Some w) (next_word w) ≡ false
later_colour w =
    let l : colour_of (next_word w) ≡ colour_of w + 1 = omega arith in
    grind (arith, nat_tests, l)

lies_same : (r a s d : ℕ) (c e : Cell) → lies r a c ≡ lies s d e → c ≡ e
lies_same r a s d c e f = cc

-- an address is below its server's next one at most once
below_less : (r a : ℕ) (b : List Thing) → tot (below (r, a)) b ≤ tot (is_server r) b
below_less r a [] = omega arith
below_less r a (counts q next old started made events ∷ b) = omega (arith, below_less r a b, by (q == r) (nat_lt a next))
  where
    by : (p q : Bool) → one (p && q) ≤ one p
    by true true = omega arith
    by true false = omega arith
    by false q = omega arith
below_less r a (_ ∷ b) = omega (arith, below_less r a b)

module _ (k : Cluster) (c : HasPaths k) (sound : IsSound k) (number : ℕ) (s : Server) (here : server_at k.servers number ≡ Some s) where
  abbrev n : ℕ
  n = s.rest.number

  abbrev hw : HasWords (sight k)
  hw = sound.words.have_words

  -- a copy weighs no more than all things do
  pub copy_less : (w : ℕ) (x : Copy) → copy_of s.rest.cache w ≡ Some x → (f : Thing → ℕ) → f (copied n x) ≤ tot f (things_of k)
  copy_less w x e f = let t = copy_goes n s.rest.cache w x e in omega (arith, (tot-server f k.servers number s s here).0, server_parts f s, t.before f)

  -- no copy has many users
  pub few_users : (w : ℕ) → users s.rest.cache w ≤ 16 * events_of (sight k)
  few_users w = by (copy_of s.rest.cache w) refl
    where
      by : (o : Option Copy) → copy_of s.rest.cache w ≡ o → Rattle.law_counts_sums.specs.Below.read_cache.Cache.users_in o ≤ 16 * events_of (sight k)
      by None e = omega arith
      by (Some x) e =
          let all : tot (large_counts (events_of (sight k))) (things_of k) ≡ 0 = sound.names.counts_bounded in
          at_most x.users (16 * events_of (sight k)) (omega (arith, all, copy_less w x e (large_counts (events_of (sight k)))))

  module _ (p : Pointer) (stands : Stands k p) (fresh : IsStale (sight k) p.at → ⊥) where
    abbrev o : ObjNo
    o = p.object

    told : word (sight k) o ≡ Some p.word
    told =
        words_law.first_tells k hw o (record { pointer = p; among = among_first p (pointers_in (things_of k)) (taken_pointers k.code (sight k).ground (sight k).ground.threads) stands.pointers; object = refl; fresh = fresh })
        ∙ ap Some (sym (its_word k sound number s here p stands fresh))

    module _ (cell : Cell) (there : cell_of (sight k).ground.cells o ≡ Some cell) where
      abbrev home : HomeOf (things_of k) cell
      home = (home_of_cell (things_of k) o cell there).0

      object_is : cell.object ≡ o
      object_is = (home_of_cell (things_of k) o cell there).1

      -- no other object has its word
      sharing : tot (same_words (sight k) (word (sight k) cell.object) cell.object) (things_of k) ≡ 0
      sharing = by (home_of_cell (things_of k) o cell there).0
        where
          by : HomeOf (things_of k) cell → tot (same_words (sight k) (word (sight k) cell.object) cell.object) (things_of k) ≡ 0
          by (lies_there r a h) = none_at (shared_words (sight k)) (lies r a cell) (things_of k) sound.words.different_words h
          by (flies_there w h) = none_at (shared_words (sight k)) (flies w cell) (things_of k) sound.words.different_words h

      apart : (d : Cell) → Among d (sight k).ground.cells → same_object d.object o ≡ false → is_word (word_of_object (sight k).pointers d.object) p.word ≡ false
      apart d h ne = by (among_home (things_of k) d h)
        where
          no_word : (x : Option ℕ) (w : ℕ) (q : Bool) → q ≡ false → one (not q && is_word_of x (Some w)) ≡ 0 → is_word x w ≡ false
          no_word None w false e z = refl
          no_word (Some v) w false e z = by_test (v == w) z
            where
              by_test : (b : Bool) → one b ≡ 0 → b ≡ false
              by_test true y = absurd (cc y)
              by_test false y = refl
          no_word x w true e z = absurd (cc e)

          at_its_word : (x : Thing) → same_words (sight k) (word (sight k) cell.object) cell.object x ≡ 0 → same_words (sight k) (Some p.word) o x ≡ 0
          at_its_word x z = sym (ap (λ q. same_words (sight k) (word (sight k) q) q x) object_is ∙ ap (λ q. same_words (sight k) q o x) told) ∙ z

          by : HomeOf (things_of k) d → is_word (word_of_object (sight k).pointers d.object) p.word ≡ false
          by (lies_there r a g) = no_word (word (sight k) d.object) p.word (same_object d.object o) ne (at_its_word (lies r a d) (none_at (same_words (sight k) (word (sight k) cell.object) cell.object) (lies r a d) (things_of k) sharing g))
          by (flies_there w g) = no_word (word (sight k) d.object) p.word (same_object d.object o) ne (at_its_word (flies w d) (none_at (same_words (sight k) (word (sight k) cell.object) cell.object) (flies w d) (things_of k) sharing g))

      its_cell : cell_of_word (sight k).pointers (sight k).ground.cells p.word ≡ Some cell
      its_cell = by_list (sight k).pointers p.word o cell (sight k).ground.cells apart (ap (λ x. is_word x p.word) told ∙ itself_equal p.word) there
        where
          itself_equal : (w : ℕ) → (w == w) ≡ true
          itself_equal w = grind (arith, nat_tests)

      -- no dirty reference to it isn't stale, but one at the pointer's own place
      module _ (clean : (l : Location) (r : MutRef) → p.at ≡ Some l → value_in (sight k).ground l ≡ Some (value.Mut r) → r.dirty ≡ true → ⊥) where
        none_dirty : is_object_among cell.object (sight k).dirty ≡ false
        none_dirty = by (is_object_among cell.object (sight k).dirty) refl
          where
            no_stale : (l : Location) → is_among l (sight k).stale ≡ false → IsStale (sight k) (Some l) → ⊥
            no_stale l e st = let t = told_stale k (Some l) st in let no : false ≡ true = sym e ∙ t in cc

            by : (q : Bool) → is_object_among cell.object (sight k).dirty ≡ q → q ≡ false
            by false e = refl
            by true e =
                let d = dirty_there (sight k).stale (things_of k) cell.object e in
                let v = lent_value k c d.at d.reference d.among in
                let ref = reference_there k d.at d.reference v in
                let alone = sound.words.dirty_alone (record { at = d.at; holder = holder_of (sight k).ground d.at d.reference.holder; reference = d.reference }) ref d.dirty (no_stale d.at d.fresh) in
                let sole = alone.sole p (among_first p (standing_in (things_of k)) (taken_pointers k.code (sight k).ground (sight k).ground.threads) stands.standing) (sym (d.object ∙ object_is)) in
                absurd (⊎_elim (λ (x : IsStale (sight k) p.at). fresh x) (λ (x : is_held_at d.at p.at ≡ true). clean d.at d.reference (held_at d.at p.at x) v d.dirty) sole)

        present : clean_cell (sight k) p.word ≡ Some cell
        present = ap (if_clean (sight k)) its_cell ∙ ap (λ b. unless_dirty b cell) none_dirty

        -- so a copy under its word is the cell
        pub copy_is : (d : Cell) → hit s.rest.cache p.word ≡ Some d → d ≡ cell
        copy_is d e = by (copy_of s.rest.cache p.word) refl e
          where
            by : (x : Option Copy) → copy_of s.rest.cache p.word ≡ x → cell_in x ≡ Some d → d ≡ cell
            by None f g = absurd cc
            by (Some x) f g =
                let all : tot (other_copy (sight k)) (things_of k) ≡ 0 = sound.copies.copies_agree in
                let mine : other_cell x.cell (clean_cell (sight k) x.word) ≡ 0 = omega (arith, all, copy_less p.word x f (other_copy (sight k))) in
                let now : other_cell x.cell (Some cell) ≡ 0 = subst (λ z. other_cell x.cell z ≡ 0) (ap (clean_cell (sight k)) (copy_word s.rest.cache p.word x f) ∙ present) mine in
                let same : x.cell ≡ d = cc in
                sym same ∙ same_cells x.cell cell (other_none (same_cell x.cell cell) now)

    -- THE NEXT COLOUR

    module _ (r a : ℕ) (cell : Cell) (lies_it : Among (lies r a cell) (things_of k)) (object_is : cell.object ≡ p.object) where
      abbrev w : ℕ
      w = next_word p.word

      leads : LeadsTo r a w
      leads =
          let l : LeadsTo r a p.word = subst (LeadsTo r a) (ap hw.word object_is ∙ sym (its_word k sound number s here p stands fresh)) (hw.home r a cell lies_it) in
          let server : server_of w ≡ server_of p.word = omega arith in
          let address : address_of w ≡ address_of p.word = omega arith in
          record { server = server ∙ l.server; address = address ∙ l.address }

      -- what has a state at that address is the object's cell
      states_differ : tot (states (r, a)) (things_of k) ≤ 1
      states_differ = omega (arith, sound.words.one_state (r, a), below_less r a (things_of k), (sound_has_sums k sound).servers_differ r)

      its_state : (x : Thing) → Among x (things_of k) → 1 ≤ states (r, a) x → lies r a cell ≡ x
      its_state x h l = only_one (states (r, a)) (lies r a cell) x (things_of k) states_differ lies_it h (same_spot r a r a refl refl) l

      spot_is : (q d : ℕ) → is_spot q d w ≡ true → (q ≡ r) × (d ≡ a)
      spot_is q d e =
          (sym (same_number (server_of w) q (and_left (server_of w == q) (address_of w == d) e)) ∙ leads.server, sym (same_number (address_of w) d (and_right (server_of w == q) (address_of w == d) e)) ∙ leads.address)

      not_issued : (x : Thing) → Among x (things_of k) → is_issued_at (sight k).options.colours (sight k).pointers w x ≡ false
      not_issued (lies q d c2) h = by (is_spot q d w) refl
        where
          by : (b : Bool) → is_spot q d w ≡ b → (b && colour_up_to (word_of_object (sight k).pointers c2.object) w) ≡ false
          by false e = refl
          by true e =
              let m = spot_is q d e in
              let same : cell ≡ c2 = lies_same r a q d cell c2 (its_state (lies q d c2) h (same_spot r a q d m.0 m.1)) in
              let object : c2.object ≡ o = sym (ap (λ (y : Cell). y.object) same) ∙ object_is in
              ap (λ z. colour_up_to (word_of_object (sight k).pointers z) w) object ∙ ap (λ z. colour_up_to z w) told ∙ later_colour p.word
      not_issued (vacant q d m) h = by (is_spot q d w) refl
        where
          by : (b : Bool) → is_spot q d w ≡ b → (b && nat_lt (colour_of w) m) ≡ false
          by false e = refl
          by true e = let u = spot_is q d e in let same = its_state (vacant q d m) h (same_spot r a q d u.0 u.1) in absurd cc
      not_issued (retired q d) h = by (is_spot q d w) refl
        where
          by : (b : Bool) → is_spot q d w ≡ b → (b && nat_lt (colour_of w) (sight k).options.colours) ≡ false
          by false e = refl
          by true e = let u = spot_is q d e in let same = its_state (retired q d) h (same_spot r a q d u.0 u.1) in absurd cc
      not_issued _ h = refl

      is_new : issued (sight k) w ≡ false
      is_new = none_issued (sight k).options.colours w (sight k).pointers (things_of k) not_issued

      -- no copy is there under the next colour
      pub new_colour : is_cached s.rest.cache w ≡ false
      new_colour = by (copy_of s.rest.cache w) refl
        where
          by : (x : Option Copy) → copy_of s.rest.cache w ≡ x → is_some x ≡ false
          by None e = refl
          by (Some x) e =
              let f : ℕ → ℕ = λ v. other (issued (sight k) v) in
              let all : tot (words f) (things_of k) ≡ 0 = sound.words.are_issued in
              let its : other (issued (sight k) x.word) ≡ 0 = omega (arith, all, copy_less w x e (words f)) in
              let was : issued (sight k) w ≡ true = subst (λ v. issued (sight k) v ≡ true) (copy_word s.rest.cache w x e) (other_none _ its) in
              let no : true ≡ false = sym was ∙ is_new in
              absurd cc
