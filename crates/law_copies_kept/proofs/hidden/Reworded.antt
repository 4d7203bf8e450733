-- A pointer gets a word, or a reference its mark: each object stays what it was, or covered.
use Rattle.std.proofs.Common.{◌≡◌, ◌⊎◌, inl, inr, ⊎_elim, ℕ, true, false, Option, Some, None, refl, sym, ap, ap₂, subst, ◌∙◌}
use Rattle.law_copies_kept.specs.Below.fr_base.declared.name.ObjNo.{ObjNo}
use Rattle.law_copies_kept.specs.Below.heap_partition.declared.value.BoxPtr.{BoxPtr}
use Rattle.law_copies_kept.specs.Below.heap_partition.declared.value.Cell.{Cell}
use Rattle.law_copies_kept.specs.Below.heap_partition.declared.value.Owned.{Owned}
use Rattle.law_copies_kept.specs.Below.heap_partition.declared.value.Owned.TheVariants as owned
use Rattle.law_copies_kept.specs.Below.mut_borrow.declared.mutable.MutRef.{MutRef}
use Rattle.law_copies_kept.specs.Below.thread_state.declared.value.Value.{Value}
use Rattle.law_copies_kept.specs.Below.thread_state.declared.value.Value.TheVariants as value
use Rattle.law_copies_kept.specs.Below.server_model.Servers.{Cluster}
use Rattle.law_copies_kept.specs.Below.coherent_memory.Names.{Among}
use Rattle.law_copies_kept.specs.Below.coherent_memory.Things.{Location, in_cell, things_of}
use Rattle.law_copies_kept.specs.Below.coherent_memory.Follow.{Ground, cell_of, cells_in, value_in, value_of, leads}
use Rattle.law_copies_kept.specs.Below.coherent_memory.Stale.{Reference, references, holder_of}
use Rattle.law_copies_kept.specs.Below.coherent_memory.Sight.{is_object_among, sight, issued}
use Rattle.law_copies_kept.specs.Below.coherent_memory.Words.{IsStale, HasWords}
use Rattle.law_copies_kept.proofs.Below.coherent_memory.Words.{told as told_stale}
use Rattle.law_copies_kept.specs.Below.law_words_paths.paths.Pointing.{Above}
use Rattle.law_copies_kept.proofs.Below.law_words_paths.paths.Contained.{reference_there}
use Rattle.law_copies_kept.proofs.Below.law_words_paths.paths.Sole.{some_is}
use Rattle.law_copies_kept.specs.Below.law_words_paths.words.Reworded.{HasPlaces, Renewed, a_box, a_reference, Reworded}
use Rattle.law_copies_kept.specs.Below.law_words_paths.words.WordsAfter.{Rewrites, WordsAfter}
use Rattle.law_copies_kept.proofs.Below.law_words_paths.words.Standing.{CellOf, cell_among, cell_found, borrow_stands}
use Rattle.law_copies_kept.proofs.Below.law_words_paths.words.Grounds.{same_place, of_borrows, still_stale, newly_stale}
use Rattle.law_copies_kept.proofs.Below.law_words_paths.words.Words.{above_leads, words_go_on}
use Rattle.law_copies_kept.proofs.copies.Clean.{Found, cell_thing, thing_cell}
use Rattle.law_copies_kept.proofs.references.CleanReads.{dirty_one}
use Rattle.law_copies_kept.proofs.references.Worded.{dirty_found, same_truth, objects_differ}
use Rattle.law_copies_kept.proofs.objects.Turned.{Unasked, Same}
use Rattle.law_copies_kept.proofs.hidden.Settled.{Covers, by_word, by_mark, uncopied, Covered, Settled}

-- CELLS BY THEIR VALUES

of_cell : (c : Option Cell) (v : Owned) → value_of c ≡ Some (value.Own v) → (d : Cell) × (c ≡ Some d) × (d.value ≡ v)
of_cell None v e = absurd (cc e)
of_cell (Some d) v e = (d, refl, let z : d.value ≡ v = cc in z)

one_cell : (d e : Cell) → d.object ≡ e.object → d.value ≡ e.value → d ≡ e
one_cell d e o v = ap₂ (λ x u. let z : Cell = record { object = x; value = u } in z) o v

-- where what stands in its cell is the same, it is a cell of the other cluster too
pub cell_by_value : (a b : Cluster) → HasPlaces a → (c : Cell) → value_in (sight b).ground (in_cell c.object) ≡ value_in (sight a).ground (in_cell c.object) → Among c (cells_in (things_of a)) → Among c (cells_in (things_of b))
cell_by_value a b places c same m =
    let y = cell_thing (things_of a) c m in
    let was : value_in (sight a).ground (in_cell c.object) ≡ Some (value.Own c.value) = ap value_of (cell_found c y.0 (things_of a) (places.home_of_each c.object) y.2 y.1) in
    let d = of_cell (cell_of (cells_in (things_of b)) c.object) c.value (same ∙ was) in
    let i = cell_among c.object d.0 (things_of b) d.1 in
    let is : d.0 ≡ c = one_cell d.0 c i.object d.2 in
    thing_cell (things_of b) c i.thing (subst (λ x. CellOf x i.thing) is i.is) i.among

-- REFERENCES TO OTHER OBJECTS

in_cell_is : {p o : ObjNo} → Some (in_cell p) ≡ Some (in_cell o) → p ≡ o
in_cell_is e = cc

no_mutable : (p : BoxPtr) (q : MutRef) → value.Own (owned.Box p) ≡ value.Mut q → ⊥
no_mutable p q e = absurd (cc e)

one_mutable : (r q : MutRef) → value.Mut r ≡ value.Mut q → r ≡ q
one_mutable r q e = cc

-- a reference with another word is to the same object
renewed_object : (w : ℕ) (old new : Value) (q : MutRef) (o : ObjNo) → Renewed w old new → new ≡ value.Mut q → leads 0 (Some old) ≡ Some (in_cell o) → q.object ≡ o
renewed_object w old new q o (a_box p e f) g to = absurd (no_mutable (record p { word = w }) q (sym f ∙ g))
renewed_object w old new q o (a_reference r m e f word first object holder) g to =
    ap (λ (b : MutRef). b.object) (sym (one_mutable m q (sym f ∙ g))) ∙ object ∙ in_cell_is (sym (ap (λ v. leads 0 (Some v)) e) ∙ to)

module _ (x z : Cluster) (l : Location) (o : ObjNo) (w : ℕ) (rewrites : Rewrites x z l o w) where
  abbrev r : Reworded x z l o w
  r = rewrites.reworded

  abbrev gx : Ground
  gx = (sight x).ground

  abbrev gz : Ground
  gz = (sight z).ground

  to_o : leads 0 (value_in gx l) ≡ Some (in_cell o)
  to_o = rewrites.only.to 0

  -- each that isn't stale stays, and stood there
  others_on : (q : Reference) → Among q (references gx (things_of x)) → (IsStale (sight x) (Some q.at) → ⊥) → (q.reference.object ≡ o → ⊥) → Found z q.reference
  others_on q m fresh away =
      let stood : value_in gx q.at ≡ Some (value.Mut q.reference) = borrow_stands x rewrites.before q.at q.reference (of_borrows gx q (things_of x) m).among in
      let apart : q.at ≡ l → ⊥ = λ e. away (in_cell_is (sym (ap (leads 0) (ap (value_in gx) (sym e) ∙ stood)) ∙ to_o)) in
      let stands : value_in gz q.at ≡ Some (value.Mut q.reference) = r.elsewhere q.at apart ∙ stood in
      record {
        reference = record { at = q.at; holder = holder_of gz q.at q.reference.holder; reference = q.reference };
        among = reference_there z q.at q.reference stands;
        same = refl;
        fresh = λ s. ⊎_elim (λ (f : IsStale (sight x) (Some q.at)). fresh f) (λ (a : Above gx q.at l). away (in_cell_is (sym (ap (leads 0) stood) ∙ above_leads x rewrites.firsts 0 q.at l o a to_o)))
            (newly_stale x z l o w r rewrites.before rewrites.places q.at s);
      }

  others_back : (q : Reference) → Among q (references gz (things_of z)) → (IsStale (sight z) (Some q.at) → ⊥) → (q.reference.object ≡ o → ⊥) → Found x q.reference
  others_back q m fresh away =
      let stands : value_in gz q.at ≡ Some (value.Mut q.reference) = borrow_stands z rewrites.places q.at q.reference (of_borrows gz q (things_of z) m).among in
      let apart : q.at ≡ l → ⊥ = λ e. away (renewed_object w r.old r.new q.reference o r.renewed (some_is (sym r.stands ∙ ap (value_in gz) (sym e) ∙ stands)) (sym (ap (leads 0) r.stood) ∙ to_o)) in
      let stood : value_in gx q.at ≡ Some (value.Mut q.reference) = sym (r.elsewhere q.at apart) ∙ stands in
      record {
        reference = record { at = q.at; holder = holder_of gx q.at q.reference.holder; reference = q.reference };
        among = reference_there x q.at q.reference stood;
        same = refl;
        fresh = λ s. fresh (still_stale x z l o w r rewrites.before rewrites.places q.at s);
      }

  -- so another object is changed through a reference where it was
  pub others_marked : (p : ObjNo) → (p ≡ o → ⊥) → is_object_among p (sight z).dirty ≡ is_object_among p (sight x).dirty
  others_marked p away = same_truth (is_object_among p (sight x).dirty) (is_object_among p (sight z).dirty) on back
    where
      on : is_object_among p (sight x).dirty ≡ true → is_object_among p (sight z).dirty ≡ true
      on e =
          let d = dirty_one p (sight x).stale (things_of x) e in
          let q : Reference = record { at = d.at; holder = holder_of gx d.at d.reference.holder; reference = d.reference } in
          let there = reference_there x d.at d.reference (borrow_stands x rewrites.before d.at d.reference d.among) in
          dirty_found z d.reference p (others_on q there (λ s. let no : false ≡ true = sym d.fresh ∙ told_stale x (Some d.at) s in absurd cc) (λ f. away (sym d.object ∙ f))) d.object d.dirty

      back : is_object_among p (sight z).dirty ≡ true → is_object_among p (sight x).dirty ≡ true
      back e =
          let d = dirty_one p (sight z).stale (things_of z) e in
          let q : Reference = record { at = d.at; holder = holder_of gz d.at d.reference.holder; reference = d.reference } in
          let there = reference_there z d.at d.reference (borrow_stands z rewrites.places d.at d.reference d.among) in
          dirty_found x d.reference p (others_back q there (λ s. let no : false ≡ true = sym d.fresh ∙ told_stale z (Some d.at) s in absurd cc) (λ f. away (sym d.object ∙ f))) d.object d.dirty

-- OBJECTS BUT SOME

-- each object but those is what it was, or covered
pub record SettledBut (k z : Cluster) (before : HasWords (sight k)) (E : ObjNo → Type 0) : Type 0 where
  pub after : HasWords (sight z)
  pub each : (p : ObjNo) → (E p → ⊥) → Same k z before after p ⊎ Covered k z before after p

abbrev pub but_any : (k z : Cluster) (before : HasWords (sight k)) (E : ObjNo → Type 0) → Settled k z before → SettledBut k z before E
but_any k z before E s = record { after = s.after; each = λ p f. s.each p }

pub but_none : (k z : Cluster) (before : HasWords (sight k)) (E : ObjNo → Type 0) → ((p : ObjNo) → E p → ⊥) → SettledBut k z before E → Settled k z before
but_none k z before E none s = record { after = s.after; each = λ p. s.each p (none p) }

-- of an object's cell, if it had one, no copy was asked for
abbrev pub NotAsked : (k : Cluster) (before : HasWords (sight k)) (p : ObjNo) → Type 0
NotAsked k before p = (c : Cell) → c.object ≡ p → Among c (cells_in (things_of k)) → (is_object_among p (sight k).dirty ≡ true) ⊎ Unasked k (before.word p)

-- an object whose cell may change: it is covered already
pub record IsCovered (k x : Cluster) (before : HasWords (sight k)) (after : HasWords (sight x)) (p : ObjNo) : Type 0 where
  pub covers : Covers k x before after p
  pub unasked : NotAsked k before p

module _ (k x z : Cluster) (before : HasWords (sight k)) (l : Location) (o : ObjNo) (w : ℕ) (rewrites : Rewrites x z l o w) (E : ObjNo → Type 0) (s : SettledBut k x before E) where
  abbrev its : WordsAfter (sight x) (sight z) o w s.after
  its = words_go_on x z l o w rewrites s.after

  abbrev words_now : HasWords (sight z)
  words_now = its.after

  same_value : (p : ObjNo) → (l ≡ in_cell p → ⊥) → value_in (sight z).ground (in_cell p) ≡ value_in (sight x).ground (in_cell p)
  same_value p away = (rewrites.reworded).elsewhere (in_cell p) (λ e. away (sym e))

  -- another object whose cell isn't there
  other_same : (p : ObjNo) → (p ≡ o → ⊥) → (l ≡ in_cell p → ⊥) → Same k x before s.after p → Same k z before words_now p
  other_same p away apart m = record {
    word = its.others p away ∙ m.word;
    on = λ c e i. cell_by_value x z rewrites.before c (same_value c.object (λ f. apart (f ∙ ap in_cell e))) (m.on c e i);
    back = λ c e i. m.back c e (cell_by_value z x rewrites.places c (sym (same_value c.object (λ f. apart (f ∙ ap in_cell e)))) i);
    dirty = others_marked x z l o w rewrites p away ∙ m.dirty;
  }

  -- a covered one stays so, wherever its cell is
  other_covered : (p : ObjNo) → (p ≡ o → ⊥) → Covers k x before s.after p → Covers k z before words_now p
  other_covered p away (by_word q) = by_word (ap (issued (sight k)) (its.others p away) ∙ q)
  other_covered p away (by_mark q u c e i) = by_mark (others_marked x z l o w rewrites p away ∙ q) (its.others p away ∙ u) c e i
  other_covered p away (uncopied q) = uncopied (subst (Rattle.law_copies_kept.specs.hidden.Hidden.NoneUnder k) (sym (its.others p away)) q)

  -- what becomes of each object but those of a kind; the one has the word, and others have theirs
  pub record Turns (F : ObjNo → Type 0) : Type 0 where
    pub settled : SettledBut k z before F
    pub its_word : (settled.after).word o ≡ w
    pub others : (p : ObjNo) → (p ≡ o → ⊥) → (settled.after).word p ≡ (s.after).word p

  -- the object of a reference that has its mark, with the word that it had, is covered
  marked_covers : (q : MutRef) → value_in (sight z).ground l ≡ Some (value.Mut q) → (IsStale (sight z) (Some l) → ⊥) → q.object ≡ o → q.dirty ≡ true → w ≡ before.word o → (c : Cell) → c.object ≡ o → Among c (cells_in (things_of k)) → Covers k z before words_now o
  marked_covers q there fresh object dirty same c its_cell among =
      let f : Found z q = record { reference = record { at = l; holder = holder_of (sight z).ground l q.holder; reference = q }; among = reference_there z l q there; same = refl; fresh = fresh } in
      by_mark (dirty_found z q o f object dirty) (its.new ∙ same) c its_cell among

  module _ (at_cell : (p : ObjNo) → l ≡ in_cell p → (E p → ⊥) → IsCovered k x before s.after p) where
    others_settle : (p : ObjNo) → (p ≡ o → ⊥) → (E p → ⊥) → Same k z before words_now p ⊎ Covered k z before words_now p
    others_settle p away out =
        ⊎_elim (λ (e : l ≡ in_cell p). let f = at_cell p e out in inr (record { covers = λ c i m. other_covered p away f.covers; unasked = f.unasked }))
        (λ (apart : l ≡ in_cell p → ⊥).
        ⊎_elim (λ (m : Same k x before s.after p). inl (other_same p away apart m))
        (λ (h : Covered k x before s.after p). inr (record {
          covers = λ c e i. other_covered p away (h.covers c e (cell_by_value z x rewrites.places c (sym (same_value c.object (λ f. apart (f ∙ ap in_cell e)))) i));
          unasked = h.unasked;
        })) (s.each p out)) (same_place l (in_cell p))

    -- the object gets a word that wasn't issued
    pub settles_word : issued (sight k) w ≡ false → NotAsked k before o → Turns E
    settles_word new unasked = record {
      settled = record {
        after = words_now;
        each = λ p out. ⊎_elim (λ (e : p ≡ o). inr (record {
          covers = λ c i m. by_word (ap (issued (sight k)) (ap words_now.word e ∙ its.new) ∙ new);
          unasked = subst (λ q. NotAsked k before q) (sym e) unasked;
        })) (λ (away : p ≡ o → ⊥). others_settle p away out) (objects_differ p o);
      };
      its_word = its.new;
      others = its.others;
    }

    -- or its mark, with the word that it had; then it is covered
    pub record Marks (F : ObjNo → Type 0) : Type 0 where
      pub turns : Turns F
      pub covers : Covers k z before ((turns.settled).after) o

    pub settles_mark : (q : MutRef) → value_in (sight z).ground l ≡ Some (value.Mut q) → (IsStale (sight z) (Some l) → ⊥) → q.object ≡ o → q.dirty ≡ true → w ≡ before.word o → (c : Cell) → c.object ≡ o → Among c (cells_in (things_of k)) → NotAsked k before o
        → (F : ObjNo → Type 0) → ((p : ObjNo) → (p ≡ o → ⊥) → (F p → ⊥) → E p → ⊥) → Marks F
    settles_mark q there fresh object dirty same c its_cell among unasked F less = record {
      turns = record {
        settled = record {
          after = words_now;
          each = λ p out. ⊎_elim (λ (e : p ≡ o). inr (record {
            covers = λ d i m. subst (λ n. Covers k z before words_now n) (sym e) (marked_covers q there fresh object dirty same c its_cell among);
            unasked = subst (λ n. NotAsked k before n) (sym e) unasked;
          })) (λ (away : p ≡ o → ⊥). others_settle p away (less p away out)) (objects_differ p o);
        };
        its_word = its.new;
        others = its.others;
      };
      covers = marked_covers q there fresh object dirty same c its_cell among;
    }
