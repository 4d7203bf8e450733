-- What holds of words in the middle of an event, beside the cluster from which it began.
use Rattle.std.proofs.Common.{◌≡◌, ◌⊎◌, inl, inr, ⊎_elim, ℕ, not, ◌||◌, ◌==◌, true, false, Some, refl, sym, ap, ◌∙◌}
use Rattle.law_words_kept.specs.Below.fr_base.declared.name.ObjNo.{ObjNo}
use Rattle.law_words_kept.specs.Below.heap_partition.declared.value.BoxPtr.{BoxPtr}
use Rattle.law_words_kept.specs.Below.heap_partition.declared.value.Owned.TheVariants as owned
use Rattle.law_words_kept.specs.Below.mut_borrow.declared.mutable.MutRef.{MutRef}
use Rattle.law_words_kept.specs.Below.mut_borrow.Refs.{changed}
use Rattle.law_words_kept.specs.Below.thread_state.declared.value.Value.TheVariants as value
use Rattle.law_words_kept.specs.Below.server_model.Servers.{Cluster}
use Rattle.law_words_kept.specs.Below.server_model.Places.{took}
use Rattle.law_words_kept.specs.Below.coherent_memory.Names.{Among}
use Rattle.law_words_kept.specs.Below.coherent_memory.Things.{Location, at_slot, in_cell, lies, things_of}
use Rattle.law_words_kept.specs.Below.coherent_memory.Follow.{value_in, leads}
use Rattle.law_words_kept.specs.Below.coherent_memory.Stale.{Reference, references}
use Rattle.law_words_kept.specs.Below.coherent_memory.Sight.{sight, issued}
use Rattle.law_words_kept.specs.Below.coherent_memory.Coherent.{Holds, are_issued, IsSound}
use Rattle.law_words_kept.specs.Below.coherent_memory.Words.{IsStale}
use Rattle.law_words_kept.proofs.Below.law_words_paths.paths.Sole.{some_is}
use Rattle.law_words_kept.proofs.Below.law_words_paths.paths.Contained.{reference_there}
use Rattle.law_words_kept.specs.Below.law_words_paths.words.Reworded.{HasPlaces, LiesThere, Reworded}
use Rattle.law_words_kept.specs.Below.law_words_paths.words.Unmoved.{seen_at, Taking, takings, Untouched, LeavesWords}
use Rattle.law_words_kept.specs.Below.law_words_paths.words.Soles.{TookIt}
use Rattle.law_words_kept.specs.Below.law_words_paths.words.WordsAfter.{Rewrites, IsNoFirst}
use Rattle.law_words_kept.proofs.Below.law_words_paths.words.Standing.{borrow_stands}
use Rattle.law_words_kept.proofs.Below.law_words_paths.words.Takings.{leads_pointing, reference_at, seen_pointer_at}
use Rattle.law_words_kept.proofs.Below.law_words_paths.words.Grounds.{of_borrows, same_place}
use Rattle.law_words_kept.proofs.Below.law_words_paths.words.Outlines.{leads_outline, soles_stay}
use Rattle.law_words_kept.proofs.Below.law_words_paths.words.Words.{words_go_on, changed_rewords}
use Rattle.law_words_kept.proofs.Below.law_words_paths.words.Beside.{holders_go_on, dirty_goes_on}
use Rattle.law_words_kept.proofs.Below.law_words_paths.words.Past.{first_issued, past_goes_on}
use Rattle.law_words_kept.proofs.Below.law_words_paths.words.Only.{are_only}
use Rattle.law_words_kept.proofs.Below.law_words_paths.words.Unmoved.{stale_at, untouched_stays}
use Rattle.law_words_kept.proofs.stays.Alike.{Alike}
use Rattle.law_words_kept.proofs.stays.Seen.{seen_alike}
use Rattle.law_words_kept.specs.prepared.Requests.{WordsRise}
use Rattle.law_words_kept.proofs.prepared.Rising.{rise_itself, rise_left, rise_changed}

-- the words hold; slots and cells lead where they led, boxes stand where they stood, threads have taken from the same places, references were made from the same words and have their own or one that wasn't issued, nothing more is stale, what is dirty was, and what lay lies
pub record Along (k z : Cluster) : Type 0 where
  pub words : WordsRise k z
  pub slots_lead : (u t i : ℕ) → leads u (value_in (sight z).ground (at_slot t i)) ≡ leads u (value_in (sight k).ground (at_slot t i))
  pub cells_lead : (u : ℕ) (o : ObjNo) → leads u (value_in (sight z).ground (in_cell o)) ≡ leads u (value_in (sight k).ground (in_cell o))
  pub boxes : (l : Location) (p : BoxPtr) → value_in (sight k).ground l ≡ Some (value.Own (owned.Box p)) → value_in (sight z).ground l ≡ Some (value.Own (owned.Box p))
  pub boxes_were : (l : Location) (p : BoxPtr) → value_in (sight z).ground l ≡ Some (value.Own (owned.Box p)) → value_in (sight k).ground l ≡ Some (value.Own (owned.Box p))
  pub takes : (t : Taking) → Among t (takings z.code (sight z).ground.threads) → TookIt k t
  pub made : (l : Location) (r : MutRef) → value_in (sight z).ground l ≡ Some (value.Mut r) → (q : MutRef) × (value_in (sight k).ground l ≡ Some (value.Mut q)) × (q.first ≡ r.first)
  pub word_was : (l : Location) (r : MutRef) → value_in (sight z).ground l ≡ Some (value.Mut r) → (q : MutRef) × (value_in (sight k).ground l ≡ Some (value.Mut q)) × ((r.word ≡ q.word) ⊎ (issued (sight k) r.word ≡ false))
  pub fresher : (l : Location) → IsStale (sight z) (Some l) → IsStale (sight k) (Some l)
  pub dirty_was : (l : Location) (r : MutRef) → value_in (sight z).ground l ≡ Some (value.Mut r) → r.dirty ≡ true → value_in (sight k).ground l ≡ Some (value.Mut r)
  pub lies_on : (r a : ℕ) (o : ObjNo) → LiesThere k r a o → LiesThere z r a o

pub along_itself : (k : Cluster) → IsSound k → Along k k
along_itself k s = record {
  words = rise_itself k s;
  slots_lead = λ u t i. refl;
  cells_lead = λ u o. refl;
  boxes = λ l p e. e;
  boxes_were = λ l p e. e;
  takes = λ t h. record { taking = t; among = h; thread = refl; place = refl };
  made = λ l r e. (r, e, refl);
  word_was = λ l r e. (r, e, inl refl);
  fresher = λ l x. x;
  dirty_was = λ l r e d. e;
  lies_on = λ r a o l. l;
}

-- where words see the same
pub along_alike : (k x z : Cluster) → HasPlaces x → HasPlaces z → z.code ≡ x.code → Alike x.code (things_of x) (things_of z) → Along k x → Along k z
along_alike k x z c d same a t = record {
  words = rise_left stays t.words;
  slots_lead = λ v n i. sym (leads_pointing v (value_in (sight z).ground (at_slot n i))) ∙ ap (leads v) (u.stands (at_slot n i)) ∙ leads_pointing v (value_in (sight x).ground (at_slot n i)) ∙ t.slots_lead v n i;
  cells_lead = λ v o. sym (leads_pointing v (value_in (sight z).ground (in_cell o))) ∙ ap (leads v) (u.stands (in_cell o)) ∙ leads_pointing v (value_in (sight x).ground (in_cell o)) ∙ t.cells_lead v o;
  boxes = λ l p e. seen_pointer_at l (value_in (sight z).ground l) (value.Own (owned.Box p)) (record { at = Some l; word = p.word; object = p.object }) (u.stands l ∙ ap (seen_at l) (t.boxes l p e)) (inl refl);
  boxes_were = λ l p e. t.boxes_were l p (seen_pointer_at l (value_in (sight x).ground l) (value.Own (owned.Box p)) (record { at = Some l; word = p.word; object = p.object }) (sym (u.stands l) ∙ ap (seen_at l) e) (inl refl));
  takes = λ v h. t.takes v (u.takes v h);
  made = λ l r e. t.made l r (reference_at l (value_in (sight x).ground l) r (sym (u.stands l) ∙ ap (seen_at l) e));
  word_was = λ l r e. t.word_was l r (reference_at l (value_in (sight x).ground l) r (sym (u.stands l) ∙ ap (seen_at l) e));
  fresher = λ l s. t.fresher l (stale_at z x d (λ m. sym (u.stands m)) u.takes (Some l) s);
  dirty_was = λ l r e q. t.dirty_was l r (reference_at l (value_in (sight x).ground l) r (sym (u.stands l) ∙ ap (seen_at l) e)) q;
  lies_on = λ r b o l. (let y = t.lies_on r b o l in record { cell = y.cell; among = a.on (lies r b y.cell) y.among; object = y.object });
}
  where
    u : Untouched x z
    u = seen_alike x z c d same a

    stays : LeavesWords x z
    stays = untouched_stays x z c d u

-- WHERE A DIRTY REFERENCE GETS A WORD THAT WASN'T ISSUED

pub no_first : (k x : Cluster) (w : ℕ) (o : ObjNo) → Holds k are_issued → issued (sight k) w ≡ false → HasPlaces x → Along k x → IsNoFirst x o w
no_first k x w o all new d s q m e n f =
    let b = of_borrows (sight x).ground q (things_of x) m in
    let y = s.made q.at q.reference (borrow_stands x d q.at q.reference b.among) in
    let there = reference_there k q.at y.0 y.1 in
    let was : issued (sight k) y.0.first ≡ true = first_issued k all q.at y.0 (of_borrows (sight k).ground (record { at = q.at; holder = Rattle.law_words_kept.specs.Below.coherent_memory.Stale.holder_of (sight k).ground q.at y.0.holder; reference = y.0 }) (things_of k) there).among in
    let t : true ≡ false = sym was ∙ ap (issued (sight k)) (y.2 ∙ sym f) ∙ new in
    absurd cc

pub dirty_changed : (r : MutRef) → r.dirty ≡ true → changed r ≡ true
dirty_changed r d = ap (λ b. b || not (r.word == r.first)) d

pub along_cleaned : (k x z : Cluster) (l : Location) (r : MutRef) (w : ℕ) → Holds k are_issued → issued (sight k) w ≡ false → HasPlaces x → HasPlaces z → Along k x → value_in (sight x).ground l ≡ Some (value.Mut r) → r.dirty ≡ true
    → (IsStale (sight k) (Some l) → ⊥) → Reworded x z l r.object w → value_in (sight z).ground l ≡ Some (value.Mut (took r w)) → ((m a : ℕ) (o : ObjNo) → LiesThere x m a o → LiesThere z m a o) → Along k z
along_cleaned k x z l r w all new c d t e dirty fresh reworded now still = record {
  words =
      rise_changed k x z r.object w t.words (words_go_on x z l r.object w rewrites t.words.has_words) (inr new) (holders_go_on x z l r.object w rewrites) (dirty_goes_on x z l r.object w rewrites t.words.dirty_alone)
      (past_goes_on x z l r.object w rewrites (no_first k x w r.object all new c t) t.words.past_words);
  slots_lead = λ u n i. leads_on u (at_slot n i) ∙ t.slots_lead u n i;
  cells_lead = λ u o. leads_on u (in_cell o) ∙ t.cells_lead u o;
  boxes = boxes_on;
  boxes_were = boxes_back;
  takes = λ v h. (let y = (soles_stay.reworded x z l r.object w reworded).takes v h in let q = t.takes y.taking y.among in record { taking = q.taking; among = q.among; thread = q.thread ∙ y.thread; place = q.place ∙ y.place });
  made = made_on;
  word_was = word_on;
  fresher = λ m s. t.fresher m (changed_rewords x z l r.object w rewrites r e (dirty_changed r dirty) m s);
  dirty_was = was;
  lies_on = λ m a o y. still m a o (t.lies_on m a o y);
}
  where
    rewrites : Rewrites x z l r.object w
    rewrites = record {
      before = c;
      only = are_only.dirty x l r c t.words.dirty_alone e dirty (λ s. fresh (t.fresher l s));
      fresh = λ s. fresh (t.fresher l s);
      firsts = t.words.first_at_holder;
      places = d;
      reworded = reworded;
    }

    boxes_on : (m : Location) (p : BoxPtr) → value_in (sight k).ground m ≡ Some (value.Own (owned.Box p)) → value_in (sight z).ground m ≡ Some (value.Own (owned.Box p))
    boxes_on m p f =
        let g : value_in (sight x).ground m ≡ Some (value.Own (owned.Box p)) = t.boxes m p f in
        ⊎_elim
        (λ (s : m ≡ l).
        let no : Some (value.Own (owned.Box p)) ≡ Some (value.Mut r) = sym g ∙ ap (value_in (sight x).ground) s ∙ e in
        absurd cc)
        (λ (n : m ≡ l → ⊥). reworded.elsewhere m n ∙ g) (same_place m l)

    boxes_back : (m : Location) (p : BoxPtr) → value_in (sight z).ground m ≡ Some (value.Own (owned.Box p)) → value_in (sight k).ground m ≡ Some (value.Own (owned.Box p))
    boxes_back m p f =
        ⊎_elim
        (λ (s : m ≡ l).
        let no : Some (value.Own (owned.Box p)) ≡ Some (value.Mut (took r w)) = sym f ∙ ap (value_in (sight z).ground) s ∙ now in
        absurd cc)
        (λ (n : m ≡ l → ⊥). t.boxes_were m p (sym (reworded.elsewhere m n) ∙ f)) (same_place m l)

    leads_on : (u : ℕ) (m : Location) → leads u (value_in (sight z).ground m) ≡ leads u (value_in (sight x).ground m)
    leads_on u m = sym (leads_outline u (value_in (sight z).ground m)) ∙ ap (leads u) ((soles_stay.reworded x z l r.object w reworded).stands m) ∙ leads_outline u (value_in (sight x).ground m)

    made_on : (m : Location) (q : MutRef) → value_in (sight z).ground m ≡ Some (value.Mut q) → (p : MutRef) × (value_in (sight k).ground m ≡ Some (value.Mut p)) × (p.first ≡ q.first)
    made_on m q f =
        ⊎_elim
        (λ (s : m ≡ l).
        let same : value.Mut (took r w) ≡ value.Mut q = some_is (sym now ∙ ap (value_in (sight z).ground) (sym s) ∙ f) in
        let one : took r w ≡ q = cc in
        let y = t.made m r (ap (value_in (sight x).ground) s ∙ e) in
        (y.0, y.1, y.2 ∙ ap (λ (a : MutRef). a.first) one))
        (λ (n : m ≡ l → ⊥). t.made m q (sym (reworded.elsewhere m n) ∙ f)) (same_place m l)

    word_on : (m : Location) (q : MutRef) → value_in (sight z).ground m ≡ Some (value.Mut q) → (p : MutRef) × (value_in (sight k).ground m ≡ Some (value.Mut p)) × ((q.word ≡ p.word) ⊎ (issued (sight k) q.word ≡ false))
    word_on m q f =
        ⊎_elim
        (λ (s : m ≡ l).
        let same : value.Mut (took r w) ≡ value.Mut q = some_is (sym now ∙ ap (value_in (sight z).ground) (sym s) ∙ f) in
        let one : took r w ≡ q = cc in
        let y = t.made m r (ap (value_in (sight x).ground) s ∙ e) in
        (y.0, y.1, inr (ap (issued (sight k)) (sym (ap (λ (a : MutRef). a.word) one)) ∙ new)))
        (λ (n : m ≡ l → ⊥). t.word_was m q (sym (reworded.elsewhere m n) ∙ f)) (same_place m l)

    was : (m : Location) (q : MutRef) → value_in (sight z).ground m ≡ Some (value.Mut q) → q.dirty ≡ true → value_in (sight k).ground m ≡ Some (value.Mut q)
    was m q f g =
        ⊎_elim
        (λ (s : m ≡ l).
        let same : value.Mut (took r w) ≡ value.Mut q = some_is (sym now ∙ ap (value_in (sight z).ground) (sym s) ∙ f) in
        let one : took r w ≡ q = cc in
        let t : false ≡ true = ap (λ (a : MutRef). a.dirty) one ∙ g in
        absurd cc)
        (λ (n : m ≡ l → ⊥). t.dirty_was m q (sym (reworded.elsewhere m n) ∙ f) g) (same_place m l)
