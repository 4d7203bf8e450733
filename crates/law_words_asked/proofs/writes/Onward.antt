-- What each small step of a write hands on, beside the cluster from which its event began.
use Rattle.std.proofs.Common.{◌≡◌, ◌≤◌, ◌⊎◌, ⊎_elim, ℕ, false, true, Option, Some, None, refl, sym, ap, ◌∙◌, arith}
use Rattle.law_results_events.specs.Below.fr_base.declared.name.ObjNo.{ObjNo}
use Rattle.law_results_events.specs.Below.heap_partition.declared.value.Cell.{Cell}
use Rattle.law_results_events.specs.Below.mut_borrow.declared.mutable.MutRef.{MutRef}
use Rattle.law_results_events.specs.Below.thread_state.declared.value.Value.{Value}
use Rattle.law_results_events.specs.Below.thread_state.declared.value.Value.TheVariants as value
use Rattle.law_results_events.specs.Below.server_model.Servers.{Cluster}
use Rattle.law_results_events.specs.Below.coherent_memory.Names.{Among, one, same_object}
use Rattle.law_results_events.specs.Below.coherent_memory.Things.{Location, Thing, in_cell, lies, flies, things_of}
use Rattle.law_results_events.specs.Below.coherent_memory.Follow.{value_in, value_of, cell_of}
use Rattle.law_results_events.specs.Below.coherent_memory.Stale.{Reference}
use Rattle.law_results_events.specs.Below.coherent_memory.Sight.{sight, issued}
use Rattle.law_results_events.specs.Below.coherent_memory.Coherent.{Holds, are_issued, IsSound}
use Rattle.law_results_events.specs.Below.coherent_memory.Weights.{cells}
use Rattle.law_results_events.specs.Below.coherent_memory.Words.{IsStale}
use Rattle.law_results_events.proofs.Below.coherent_memory.Words.{itself}
use Rattle.law_results_events.proofs.Below.law_words_paths.paths.InState.{only_one}
use Rattle.law_results_events.proofs.Below.law_words_paths.paths.Contained.{reference_there}
use Rattle.law_results_events.specs.Below.law_words_paths.words.Reworded.{HasPlaces, LiesThere, Reworded}
use Rattle.law_results_events.specs.Below.law_words_paths.words.Unmoved.{Untouched, LeavesWords}
use Rattle.law_results_events.specs.Below.law_words_paths.words.Soles.{IsSole, SameOutlines, outline}
use Rattle.law_results_events.specs.Below.law_words_paths.words.WordsAfter.{Rewrites, IsNoFirst}
use Rattle.law_results_events.proofs.Below.law_words_paths.words.Standing.{CellOf, lying, flying, cell_among, cell_found, borrow_stands}
use Rattle.law_results_events.proofs.Below.law_words_paths.words.Grounds.{of_borrows, same_place}
use Rattle.law_results_events.proofs.Below.law_words_paths.words.Outlines.{outlined_reference, soles_stay}
use Rattle.law_results_events.proofs.Below.law_words_paths.words.Words.{words_go_on, fresh_go_on}
use Rattle.law_results_events.proofs.Below.law_words_paths.words.Beside.{holders_go_on, dirty_goes_on}
use Rattle.law_results_events.proofs.Below.law_words_paths.words.Past.{first_issued, past_goes_on}
use Rattle.law_results_events.proofs.Below.law_words_paths.words.Only.{are_only}
use Rattle.law_results_events.proofs.Below.law_words_paths.words.Unmoved.{stale_at, untouched_stays}
use Rattle.law_results_events.proofs.Below.law_words_kept.stays.Alike.{Alike}
use Rattle.law_results_events.proofs.Below.law_words_kept.stays.Seen.{seen_alike}
use Rattle.law_results_events.specs.Below.law_words_kept.prepared.Requests.{WordsRise}
use Rattle.law_results_events.proofs.Below.law_words_kept.prepared.Rising.{rise_itself, rise_left, rise_changed}

-- the object lies at some address
pub record Lies (k : Cluster) (o : ObjNo) : Type 0 where
  pub server : ℕ
  pub address : ℕ
  pub there : LiesThere k server address o

-- the pointer at l is the one through which the object is written, isn't stale, and the object lies
pub record IsWritten (k : Cluster) (l : Location) (o : ObjNo) : Type 0 where
  pub sole : IsSole k l o
  pub fresh : IsStale (sight k) (Some l) → ⊥
  pub lies : Lies k o

-- the words hold; all is as it was but for words, marks and pins; no pointer through which an object is written becomes stale; and what lay lies somewhere
pub record Onward (k z : Cluster) : Type 0 where
  pub words : WordsRise k z
  pub outlines : SameOutlines k z
  pub fresh : (l : Location) (o : ObjNo) → IsSole k l o → (IsStale (sight k) (Some l) → ⊥) → IsStale (sight z) (Some l) → ⊥
  pub lies_on : (o : ObjNo) → Lies k o → Lies z o

pub onward_itself : (k : Cluster) → IsSound k → Onward k k
onward_itself k s = record {
  words = rise_itself k s;
  outlines = record { stands = λ l. refl; takes = λ t h. record { taking = t; among = h; thread = refl; place = refl }; standing = λ p e h. record { pointer = p; among = h; at = e; object = refl } };
  fresh = λ l o u f. f;
  lies_on = λ o l. l;
}

-- WHERE WORDS SEE THE SAME

pub holds_alike : {k : Cluster} (x z : Cluster) → HasPlaces x → HasPlaces z → z.code ≡ x.code → Alike x.code (things_of x) (things_of z) → WordsRise k x → WordsRise k z
holds_alike x z c d same a w =
    let stays : LeavesWords x z = untouched_stays x z c d (seen_alike x z c d same a) in
    rise_left stays w

-- and each location has what it had
pub onward_alike : (k x z : Cluster) → HasPlaces x → HasPlaces z → z.code ≡ x.code → ((l : Location) → value_in (sight z).ground l ≡ value_in (sight x).ground l) → Alike x.code (things_of x) (things_of z) → Onward k x → Onward k z
onward_alike k x z c d same stands a t = record {
  words = holds_alike x z c d same a t.words;
  outlines = soles_stay.chain k x z t.outlines (record {
    stands = λ l. ap outline (stands l);
    takes = λ q h. record { taking = q; among = u.takes q h; thread = refl; place = refl };
    standing = λ p e h. record { pointer = p; among = u.standing p e h; at = e; object = refl };
  });
  fresh = λ l o q f s. t.fresh l o q f (stale_at z x d (λ m. sym (u.stands m)) u.takes (Some l) s);
  lies_on = λ o q. (let y = t.lies_on o q in record { server = y.server; address = y.address; there = record { cell = y.there.cell; among = a.on (lies y.server y.address y.there.cell) y.there.among; object = y.there.object } });
}
  where
    u : Untouched x z
    u = seen_alike x z c d same a

-- WHERE A POINTER GETS A WORD

some_none : {A : Type 0} (x : A) → None ≡ Some x → ⊥
some_none x e = absurd (cc e)

-- an object doesn't lie and fly
both_ways : (x : Cluster) → HasPlaces x → (o : ObjNo) (r a w : ℕ) (c d : Cell) → c.object ≡ o → d.object ≡ o → Among (lies r a c) (things_of x) → Among (flies w d) (things_of x) → ⊥
both_ways x p o r a w c d e f m n =
    let at_home : 1 ≤ cells o (lies r a c) = (let q : one (same_object c.object o) ≡ 1 = ap one (itself c.object o e) in omega (arith, q)) in
    let away : 1 ≤ cells o (flies w d) = (let q : one (same_object d.object o) ≡ 1 = ap one (itself d.object o f) in omega (arith, q)) in
    let same : lies r a c ≡ flies w d = only_one (cells o) (lies r a c) (flies w d) (things_of x) (p.home_of_each o) m n at_home away in
    absurd cc

-- each object that lay lies
pub lies_reworded : (x z : Cluster) (l : Location) (o : ObjNo) (w : ℕ) → HasPlaces x → Reworded x z l o w → (p : ObjNo) → Lies x p → Lies z p
lies_reworded x z l o w c r p q = by (cell_of (sight z).ground.cells p) refl there
  where
    cell : Cell
    cell = q.there.cell

    stood : value_in (sight x).ground (in_cell p) ≡ Some (value.Own cell.value)
    stood = ap (λ n. value_of (cell_of (sight x).ground.cells n)) (sym q.there.object) ∙ ap value_of (cell_found cell (lies q.server q.address cell) (things_of x) (c.home_of_each cell.object) (lying q.server q.address) q.there.among)

    there : (v : Value) × (value_in (sight z).ground (in_cell p) ≡ Some v)
    there = ⊎_elim (λ (e : in_cell p ≡ l). (r.new, ap (value_in (sight z).ground) e ∙ r.stands)) (λ (n : in_cell p ≡ l → ⊥). (value.Own cell.value, r.elsewhere (in_cell p) n ∙ stood)) (same_place (in_cell p) l)

    is_there : (d : Cell) (y : Thing) → CellOf d y → d.object ≡ p → Among y (things_of z) → Lies z p
    is_there d _ (lying s a) e m = record { server = s; address = a; there = record { cell = d; among = m; object = e } }
    is_there d _ (flying v) e m = absurd (both_ways x c p q.server q.address v cell d q.there.object e q.there.among (r.loose (flies v d) m refl))

    by : (o2 : Option Cell) → cell_of (sight z).ground.cells p ≡ o2 → (v : Value) × (value_of o2 ≡ Some v) → Lies z p
    by None e u = absurd (some_none u.0 u.1)
    by (Some d) e u = let i = cell_among p d (things_of z) e in is_there d i.thing i.is i.object i.among

-- a word that wasn't issued at the start is no first word of a reference
pub no_first : (k x : Cluster) (w : ℕ) (o : ObjNo) → Holds k are_issued → issued (sight k) w ≡ false → HasPlaces x → Onward k x → IsNoFirst x o w
no_first k x w o all new d s q m e n f =
    let b = of_borrows (sight x).ground q (things_of x) m in
    let y = outlined_reference (value_in (sight k).ground q.at) q.reference (sym (s.outlines.stands q.at) ∙ ap outline (borrow_stands x d q.at q.reference b.among)) in
    let there = reference_there k q.at y.0 y.1 in
    let was : issued (sight k) y.0.first ≡ true = first_issued k all q.at y.0 (of_borrows (sight k).ground (record { at = q.at; holder = Rattle.law_results_events.specs.Below.coherent_memory.Stale.holder_of (sight k).ground q.at y.0.holder; reference = y.0 }) (things_of k) there).among in
    let first : y.0.first ≡ q.reference.first = ap (λ (a : MutRef). a.first) y.2 in
    let t : true ≡ false = sym was ∙ ap (issued (sight k)) (first ∙ sym f) ∙ new in
    absurd cc

-- wherever the object is
pub onward_so : (k x z : Cluster) (l : Location) (o : ObjNo) (w : ℕ) → HasPlaces k → HasPlaces x → HasPlaces z → (t : Onward k x) → IsSole k l o → (IsStale (sight k) (Some l) → ⊥) → (w ≡ t.words.has_words.word o) ⊎ (issued (sight k) w ≡ false) → IsNoFirst x o w → Reworded x z l o w → Onward k z
onward_so k x z l o w b c d t sole fresh risen new r = record {
  words =
      rise_changed k x z o w t.words (words_go_on x z l o w rewrites t.words.has_words) risen (holders_go_on x z l o w rewrites) (dirty_goes_on x z l o w rewrites t.words.dirty_alone)
      (past_goes_on x z l o w rewrites new t.words.past_words);
  outlines = soles_stay.chain k x z t.outlines (soles_stay.reworded x z l o w r);
  fresh = λ m p s f. fresh_go_on x z l o w rewrites m p (soles_stay.soles k x m p b c t.outlines s) (t.fresh m p s f);
  lies_on = λ p q. lies_reworded x z l o w c r p (t.lies_on p q);
}
  where
    rewrites : Rewrites x z l o w
    rewrites = record {
      before = c;
      only = are_only.soles x l o (soles_stay.soles k x l o b c t.outlines sole);
      fresh = t.fresh l o sole fresh;
      firsts = t.words.first_at_holder;
      places = d;
      reworded = r;
    }

pub onward_reworded : (k x z : Cluster) (l : Location) (o : ObjNo) (w : ℕ) → HasPlaces k → HasPlaces x → HasPlaces z → (t : Onward k x) → IsWritten k l o → (w ≡ t.words.has_words.word o) ⊎ (issued (sight k) w ≡ false) → IsNoFirst x o w → Reworded x z l o w → Onward k z
onward_reworded k x z l o w b c d t h risen new r = onward_so k x z l o w b c d t h.sole h.fresh risen new r
